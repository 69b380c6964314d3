-- The first line of an input.
use Rattle.std.proofs.Common.{◌≡◌, ◌<◌, ◌==◌, ℕ, List, [], ◌∷◌, ◌++◌, Option, None, Some, IfSome, OnSome, length, take, cond, ap, refl, ◌∙◌, sym, subst, arith, append_assoc, append-nil, inl, inr, false, not, ne_eqb, eq-eqb, length-take}
use Rattle.std.proofs.KnownBytes.{Consumes-trans}
use Rattle.std.proofs.lemmas.Bool.{cases_lt}
use Rattle.std.proofs.lemmas.List.Elements.{All-append}
use Rattle.std.proofs.lemmas.List.Splits.{length-slice_split, slice_split_at, slice_split_none}
use Rattle.std.specs.Io.KnownBytes.{Consumes, IsAtEnd}
use Rattle.std.specs.List.{slice_split}
use Rattle.std.specs.Str.Lines.{lines, lines_of_parts, strip_carriage_return}
use Rattle.question_lines.specs.Lines.{HasNoLine, LosesLine, ReadsLine}
use Rattle.question_lines.specs.Reading.{GoesOn, IsWithinLine, LacksFeed, end_of}
use Rattle.question_lines.specs.declared.reading.Part.{Part}
use Rattle.question_lines.specs.declared.reading.Part.TheVariants as parts
use Rattle.question_lines.proofs.Keeping.{kept_last, kept_line, kept_more, nothing_kept}

parts_more : (x : List ℕ) (parts : List (List ℕ)) → 0 < length parts → lines_of_parts (x ∷ parts) ≡ strip_carriage_return x ∷ lines_of_parts parts
parts_more x [] some = absurd (omega arith)
parts_more x (y ∷ more) some = refl

-- what stands before a line feed is a line
lines_feed : (raw rest : List ℕ) → LacksFeed raw → lines (raw ++ 10 ∷ rest) ≡ strip_carriage_return raw ∷ lines rest
lines_feed raw rest plain =
    ap lines_of_parts (slice_split_at (λ b. b == 10) raw 10 rest plain refl)
    ∙ parts_more raw (slice_split (λ b. b == 10) rest) (omega (arith, length-slice_split (λ (b : ℕ). b == 10) rest))

-- the last line may lack its line feed
lines_last : (raw : List ℕ) → LacksFeed raw → 0 < length raw → lines raw ≡ raw ∷ []
lines_last raw plain some =
    ap lines_of_parts (slice_split_none (λ b. b == 10) raw plain)
    ∙ ap (λ none. cond none [] (raw ∷ [])) (ne_eqb (length raw) 0 (λ z. omega (arith, z)))

line_read : (old new : Option (List ℕ)) (raw : List ℕ) → LacksFeed raw → Consumes old new (raw ++ 10 ∷ [])
    → IfSome old (λ input. LosesLine input new (strip_carriage_return (take 65_538 raw)))
line_read None new raw plain lost = tt
line_read (Some input) None raw plain lost = absurd lost
line_read (Some input) (Some rest) raw plain lost = record {
  line = strip_carriage_return raw;
  rest = rest;
  left_is = refl;
  first = ap lines (lost ∙ append_assoc raw (10 ∷ []) rest) ∙ lines_feed raw rest plain;
  is = kept_line raw;
}

last_read : (old mid new : Option (List ℕ)) (raw : List ℕ) → LacksFeed raw → Consumes old mid raw → Consumes mid new [] → OnSome mid (IsAtEnd new)
    → 0 < length raw → IfSome old (λ input. LosesLine input new (take 65_538 raw))
last_read None mid new raw plain lost none ended some = tt
last_read (Some input) None new raw plain lost none ended some = absurd lost
last_read (Some input) (Some rest) None raw plain lost none ended some = absurd none
last_read (Some input) (Some rest) (Some left) raw plain lost none ended some = record {
  line = raw;
  rest = [];
  left_is = ap Some ended;
  first = ap lines (lost ∙ ap (λ l. raw ++ l) (none ∙ ended) ∙ append-nil raw) ∙ lines_last raw plain some;
  is = kept_last raw;
}

none_read : (old mid new : Option (List ℕ)) (raw : List ℕ) → Consumes old mid raw → Consumes mid new [] → OnSome mid (IsAtEnd new)
    → length (take 65_538 raw) ≡ 0 → IfSome old (λ input. HasNoLine input new)
none_read None mid new raw lost none ended empty = tt
none_read (Some input) None new raw lost none ended empty = absurd lost
none_read (Some input) (Some rest) None raw lost none ended empty = absurd none
none_read (Some input) (Some rest) (Some left) raw lost none ended empty = record {
  none = ap lines (lost ∙ ap (λ l. raw ++ l) (none ∙ ended) ∙ append-nil raw ∙ nothing_kept raw empty);
  left_is = ap Some ended;
}

-- the input is at its end, at which a line may have begun
last_or_none : (old mid new : Option (List ℕ)) (raw : List ℕ) → LacksFeed raw → Consumes old mid raw → Consumes mid new [] → OnSome mid (IsAtEnd new)
    → ReadsLine old new (take 65_538 raw) (not (length (take 65_538 raw) == 0))
last_or_none old mid new raw plain lost none ended =
    elim (cases_lt 0 (length (take 65_538 raw))) [
      | inl some ↦
          let test : (length (take 65_538 raw) == 0) ≡ false = ne_eqb (length (take 65_538 raw)) 0 (λ z. omega (arith, z)) in
          subst (λ b. ReadsLine old new (take 65_538 raw) (not b)) (sym test)
          (last_read old mid new raw plain lost none ended (omega (arith, some, length-take 65_538 raw)))
      | inr empty ↦
          let zero : length (take 65_538 raw) ≡ 0 = omega arith in
          subst (λ b. ReadsLine old new (take 65_538 raw) (not b)) (sym (eq-eqb (length (take 65_538 raw)) 0 zero))
          (none_read old mid new raw lost none ended zero)
    ]

-- what a part of a line adds to it
more_plain : (before bytes : List ℕ) → LacksFeed before → LacksFeed bytes → LacksFeed (before ++ bytes)
more_plain before bytes front back = All-append (λ b. (b == 10) ≡ false) before bytes front back

module _ (old mid new : Option (List ℕ)) (kept after : List ℕ) (part : Part) (so_far : IsWithinLine old mid kept) (goes : GoesOn mid new kept after part) where
  all_lost : Consumes old new (so_far.bytes ++ (goes.bytes ++ end_of part))
  all_lost = Consumes-trans old mid new so_far.bytes (goes.bytes ++ end_of part) so_far.lost goes.lost

  all_kept : after ≡ take 65_538 (so_far.bytes ++ goes.bytes)
  all_kept = goes.kept ∙ kept_more so_far.bytes goes.bytes kept so_far.kept_is

  all_plain : LacksFeed (so_far.bytes ++ goes.bytes)
  all_plain = more_plain so_far.bytes goes.bytes so_far.plain goes.plain

  pub line_goes : part ≡ parts.More → IsWithinLine old new after
  line_goes is = record {
    bytes = so_far.bytes ++ goes.bytes;
    plain = all_plain;
    lost = subst (λ l. Consumes old new (so_far.bytes ++ l)) (ap (λ p. goes.bytes ++ end_of p) is ∙ append-nil goes.bytes) all_lost;
    kept_is = all_kept;
  }

  pub line_ends : part ≡ parts.Line → IfSome old (λ input. LosesLine input new (strip_carriage_return after))
  line_ends is =
      subst (λ l. IfSome old (λ input. LosesLine input new (strip_carriage_return l))) (sym all_kept)
      (line_read old new (so_far.bytes ++ goes.bytes) all_plain
      (subst (Consumes old new) (ap (λ p. so_far.bytes ++ (goes.bytes ++ end_of p)) is ∙ sym (append_assoc so_far.bytes goes.bytes (10 ∷ []))) all_lost))

  pub input_ends : part ≡ parts.Rest → ReadsLine old new after (not (length after == 0))
  input_ends is =
      let ended = goes.ended is in
      let nothing : Consumes mid new [] = subst (Consumes mid new) (ap (λ p. goes.bytes ++ end_of p) is ∙ append-nil goes.bytes ∙ ended.0) goes.lost in
      let same : after ≡ take 65_538 so_far.bytes = all_kept ∙ ap (λ l. take 65_538 (so_far.bytes ++ l)) ended.0 ∙ ap (take 65_538) (append-nil so_far.bytes) in
      subst (λ l. ReadsLine old new l (not (length l == 0))) (sym same)
      (last_or_none old mid new so_far.bytes so_far.plain so_far.lost nothing ended.1)
