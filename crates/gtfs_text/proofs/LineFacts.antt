-- How the crate csv reads lines that have no quotes.
use Rattle.std.proofs.Common.{◌≡◌, ◌⊎◌, inl, inr, ℕ, zero, suc, ◌+◌, ◌<◌, true, false, List, [], ◌∷◌, ◌++◌, length, refl, cond, arith, sym, ◌∙◌, ap, Option, Some, None, nat_eq, append_assoc, length-append}
use Rattle.std.proofs.lemmas.List.{append-nil}
use Rattle.std.specs.List.{list_all, onto_first}
use Rattle.std.proofs.lemmas.List.Splits.{slice_split-cons_yes, slice_split-cons_no, length-slice_split}
use Rattle.std.specs.Prelude.{◌==◌}
use Rattle.csv.specs.Machine.{Read, step, is_end, ends_at_end, next_record, fields_after, field_after}
use Rattle.csv.specs.Reading.{records, records_from, records_next, default_config, strip_bom}
use Rattle.csv.specs.declared.parser.Action.{Action}
use Rattle.csv.specs.declared.parser.Action.TheVariants as act
use Rattle.csv.specs.declared.parser.State.{State}
use Rattle.csv.specs.declared.parser.State.TheVariants as st
use Rattle.gtfs_text.specs.Lines.{IsFrontLine, between_commas, is_plain, records_in, without_line_feed}
use Rattle.gtfs_text.proofs.RecordFacts.{record_takes}
use Rattle.gtfs_text.proofs.TestFacts.{both}

-- at the front of a field, or in it
abbrev pub IsInRecord : State → Type 0
IsInRecord s = (s ≡ st.StartField) ⊎ (s ≡ st.InField)

plain_is : (c : ℕ) → is_plain c ≡ true → (nat_eq c 34 ≡ false) × (nat_eq c 13 ≡ false) × (nat_eq c 10 ≡ false)
plain_is c h = (grind (arith, h), grind (arith, h), grind (arith, h))

-- such a byte ends a field, or joins it
plain_step : (s : State) (c : ℕ) → IsInRecord s → is_plain c ≡ true
    → step default_config s c ≡ cond (nat_eq c 44) (st.StartField, act.EndField) (st.InField, act.Copy)
plain_step s c (inl e) h = let is = plain_is c h in rw (e, is.0, is.1, is.2) refl
plain_step s c (inr e) h = let is = plain_is c h in rw (e, is.1, is.2) refl

-- a line begins with a field
start_step : (c : ℕ) → is_plain c ≡ true → step default_config st.StartRecord c ≡ step default_config st.StartField c
start_step c h = let is = plain_is c h in rw (is.0, is.1, is.2) refl

-- what follows a line ends its record: the state then, and the text that is left
abbrev pub Ends : List ℕ → State → List ℕ → Type 0
Ends tail after rest =
    (s : State) (fields : List (List ℕ)) (field : List ℕ) → IsInRecord s → next_record default_config s fields field tail ≡ Some (fields ++ field ∷ [], after, rest)

ends_text : Ends [] st.StartRecord []
unfolding next_record
ends_text s fields field (inl e) = rw e refl
ends_text s fields field (inr e) = rw e refl

ends_line : (rest : List ℕ) → Ends (10 ∷ rest) st.StartRecord rest
unfolding next_record
ends_line rest s fields field (inl e) = rw e refl
ends_line rest s fields field (inr e) = rw e refl

ends_at_return : (rest : List ℕ) → Ends (13 ∷ rest) st.AfterCr rest
unfolding next_record
ends_at_return rest s fields field (inl e) = rw e refl
ends_at_return rest s fields field (inr e) = rw e refl

-- fields of which the first goes on from these bytes
abbrev joined : List ℕ → List (List ℕ) → List (List ℕ)
joined field [] = field ∷ []
joined field (first ∷ fields) = (field ++ first) ∷ fields

joined_onto : (field : List ℕ) (c : ℕ) (fields : List (List ℕ)) → joined field (onto_first c fields) ≡ joined (field ++ c ∷ []) fields
joined_onto field c [] = refl
joined_onto field c (first ∷ fields) = ap (λ (f : List ℕ). f ∷ fields) (sym (append_assoc field (c ∷ []) first))

joined_none : (fields : List (List ℕ)) → 0 < length fields → joined [] fields ≡ fields
joined_none [] some = absurd (omega (arith, some))
joined_none (first ∷ fields) some = refl

some_fields : (line : List ℕ) → 0 < length (between_commas line)
some_fields line = omega (arith, length-slice_split (λ c. c == 44) line)

-- one byte, which ends no record
one_byte : (s after : State) (action : Action) (fields : List (List ℕ)) (field : List ℕ) (c : ℕ) (rest : List ℕ) → step default_config s c ≡ (after, action) → is_end action ≡ false
    → next_record default_config s fields field (c ∷ rest) ≡ next_record default_config after (fields_after action fields field) (field_after action c field) rest
unfolding next_record
one_byte s after action fields field c rest e goes = rw (e, goes) refl

line_read : (line tail : List ℕ) (after : State) (rest : List ℕ) → Ends tail after rest → list_all is_plain line ≡ true
    → (s : State) (fields : List (List ℕ)) (field : List ℕ) → IsInRecord s
    → next_record default_config s fields field (line ++ tail) ≡ Some (fields ++ joined field (between_commas line), after, rest)
line_read [] tail after rest ends plain s fields field is =
    ends s fields field is ∙ ap (λ (f : List ℕ). Some (fields ++ f ∷ [], after, rest)) (sym (append-nil field))
line_read (c ∷ line) tail after rest ends plain s fields field is =
    let each = both (is_plain c) (list_all is_plain line) plain in
    let is_step = plain_step s c is each.0 in
    elim (nat_eq c 44) as (λ t. nat_eq c 44 ≡ t → step default_config s c ≡ cond t (st.StartField, act.EndField) (st.InField, act.Copy)
    → next_record default_config s fields field (c ∷ line ++ tail) ≡ Some (fields ++ joined field (between_commas (c ∷ line)), after, rest)) [
      | true ↦ λ comma e.
          let parts : between_commas (c ∷ line) ≡ [] ∷ between_commas line = slice_split-cons_yes (λ b. b == 44) c line comma in
          one_byte s st.StartField act.EndField fields field c (line ++ tail) e refl
          ∙ line_read line tail after rest ends each.1 st.StartField (fields ++ field ∷ []) [] (inl refl)
          ∙ ap (λ (fs : List (List ℕ)). Some (fs, after, rest)) (
          ap (λ (fs : List (List ℕ)). (fields ++ field ∷ []) ++ fs) (joined_none (between_commas line) (some_fields line))
          ∙ append_assoc fields (field ∷ []) (between_commas line)
          ∙ ap (λ (f : List ℕ). fields ++ f ∷ between_commas line) (sym (append-nil field))
          ∙ ap (λ (fs : List (List ℕ)). fields ++ joined field fs) (sym parts))
      | false ↦ λ other e.
          let parts : between_commas (c ∷ line) ≡ onto_first c (between_commas line) = slice_split-cons_no (λ b. b == 44) c line other in
          one_byte s st.InField act.Copy fields field c (line ++ tail) e refl
          ∙ line_read line tail after rest ends each.1 st.InField fields (field ++ c ∷ []) (inr refl)
          ∙ ap (λ (fs : List (List ℕ)). Some (fields ++ fs, after, rest)) (sym (joined_onto field c (between_commas line)) ∙ ap (joined field) (sym parts))
    ] refl is_step

-- the record of a line that isn't empty
record_read : (c : ℕ) (line tail : List ℕ) (after : State) (rest : List ℕ) → Ends tail after rest → list_all is_plain (c ∷ line) ≡ true
    → next_record default_config st.StartRecord [] [] (c ∷ line ++ tail) ≡ Some (between_commas (c ∷ line), after, rest)
unfolding next_record
record_read c line tail after rest ends plain =
    let each = both (is_plain c) (list_all is_plain line) plain in
    let same : next_record default_config st.StartRecord [] [] (c ∷ line ++ tail) ≡ next_record default_config st.StartField [] [] (c ∷ line ++ tail) = rw (start_step c each.0) refl in
    same ∙ line_read (c ∷ line) tail after rest ends plain st.StartField [] [] (inl refl)
    ∙ ap (λ (fs : List (List ℕ)). Some (fs, after, rest)) (joined_none (between_commas (c ∷ line)) (some_fields (c ∷ line)))

-- as many turns as there are bytes, and one, find all records
enough_from : (n m : ℕ) (s : State) (xs : List ℕ) → ends_at_end s ≡ false → length xs < n → length xs < m
    → records_from default_config n s xs ≡ records_from default_config m s xs
unfolding records_from
enough_from zero m s xs e ln lm = absurd (omega (arith, ln))
enough_from (suc n) zero s xs e ln lm = absurd (omega (arith, lm))
enough_from (suc n) (suc m) s xs e ln lm = by (next_record default_config s [] [] xs) refl (enough_from n m)
  where
    by : (o : Option Read) → next_record default_config s [] [] xs ≡ o
        → ((t : State) (ys : List ℕ) → ends_at_end t ≡ false → length ys < n → length ys < m → records_from default_config n t ys ≡ records_from default_config m t ys)
        → records_next (records_from default_config n) o ≡ records_next (records_from default_config m) o
    by None is deeper = refl
    by (Some p) is deeper =
        let took = record_takes s xs p e is in
        ap (λ (rows : List (List (List ℕ))). p.0 ∷ rows) (deeper p.1 p.2 took.1 (omega (arith, took.0, ln)) (omega (arith, took.0, lm)))

enough : (n m : ℕ) (xs : List ℕ) → length xs < n → length xs < m → records_from default_config n st.StartRecord xs ≡ records_from default_config m st.StartRecord xs
enough n m xs ln lm = enough_from n m st.StartRecord xs refl ln lm

-- the end of a line at the front of a text is passed over
skips : (n c : ℕ) (xs : List ℕ) → (c ≡ 10) ⊎ (c ≡ 13) → records_from default_config n st.StartRecord (c ∷ xs) ≡ records_from default_config n st.StartRecord xs
unfolding records_from next_record
skips zero c xs e = refl
skips (suc n) c xs (inl e) = rw e refl
skips (suc n) c xs (inr e) = rw e refl

skips_after : (n : ℕ) (xs : List ℕ) → records_from default_config n st.AfterCr (10 ∷ xs) ≡ records_from default_config n st.StartRecord xs
unfolding records_from next_record
skips_after zero xs = refl
skips_after (suc n) xs = refl

pub passes_end : (c : ℕ) (xs : List ℕ) → (c ≡ 10) ⊎ (c ≡ 13) → records default_config (c ∷ xs) ≡ records default_config xs
passes_end c xs e = skips (length (c ∷ xs) + 1) c xs e ∙ enough (length (c ∷ xs) + 1) (length xs + 1) xs (omega arith) (omega arith)

pub no_records : records default_config [] ≡ []
unfolding records_from next_record
no_records = refl

-- the records of a text that begins with a line
one_more : (n : ℕ) (xs : List ℕ) (p : Read) → next_record default_config st.StartRecord [] [] xs ≡ Some p → records_from default_config (suc n) st.StartRecord xs ≡ p.0 ∷ records_from default_config n p.1 p.2
unfolding records_from
one_more n xs p e = rw e refl

records_line : (c : ℕ) (line tail : List ℕ) (after : State) (rest : List ℕ) → Ends tail after rest → list_all is_plain (c ∷ line) ≡ true
    → records default_config (c ∷ line ++ tail) ≡ between_commas (c ∷ line) ∷ records_from default_config (length (c ∷ line ++ tail)) after rest
records_line c line tail after rest ends plain =
    let n : length (c ∷ line ++ tail) + 1 ≡ suc (length (c ∷ line ++ tail)) = omega arith in
    ap (λ (k : ℕ). records_from default_config k st.StartRecord (c ∷ line ++ tail)) n
    ∙ one_more (length (c ∷ line ++ tail)) (c ∷ line ++ tail) (between_commas (c ∷ line), after, rest) (record_read c line tail after rest ends plain)

-- at the end of the text, at a line feed, and at a carriage return before one
line_last : (line : List ℕ) → list_all is_plain line ≡ true → records default_config (line ++ []) ≡ records_in line ++ []
line_last [] plain = no_records
line_last (c ∷ line) plain =
    records_line c line [] st.StartRecord [] ends_text plain
    ∙ ap (λ (rows : List (List (List ℕ))). between_commas (c ∷ line) ∷ rows) (enough (length (c ∷ line ++ [])) 1 [] (omega arith) (omega arith) ∙ no_records)

line_at_feed : (line after : List ℕ) → list_all is_plain line ≡ true → records default_config (line ++ 10 ∷ after) ≡ records_in line ++ records default_config (10 ∷ after)
line_at_feed [] after plain = refl
line_at_feed (c ∷ line) after plain =
    records_line c line (10 ∷ after) st.StartRecord after (ends_line after) plain
    ∙ ap (λ (rows : List (List (List ℕ))). between_commas (c ∷ line) ∷ rows)
    (enough (length (c ∷ line ++ 10 ∷ after)) (length after + 1) after (omega (arith, length-append line (10 ∷ after))) (omega arith) ∙ sym (passes_end 10 after (inl refl)))

line_at_return : (line after : List ℕ) → list_all is_plain line ≡ true → records default_config (line ++ 13 ∷ 10 ∷ after) ≡ records_in line ++ records default_config (10 ∷ after)
line_at_return [] after plain = passes_end 13 (10 ∷ after) (inr refl)
line_at_return (c ∷ line) after plain =
    records_line c line (13 ∷ 10 ∷ after) st.AfterCr (10 ∷ after) (ends_at_return (10 ∷ after)) plain
    ∙ ap (λ (rows : List (List (List ℕ))). between_commas (c ∷ line) ∷ rows)
    (skips_after (length (c ∷ line ++ 13 ∷ 10 ∷ after)) after
    ∙ enough (length (c ∷ line ++ 13 ∷ 10 ∷ after)) (length after + 1) after (omega (arith, length-append line (13 ∷ 10 ∷ after))) (omega arith) ∙ sym (passes_end 10 after (inl refl)))

pub front_records : (text line rest : List ℕ) → list_all is_plain line ≡ true → IsFrontLine text line rest → records default_config text ≡ records_in line ++ records default_config rest
front_records text line rest plain (inl last) =
    rw (last.0, last.1) (line_last line plain ∙ ap (λ (rows : List (List (List ℕ))). records_in line ++ rows) (sym no_records))
front_records text line rest plain (inr (after, e, inl whole)) = rw (whole, e) (line_at_feed line after plain)
front_records text line rest plain (inr (after, e, inr whole)) = rw (whole, e) (line_at_return line after plain)

-- a text without the line feed at its front has the same records
pub feed_gone : (text : List ℕ) → records default_config text ≡ records default_config (without_line_feed text)
feed_gone [] = refl
feed_gone (c ∷ text) =
    elim (nat_eq c 10) as (λ t. nat_eq c 10 ≡ t → records default_config (c ∷ text) ≡ records default_config (cond t text (c ∷ text)))
    [ true ↦ λ e. passes_end c text (inl (grind (arith, e))) | false ↦ λ e. refl ] refl

-- no mark begins with a line feed
feed_is_no_mark : (after : List ℕ) → strip_bom (10 ∷ after) ≡ 10 ∷ after
unfolding strip_bom
feed_is_no_mark [] = refl
feed_is_no_mark (a ∷ []) = refl
feed_is_no_mark (a ∷ b ∷ after) = refl

nothing_is_no_mark : strip_bom [] ≡ []
unfolding strip_bom
nothing_is_no_mark = refl

pub rest_is_no_mark : (text line rest : List ℕ) → IsFrontLine text line rest → strip_bom rest ≡ rest
rest_is_no_mark text line rest (inl last) = rw last.1 nothing_is_no_mark
rest_is_no_mark text line rest (inr (after, e, whole)) = rw e (feed_is_no_mark after)

-- the text from a line's feed on is shorter
fed : (text line rest after : List ℕ) → rest ≡ 10 ∷ after → (without_line_feed text ≡ line ++ rest) ⊎ (without_line_feed text ≡ line ++ 13 ∷ rest)
    → 0 < length text → length rest < length text
fed [] line rest after e whole some = absurd (omega (arith, some))
fed (c ∷ text) line rest after e whole some =
    elim (nat_eq c 10) as (λ t. nat_eq c 10 ≡ t → (cond t text (c ∷ text) ≡ line ++ rest) ⊎ (cond t text (c ∷ text) ≡ line ++ 13 ∷ rest) → length rest < suc (length text)) [
      | true ↦ λ is w. gone w
      | false ↦ λ is w. kept is line w
    ] refl whole
  where
    gone : (text ≡ line ++ rest) ⊎ (text ≡ line ++ 13 ∷ rest) → length rest < suc (length text)
    gone (inl w) = omega (arith, ap length w, length-append line rest)
    gone (inr w) = omega (arith, ap length w, length-append line (13 ∷ rest))

    kept : nat_eq c 10 ≡ false → (line : List ℕ) → (c ∷ text ≡ line ++ rest) ⊎ (c ∷ text ≡ line ++ 13 ∷ rest) → length rest < suc (length text)
    kept other line (inr w) = omega (arith, ap length w, length-append line (13 ∷ rest))
    kept other [] (inl w) = absurd (cc (rw e at w, other))
    kept other (d ∷ line) (inl w) = omega (arith, ap length w, length-append line rest)

pub rest_shorter : (text line rest : List ℕ) → IsFrontLine (without_line_feed text) line rest → 0 < length text → length rest < length text
rest_shorter text line rest (inl last) some = rw last.1 some
rest_shorter text line rest (inr (after, e, whole)) some = fed text line rest after e whole some
