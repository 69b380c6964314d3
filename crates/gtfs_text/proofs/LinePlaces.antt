-- The records of lines where they stand in a file.
use Rattle.std.proofs.Common.{◌≡◌, inl, inr, ℕ, zero, suc, ◌+◌, ◌-◌, ◌<◌, ◌≤◌, true, false, List, [], ◌∷◌, ◌++◌, length, take, drop, refl, arith, sym, ◌∙◌, ap, append_assoc, length-append, cond, nat_eq, nat_le, IsUtf8}
use Rattle.std.specs.List.{list_all}
use Rattle.std.proofs.Math.Seq.{take-append_seam, drop-append_seam}
use Rattle.std.proofs.lemmas.List.{drop-take, map-append}
use Rattle.std.proofs.lemmas.Bool.{leb-true, le-leb}
use Rattle.std.proofs.lemmas.List.Folds.{list_all-append}
use Rattle.csv.specs.Reading.{records, default_config, strip_bom}
use Rattle.gtfs_text.specs.Lines.{AreLines, EndsWith, IsFrontLine, between_commas, is_plain, line_at, records_in, rows_at, without_line_feed}
use Rattle.gtfs_text.specs.Sheets.{is_text}
use Rattle.gtfs_text.specs.declared.lines.Place.{Place}
use Rattle.gtfs_text.proofs.CommaFacts.{between_is_text}
use Rattle.gtfs_text.proofs.TestFacts.{both}
use Rattle.gtfs_text.proofs.LineFacts.{feed_gone, front_records, rest_is_no_mark, rest_shorter}

one_record : (line : List ℕ) → 0 < length line → records_in line ≡ between_commas line ∷ []
one_record [] some = absurd (omega (arith, some))
one_record (c ∷ line) some = refl

no_record : (line : List ℕ) → length line ≡ 0 → records_in line ≡ []
no_record [] none = refl
no_record (c ∷ line) none = absurd (omega (arith, none))

-- what follows the front line ends the file
after_feed : (rest : List ℕ) → (front : List ℕ) × (rest ≡ front ++ without_line_feed rest)
after_feed [] = ([], refl)
after_feed (c ∷ rest) =
    elim (nat_eq c 10) as (λ t. (front : List ℕ) × (c ∷ rest ≡ front ++ cond t rest (c ∷ rest))) [ true ↦ (c ∷ [], refl) | false ↦ ([], refl) ]

-- the text between a line and the rest
tail_of : (here line after : List ℕ) → IsFrontLine here line after → (tail : List ℕ) × (here ≡ line ++ (tail ++ after))
tail_of here line after (inl last) = ([], last.0)
tail_of here line after (inr (behind, is, inl whole)) = ([], whole)
tail_of here line after (inr (behind, is, inr whole)) = (13 ∷ [], whole)

pub here_ends : (file rest : List ℕ) → EndsWith file rest → EndsWith file (without_line_feed rest)
here_ends file rest ends =
    let cut = after_feed rest in
    record { front = ends.front ++ cut.0; whole = ends.whole ∙ ap (λ (xs : List ℕ). ends.front ++ xs) cut.1 ∙ sym (append_assoc ends.front cut.0 (without_line_feed rest)) }

pub after_ends : (file here line after : List ℕ) → EndsWith file here → IsFrontLine here line after → EndsWith file after
after_ends file here line after ends front =
    let tail = tail_of here line after front in
    record {
      front = ends.front ++ (line ++ tail.0);
      whole =
          ends.whole ∙ ap (λ (xs : List ℕ). ends.front ++ xs) (tail.1 ∙ sym (append_assoc line tail.0 after))
          ∙ sym (append_assoc ends.front (line ++ tail.0) after);
    }

-- the line stands where the text that it begins does
between : (file front line tail : List ℕ) (start size : ℕ) → file ≡ front ++ (line ++ tail) → start ≡ length front → size ≡ length line → take size (drop start file) ≡ line
between file front line tail start size is at of = rw (is, at, of, drop-append_seam front (line ++ tail)) (take-append_seam line tail)

pub line_stands : (file here line after : List ℕ) (place : Place) → EndsWith file here → IsFrontLine here line after → place.start ≡ length file - length here
    → place.size ≡ length line → line_at file place ≡ line
line_stands file here line after place ends front start size =
    let tail = tail_of here line after front in
    let whole = ap length ends.whole ∙ length-append ends.front here in
    between file ends.front line (tail.0 ++ after) place.start place.size (ends.whole ∙ ap (λ (xs : List ℕ). ends.front ++ xs) tail.1) (omega (arith, whole, start)) size

-- places that lie before one place lie before a later one
later : (most more : ℕ) (places : List Place) → most ≤ more → list_all (λ place. nat_le (place.start + place.size) most) places ≡ true
    → list_all (λ place. nat_le (place.start + place.size) more) places ≡ true
later most more [] up all = refl
later most more (p ∷ ps) up all =
    let each = both (nat_le (p.start + p.size) most) (list_all (λ (place : Place). nat_le (place.start + place.size) most) ps) all in
    let here : nat_le (p.start + p.size) more ≡ true = le-leb (p.start + p.size) more (omega (arith, leb-true (p.start + p.size) most each.0, up)) in
    rw here (later most more ps up each.1)

-- the bytes before that place have the same lines
take_within : (size n : ℕ) (xs : List ℕ) → size ≤ n → take size (take n xs) ≡ take size xs
take_within zero n xs within = refl
take_within (suc size) zero xs within = absurd (omega (arith, within))
take_within (suc size) (suc n) [] within = refl
take_within (suc size) (suc n) (x ∷ xs) within = ap (λ (ys : List ℕ). x ∷ ys) (take_within size n xs (omega (arith, within)))

same_line : (most : ℕ) (file : List ℕ) (place : Place) → place.start + place.size ≤ most → line_at (take most file) place ≡ line_at file place
same_line most file place within =
    let split : most ≡ place.start + (most - place.start) = omega (arith, within) in
    ap (λ (n : ℕ). take place.size (drop place.start (take n file))) split
    ∙ ap (λ (xs : List ℕ). take place.size xs) (drop-take place.start (most - place.start) file)
    ∙ take_within place.size (most - place.start) (drop place.start file) (omega (arith, within))

pub same_rows : (most : ℕ) (file : List ℕ) (places : List Place) → list_all (λ place. nat_le (place.start + place.size) most) places ≡ true
    → rows_at (take most file) places ≡ rows_at file places
same_rows most file [] all = refl
same_rows most file (p ∷ ps) all =
    let each = both (nat_le (p.start + p.size) most) (list_all (λ (place : Place). nat_le (place.start + place.size) most) ps) all in
    rw (same_line most file p (leb-true (p.start + p.size) most each.0), same_rows most file ps each.1) refl

-- a line ends before the rest begins
line_before : (file here line after : List ℕ) (place : Place) → EndsWith file here → IsFrontLine here line after → place.start ≡ length file - length here
    → place.size ≡ length line → place.start + place.size ≤ length file - length after
line_before file here line after place ends front start size =
    let tail = tail_of here line after front in
    let whole = ap length ends.whole ∙ length-append ends.front here in
    let parts = ap length tail.1 ∙ length-append line (tail.0 ++ after) in
    omega (arith, whole, parts, length-append tail.0 after, start, size)

-- at first there is no line
pub no_lines : (text file : List ℕ) → strip_bom text ≡ text → EndsWith file text → AreLines text file [] text
no_lines text file no_mark end =
    record { whole = refl; utf8 = refl; no_mark = no_mark; end = end; before = refl; few = omega (arith, ap length end.whole, length-append end.front text) }

-- one more line with a record
pub line_more : (text file rest line after : List ℕ) (places : List Place) (place : Place) → AreLines text file places rest → 0 < length rest
    → list_all is_plain line ≡ true → IsFrontLine (without_line_feed rest) line after → 0 < length line → IsUtf8 line
    → place.start ≡ length file - length (without_line_feed rest) → place.size ≡ length line → AreLines text file (places ++ place ∷ []) after
line_more text file rest line after places place before left plain front some utf8 start size =
    let here = without_line_feed rest in
    let ends = here_ends file rest before.end in
    let stands = line_stands file here line after place ends front start size in
    let rows : rows_at file (places ++ place ∷ []) ≡ rows_at file places ++ between_commas line ∷ [] =
    map-append (λ (p : Place). between_commas (line_at file p)) places (place ∷ []) ∙ ap (λ (xs : List ℕ). rows_at file places ++ between_commas xs ∷ []) stands in
    let shorter = rest_shorter rest line after front left in
    record {
      whole =
          before.whole
          ∙ ap (λ (more : List (List (List ℕ))). rows_at file places ++ more)
          (feed_gone rest ∙ front_records here line after plain front ∙ ap (λ (one : List (List (List ℕ))). one ++ records default_config after) (one_record line some))
          ∙ sym (append_assoc (rows_at file places) (between_commas line ∷ []) (records default_config after))
          ∙ ap (λ (all : List (List (List ℕ))). all ++ records default_config after) (sym rows);
      utf8 = rw (rows, list_all-append is_text (rows_at file places) (between_commas line ∷ []), before.utf8, between_is_text line utf8) refl;
      no_mark = rest_is_no_mark here line after front;
      end = after_ends file here line after ends front;
      before = rw (
        list_all-append (λ (p : Place). nat_le (p.start + p.size) (length file - length after)) places (place ∷ []),
        later (length file - length rest) (length file - length after) places (omega (arith, shorter)) before.before,
        le-leb (place.start + place.size) (length file - length after) (line_before file here line after place ends front start size),
      ) refl;
      few = omega (arith, shorter, before.few, length-append places (place ∷ []));
    }

-- and one without
pub line_without : (text file rest line after : List ℕ) (places : List Place) → AreLines text file places rest → 0 < length rest
    → list_all is_plain line ≡ true → IsFrontLine (without_line_feed rest) line after → length line ≡ 0 → AreLines text file places after
line_without text file rest line after places before left plain front none =
    let here = without_line_feed rest in
    let shorter = rest_shorter rest line after front left in
    record {
      whole =
          before.whole
          ∙ ap (λ (more : List (List (List ℕ))). rows_at file places ++ more)
          (feed_gone rest ∙ front_records here line after plain front ∙ ap (λ (one : List (List (List ℕ))). one ++ records default_config after) (no_record line none));
      utf8 = before.utf8;
      no_mark = rest_is_no_mark here line after front;
      end = after_ends file here line after (here_ends file rest before.end) front;
      before = later (length file - length rest) (length file - length after) places (omega (arith, shorter)) before.before;
      few = omega (arith, shorter, before.few);
    }
