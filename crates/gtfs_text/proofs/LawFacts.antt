-- What the laws of sheets and values rest on.
use Rattle.std.proofs.Common.{◌≡◌, ◌≢◌, ℕ, suc, ◌+◌, ◌-◌, ◌≤◌, Bool, true, false, List, [], ◌∷◌, ◌++◌, length, take, drop, get_or, refl, cond, arith, sym, ◌∙◌, ap, nat_eq, nat_le, ◌&&◌, Some, None, replicate, length-append, append_assoc}
use Rattle.std.proofs.lemmas.List.{take-append-drop, drop-drop}
use Rattle.std.proofs.Math.Seq.{take-append_seam, drop-append_seam, drop-append-add}
use Rattle.std.proofs.lemmas.Bool.{leb-true}
use Rattle.csv.specs.Reading.{is_bom}
use Rattle.gtfs_text.specs.Sheets.{without_marks, without_front_spaces, without_end_spaces}
use Rattle.gtfs_text.specs.Values.{decimal, is_digits, is_sixtieth, is_time, seconds_of, time_of}
use Rattle.gtfs_text.proofs.TestFacts.{both}
use Rattle.gtfs_text.specs.Laws.{FollowsMarks, StandsBetweenSpaces, SpellsTime}

-- marks

pub follows_marks : (file : List ℕ) → FollowsMarks file (without_marks file)
unfolding without_marks
follows_marks [] = record { marks = 0; whole = refl; no_more = refl }
follows_marks (a ∷ []) = record { marks = 0; whole = refl; no_more = grind arith }
follows_marks (a ∷ b ∷ []) = record { marks = 0; whole = refl; no_more = grind arith }
follows_marks (a ∷ b ∷ c ∷ rest) =
    elim (is_bom a b c) as (λ t. is_bom a b c ≡ t → FollowsMarks (a ∷ b ∷ c ∷ rest) (cond t (without_marks rest) (a ∷ b ∷ c ∷ rest))) [
      | true ↦ λ e.
          let deeper = follows_marks rest in
          let first : a ≡ 239 = grind (arith, e) in
          let second : b ≡ 187 = grind (arith, e) in
          let third : c ≡ 191 = grind (arith, e) in
          record { marks = suc deeper.marks; whole = rw (first, second, third) (ap (λ (xs : List ℕ). 239 ∷ 187 ∷ 191 ∷ xs) deeper.whole); no_more = deeper.no_more }
      | false ↦ λ e. record { marks = 0; whole = refl; no_more = grind (arith, e) }
    ] refl

-- spaces

-- what is left of a field from its front begins with no space
front_part : (field : List ℕ) → (n : ℕ) × (field ≡ replicate n 32 ++ without_front_spaces field) × (get_or (without_front_spaces field) 0 0 ≢ 32)
unfolding without_front_spaces
front_part [] = (0, refl, λ e. cc e)
front_part (c ∷ rest) =
    elim (nat_eq c 32) as (λ t. nat_eq c 32 ≡ t → (n : ℕ) × (c ∷ rest ≡ replicate n 32 ++ cond t (without_front_spaces rest) (c ∷ rest)) × (get_or (cond t (without_front_spaces rest) (c ∷ rest)) 0 0 ≢ 32)) [
      | true ↦ λ e.
          let deeper = front_part rest in
          let space : c ≡ 32 = grind (arith, e) in
          (suc deeper.0, rw space (ap (λ (xs : List ℕ). 32 ∷ xs) deeper.1), deeper.2)
      | false ↦ λ e. (0, refl, λ k. grind (arith, e, k))
    ] refl

last_of_more : (c : ℕ) (xs : List ℕ) → nat_eq (length xs) 0 ≡ false → get_or (c ∷ xs) (length (c ∷ xs) - 1) 0 ≡ get_or xs (length xs - 1) 0
last_of_more c [] e = cc e
last_of_more c (x ∷ xs) e = let next : length (c ∷ x ∷ xs) - 1 ≡ suc (length (x ∷ xs) - 1) = omega arith in rw next refl

no_length : (xs : List ℕ) → nat_eq (length xs) 0 ≡ true → xs ≡ []
no_length [] e = refl
no_length (x ∷ xs) e = absurd (grind (arith, e))

-- what is left of a field from its end ends with no space, and begins as the field does if anything is left
end_part : (field : List ℕ) → (n : ℕ) × (field ≡ without_end_spaces field ++ replicate n 32) × (get_or (without_end_spaces field) (length (without_end_spaces field) - 1) 0 ≢ 32)
unfolding without_end_spaces
end_part [] = (0, refl, λ e. cc e)
end_part (c ∷ rest) =
    let deeper = end_part rest in
    elim (nat_eq c 32) as (λ s. nat_eq c 32 ≡ s → (n : ℕ) × (c ∷ rest ≡ cond (s && nat_eq (length (without_end_spaces rest)) 0) [] (c ∷ without_end_spaces rest) ++ replicate n 32)
    × (get_or (cond (s && nat_eq (length (without_end_spaces rest)) 0) [] (c ∷ without_end_spaces rest)) (length (cond (s && nat_eq (length (without_end_spaces rest)) 0) [] (c ∷ without_end_spaces rest)) - 1) 0 ≢ 32)) [
      | true ↦ λ e.
          let space : c ≡ 32 = grind (arith, e) in
          elim (nat_eq (length (without_end_spaces rest)) 0) as (λ t. nat_eq (length (without_end_spaces rest)) 0 ≡ t → (n : ℕ) × (c ∷ rest ≡ cond t [] (c ∷ without_end_spaces rest) ++ replicate n 32)
          × (get_or (cond t [] (c ∷ without_end_spaces rest)) (length (cond t [] (c ∷ without_end_spaces rest)) - 1) 0 ≢ 32)) [
            | true ↦ λ k.
                let none : without_end_spaces rest ≡ [] = no_length (without_end_spaces rest) k in
                let spaces : rest ≡ replicate deeper.0 32 = deeper.1 ∙ rw none refl in
                (suc deeper.0, rw space (ap (λ (xs : List ℕ). 32 ∷ xs) spaces), λ q. cc q)
            | false ↦ λ k. (deeper.0, ap (λ (xs : List ℕ). c ∷ xs) deeper.1, λ q. deeper.2 (sym (last_of_more c (without_end_spaces rest) k) ∙ q))
          ] refl
      | false ↦ λ e. (
        deeper.0,
        ap (λ (xs : List ℕ). c ∷ xs) deeper.1,
        elim (nat_eq (length (without_end_spaces rest)) 0) as (λ t. nat_eq (length (without_end_spaces rest)) 0 ≡ t → get_or (c ∷ without_end_spaces rest) (length (c ∷ without_end_spaces rest) - 1) 0 ≢ 32) [
          | true ↦ λ k. let none : without_end_spaces rest ≡ [] = no_length (without_end_spaces rest) k in rw none (λ q. grind (arith, e, q))
          | false ↦ λ k. λ q. deeper.2 (sym (last_of_more c (without_end_spaces rest) k) ∙ q)
        ] refl,
      )
    ] refl

-- the first byte of a part that isn't empty is that of the whole
first_of_front : (xs ys : List ℕ) → get_or (xs ++ ys) 0 0 ≢ 32 → get_or xs 0 0 ≢ 32
first_of_front [] ys h = λ e. cc e
first_of_front (x ∷ xs) ys h = h

pub between_spaces : (field : List ℕ) → StandsBetweenSpaces field (without_end_spaces (without_front_spaces field))
between_spaces field =
    let front = front_part field in
    let end = end_part (without_front_spaces field) in
    let whole : field ≡ replicate front.0 32 ++ (without_end_spaces (without_front_spaces field) ++ replicate end.0 32) =
    front.1 ∙ ap (λ (xs : List ℕ). replicate front.0 32 ++ xs) end.1 in
    record {
      before = front.0;
      after = end.0;
      whole = rw append_assoc whole;
      first = first_of_front (without_end_spaces (without_front_spaces field)) (replicate end.0 32) (rw (← end.1) front.2);
      last = end.2;
    }

-- times

some_where : (b : Bool) (x y : ℕ) → cond b (Some x) None ≡ Some y → (b ≡ true) × (x ≡ y)
some_where true x y h = (refl, cc h)
some_where false x y h = cc h

within : (least most : ℕ) (text : List ℕ) → is_digits least most text ≡ true → (least ≤ length text) × (length text ≤ most)
within least most text h =
    let outer = both (nat_le least (length text) && nat_le (length text) most) _ h in
    let inner = both (nat_le least (length text)) (nat_le (length text) most) outer.0 in
    (leb-true least (length text) inner.0, leb-true (length text) most inner.1)

behind_colon : (text : List ℕ) → is_sixtieth text ≡ true → text ≡ 58 ∷ drop 1 text
behind_colon [] h = cc h
behind_colon (c ∷ rest) h =
    let colon = (both (nat_eq c 58) _ (both (nat_eq c 58 && is_digits 2 2 rest) _ h).0).0 in
    let is : c ≡ 58 = grind (arith, colon) in
    rw is refl

-- minutes or seconds, apart from their `:`
record IsSixtieth (text : List ℕ) : Type 0 where
  colon : text ≡ 58 ∷ drop 1 text
  digits : is_digits 2 2 (drop 1 text) ≡ true
  small : decimal (drop 1 text) ≤ 59

sixtieth : (text : List ℕ) → is_sixtieth text ≡ true → IsSixtieth text
sixtieth text h =
    let outer = both (nat_eq (get_or text 0 0) 58 && is_digits 2 2 (drop 1 text)) (nat_le (decimal (drop 1 text)) 59) h in
    let inner = both (nat_eq (get_or text 0 0) 58) (is_digits 2 2 (drop 1 text)) outer.0 in
    record { colon = behind_colon text h; digits = inner.1; small = leb-true (decimal (drop 1 text)) 59 outer.1 }

-- three parts that pass the tests of a time spell it
parts_spell : (hours minutes seconds text : List ℕ) (value : ℕ) → text ≡ hours ++ minutes ++ seconds → is_time hours minutes seconds ≡ true → seconds_of hours minutes seconds ≡ value → SpellsTime text value
parts_spell hours minutes seconds text value whole passes same =
    let last = both (is_digits 1 3 hours && nat_le (decimal hours) 167 && is_sixtieth minutes) (is_sixtieth seconds) passes in
    let middle = both (is_digits 1 3 hours && nat_le (decimal hours) 167) (is_sixtieth minutes) last.0 in
    let first = both (is_digits 1 3 hours) (nat_le (decimal hours) 167) middle.0 in
    let m = sixtieth minutes middle.1 in
    let s = sixtieth seconds last.1 in
    record {
      hours = hours;
      minutes = drop 1 minutes;
      seconds = drop 1 seconds;
      whole = whole ∙ ap (λ (xs : List ℕ). hours ++ xs ++ seconds) m.colon ∙ ap (λ (xs : List ℕ). hours ++ 58 ∷ drop 1 minutes ++ xs) s.colon;
      hour_digits = first.0;
      minute_digits = m.digits;
      second_digits = s.digits;
      hours_within = leb-true (decimal hours) 167 first.1;
      minutes_within = m.small;
      seconds_within = s.small;
      total = sym same;
    }

pub time_spelled : (text : List ℕ) (value : ℕ) → time_of text ≡ Some value → SpellsTime text value
time_spelled text value h =
    let split = length text - 6 in
    let found = some_where (is_time (take split text) (take 3 (drop split text)) (drop (split + 3) text)) (seconds_of (take split text) (take 3 (drop split text)) (drop (split + 3) text)) value h in
    let front : take split text ++ drop split text ≡ text = take-append-drop split text in
    let behind : take 3 (drop split text) ++ drop 3 (drop split text) ≡ drop split text = take-append-drop 3 (drop split text) in
    let further : drop 3 (drop split text) ≡ drop (split + 3) text = drop-drop 3 split text in
    let whole : text ≡ take split text ++ (take 3 (drop split text) ++ drop (split + 3) text) = sym front ∙ ap (λ (xs : List ℕ). take split text ++ xs) (sym behind ∙ ap (λ (xs : List ℕ). take 3 (drop split text) ++ xs) further) in
    parts_spell (take split text) (take 3 (drop split text)) (drop (split + 3) text) text value (rw append_assoc whole) found.0 found.1

-- a text is cut where its last six bytes begin
cut : (hours minutes seconds : List ℕ) → length minutes ≡ 3 → length seconds ≡ 3
    → time_of (hours ++ (minutes ++ seconds)) ≡ cond (is_time hours minutes seconds) (Some (seconds_of hours minutes seconds)) None
cut hours minutes seconds three also =
    let split : length (hours ++ (minutes ++ seconds)) - 6 ≡ length hours = omega (arith, length-append hours (minutes ++ seconds), length-append minutes seconds) in
    let front : take (length hours) (hours ++ (minutes ++ seconds)) ≡ hours = take-append_seam hours (minutes ++ seconds) in
    let behind : drop (length hours) (hours ++ (minutes ++ seconds)) ≡ minutes ++ seconds = drop-append_seam hours (minutes ++ seconds) in
    let middle : take 3 (minutes ++ seconds) ≡ minutes = rw three at (take-append_seam minutes seconds) in
    let last : drop 3 (minutes ++ seconds) ≡ seconds = rw three at (drop-append_seam minutes seconds) in
    let end : drop (length hours + 3) (hours ++ (minutes ++ seconds)) ≡ seconds = drop-append-add hours (minutes ++ seconds) 3 ∙ last in
    let minutes_are : take 3 (drop (length hours) (hours ++ (minutes ++ seconds))) ≡ minutes = ap (take 3) behind ∙ middle in
    rw split (rw (front, minutes_are, end) refl)

pub spelled_time : (text : List ℕ) (value : ℕ) → SpellsTime text value → time_of text ≡ Some value
spelled_time text value t =
    let m = within 2 2 t.minutes t.minute_digits in
    let s = within 2 2 t.seconds t.second_digits in
    let hours_pass : nat_le (decimal t.hours) 167 ≡ true = grind (arith, t.hours_within) in
    let minutes_pass : nat_le (decimal t.minutes) 59 ≡ true = grind (arith, t.minutes_within) in
    let seconds_pass : nat_le (decimal t.seconds) 59 ≡ true = grind (arith, t.seconds_within) in
    let passes : is_time t.hours (58 ∷ t.minutes) (58 ∷ t.seconds) ≡ true = rw (t.hour_digits, hours_pass, t.minute_digits, minutes_pass, t.second_digits, seconds_pass) refl in
    let at : time_of (t.hours ++ (58 ∷ t.minutes ++ 58 ∷ t.seconds)) ≡ cond (is_time t.hours (58 ∷ t.minutes) (58 ∷ t.seconds)) (Some (seconds_of t.hours (58 ∷ t.minutes) (58 ∷ t.seconds))) None =
    cut t.hours (58 ∷ t.minutes) (58 ∷ t.seconds) (omega arith) (omega arith) in
    ap time_of (t.whole ∙ append_assoc t.hours (58 ∷ t.minutes) (58 ∷ t.seconds)) ∙ at ∙ rw (passes, t.total) refl
