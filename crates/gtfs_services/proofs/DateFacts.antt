-- The dates that texts name.
use Rattle.std.proofs.Common.{◌≡◌, ◌∙◌, sym, ap, refl, arith, ℕ, Bool, true, false, List, None, Some, take, drop, ℤ, pos, cond, ◌≤◌, ◌<◌, ◌+◌, ◌-◌, ◌*◌, ◌^◌, ◌&&◌, [], ◌∷◌, length, lit<, pow-suc}
use Rattle.std.proofs.Props.{props}
use Rattle.std.specs.Prelude.{nat_le}
use Rattle.std.specs.Char.{is_ascii_digit}
use Rattle.std.specs.List.{list_all, fold}
use Rattle.std.specs.Int.{IsInRange}
use Rattle.std.proofs.lemmas.Bool.{leb-true}
use Rattle.std.proofs.lemmas.Int.{ints}
use mathlib.Core.HLevel.{is_prop→PathP}
use Rattle.jiff_core.specs.Calendar.{IsYear, days_in_month}
use Rattle.jiff_core.specs.declared.civil.date.Date.{Date}
use Rattle.gtfs_text.specs.Values.{decimal, is_digits, is_day, date_of, day_of, ymd}
use Rattle.gtfs_services.specs.Dates.{nearest, date_near, date_at, DatesAreNamed}

-- dates of one year, month and day are the same
pub same_parts : (a b : Date) → a.year ≡ b.year → a.month ≡ b.month → a.day ≡ b.day → a ≡ b
same_parts a b p q r = λ i. record {
  year = p i;
  month = q i;
  day = r i;
  year_in = is_prop→PathP (λ j. IsYear (p j)) (λ j. hlevel props) a.year_in b.year_in i;
  month_in = is_prop→PathP (λ j. IsInRange 1 12 (q j)) (λ j. hlevel props) a.month_in b.month_in i;
  day_in = is_prop→PathP (λ j. IsInRange 1 (days_in_month (p j) (q j)) (r j)) (λ j. hlevel props) a.day_in b.day_in i;
}

-- a date is the one that is near its year, month and day
near_is : (d : Date) (year month day : ℕ) → ymd d ≡ (pos year, month, day) → d ≡ date_near year month day
unfolding date_near
near_is d year month day e =
    let y : d.year ≡ pos year = ap (λ (t : ℤ × ℕ × ℕ). t.0) e in
    let m : d.month ≡ month = ap (λ (t : ℤ × ℕ × ℕ). t.1) e in
    let n : d.day ≡ day = ap (λ (t : ℤ × ℕ × ℕ). t.2) e in
    let some_year : year ≤ 9999 = omega (arith, ints, rw y at d.year_in) in
    let some_month : IsInRange 1 12 month = rw m at d.month_in in
    let some_day : IsInRange 1 (days_in_month (pos year) month) day = rw (y, m, n) at d.day_in in
    let same_year : nearest 0 9999 year ≡ year = omega arith in
    let same_month : nearest 1 12 month ≡ month = omega arith in
    let same_day : nearest 1 (days_in_month (pos year) month) day ≡ day = omega arith in
    same_parts d (date_near year month day) (y ∙ ap pos (sym same_year)) (m ∙ sym same_month)
    (n ∙ sym (rw (same_year, same_month) same_day))

-- digits that spell a day
spelled : (year month day : List ℕ) (t : ℤ × ℕ × ℕ) → Some t ≡ day_of year month day → t ≡ (pos (decimal year), decimal month, decimal day)
spelled year month day t e =
    elim (is_digits 4 4 year && is_digits 2 2 month && is_digits 2 2 day && is_day (decimal year) (decimal month) (decimal day)) as (λ b. Some t ≡ cond b (Some (pos (decimal year), decimal month, decimal day)) None → t ≡ (pos (decimal year), decimal month, decimal day)) [
      | true ↦ λ h. cc h
      | false ↦ λ h. absurd (cc h)
    ] e

-- the date that a text names
pub date_is : (d : Date) (text : List ℕ) → Some (ymd d) ≡ date_of text → d ≡ date_at text
unfolding date_at
date_is d text e = near_is d (decimal (take 4 text)) (decimal (take 2 (drop 4 text))) (decimal (drop 6 text)) (spelled (take 4 text) (take 2 (drop 4 text)) (drop 6 text) (ymd d) e)

both : (a b : Bool) → (a && b) ≡ true → (a ≡ true) × (b ≡ true)
both true b h = (refl, h)
both false b h = absurd (cc h)

-- digits spell a number below the power of ten of their count
below : (digits : List ℕ) (n b : ℕ) → list_all is_ascii_digit digits ≡ true → n < b → fold (λ n digit. 10 * n + (digit - 48)) n digits < b * 10 ^ length digits
below [] n b all h = omega arith
below (d ∷ ds) n b all h =
    let p = both (is_ascii_digit d) (list_all is_ascii_digit ds) all in
    let few : d ≤ 57 = digit p.0 in
    let more = below ds (10 * n + (d - 48)) (10 * b) p.1 (omega arith) in
    rw pow-suc (omega (arith, more))
  where
    digit : {d : ℕ} → is_ascii_digit d ≡ true → d ≤ 57
    digit h = grind (arith, h)

few_digits : (count : ℕ) (digits : List ℕ) → is_digits count count digits ≡ true → decimal digits < 10 ^ count
few_digits count digits h =
    let p = both (nat_le count (length digits) && nat_le (length digits) count) (list_all is_ascii_digit digits) h in
    let q = both (nat_le count (length digits)) (nat_le (length digits) count) p.0 in
    let least : count ≤ length digits = leb-true count (length digits) q.0 in
    let most : length digits ≤ count = leb-true (length digits) count q.1 in
    let long : length digits ≡ count = omega arith in
    let small = below digits 0 1 p.1 (lit< tt) in
    rw (← long) (omega (arith, small))

-- the year, month and day of the date of digits that spell a day
named : (year month day : List ℕ) (t : ℤ × ℕ × ℕ) → day_of year month day ≡ Some t → ymd (date_near (decimal year) (decimal month) (decimal day)) ≡ t
unfolding date_near
named year month day t e =
    elim (is_digits 4 4 year && is_digits 2 2 month && is_digits 2 2 day && is_day (decimal year) (decimal month) (decimal day)) as (λ b. (is_digits 4 4 year && is_digits 2 2 month && is_digits 2 2 day && is_day (decimal year) (decimal month) (decimal day)) ≡ b → cond b (Some (pos (decimal year), decimal month, decimal day)) None ≡ Some t → ymd (date_near (decimal year) (decimal month) (decimal day)) ≡ t) [
      | true ↦ λ h s.
          let digits = (both (is_digits 4 4 year) (is_digits 2 2 month) (both (is_digits 4 4 year && is_digits 2 2 month) (is_digits 2 2 day) (both (is_digits 4 4 year && is_digits 2 2 month && is_digits 2 2 day) (is_day (decimal year) (decimal month) (decimal day)) h).0).0).0 in
          let small = few_digits 4 year digits in
          let is = (both (is_digits 4 4 year && is_digits 2 2 month && is_digits 2 2 day) (is_day (decimal year) (decimal month) (decimal day)) h).1 in
          let in_range = day_range (decimal year) (decimal month) (decimal day) is in
          let some_month = in_range.0 in
          let some_day = in_range.1 in
          let same_year : nearest 0 9999 (decimal year) ≡ decimal year = omega (arith, small) in
          let same_month : nearest 1 12 (decimal month) ≡ decimal month = omega (arith, some_month) in
          let same_day : nearest 1 (days_in_month (pos (decimal year)) (decimal month)) (decimal day) ≡ decimal day = omega (arith, some_day) in
          let parts : (pos (decimal year), decimal month, decimal day) ≡ t = cc s in
          rw (same_year, same_month, same_day) parts
      | false ↦ λ h s. absurd (cc s)
    ] refl e
  where
    day_range : (y m d : ℕ) → is_day y m d ≡ true → IsInRange 1 12 m × IsInRange 1 (days_in_month (pos y) m) d
    day_range y m d h = ((grind (arith, h), grind (arith, h)), (grind (arith, h), grind (arith, h)))

-- a text's date has the year, month and day that the text names
pub dates_are_named : DatesAreNamed
unfolding date_at
dates_are_named text day e = named (take 4 text) (take 2 (drop 4 text)) (drop 6 text) day e
