use Rattle.std.proofs.Common.{◌≡◌, ◌∙◌, sym, ap, refl, w16, w8, arith, ℕ, ℤ, pos, ◌<◌, ◌^◌, ◌&&◌, true, false, Option, Some, List, length}
use Rattle.std.specs.Prelude.{nat_le}
use Rattle.std.specs.List.{list_all}
use Rattle.std.specs.Char.{is_ascii_digit}
use Rattle.std.proofs.lemmas.Bool.{and_parts, le-leb, leb-true}
use Rattle.std.proofs.lemmas.Int.{ints, to_z_pos}
use Rattle.jiff_core.specs.Calendar.{IsDate, days_in_month}
use Rattle.gtfs_text.specs.Values.{day_of, is_day, is_digits, decimal}
use Rattle.gtfs_text.proofs.DigitFacts.{no_day, not_day}
use Rattle.gtfs_text.proofs.values.day.Goals as goal

digits-are : (n : ℕ) (text : List ℕ) → is_digits n n text ≡ true → (length text ≡ n) × (list_all is_ascii_digit text ≡ true)
digits-are n text h =
    let outer = and_parts (nat_le n (length text) && nat_le (length text) n) (list_all is_ascii_digit text) h in
    let inner = and_parts (nat_le n (length text)) (nat_le (length text) n) outer.0 in
    let same : length text ≡ n = omega (arith, leb-true n (length text) inner.0, leb-true (length text) n inner.1) in
    (same, outer.1)

-- what n digits spell is below that power of ten
digits-below : (n number : ℕ) (text : List ℕ) → is_digits n n text ≡ true → number < 10 ^ length text → number < 10 ^ n
digits-below n number text h bound = rw (digits-are n text h).0 at bound

pub decimal-year-requires-clause-few : goal.decimal-year-requires-clause-few
decimal-year-requires-clause-few c = omega (arith, (digits-are 4 c.args.year.now (sym c.is_digits.ensures ∙ c.if-not-is_digits.false)).0)

pub decimal-year-requires-clause-digits : goal.decimal-year-requires-clause-digits
decimal-year-requires-clause-digits c = (digits-are 4 c.args.year.now (sym c.is_digits.ensures ∙ c.if-not-is_digits.false)).1

pub decimal-month-requires-clause-few : goal.decimal-month-requires-clause-few
decimal-month-requires-clause-few c = omega (arith, (digits-are 2 c.args.month.now (sym c.is_digits-else-not-is_digits.ensures ∙ c.if-not-is_digits-2.false)).0)

pub decimal-month-requires-clause-digits : goal.decimal-month-requires-clause-digits
decimal-month-requires-clause-digits c = (digits-are 2 c.args.month.now (sym c.is_digits-else-not-is_digits.ensures ∙ c.if-not-is_digits-2.false)).1

pub decimal-day-requires-clause-few : goal.decimal-day-requires-clause-few
decimal-day-requires-clause-few c = omega (arith, (digits-are 2 c.args.day.now (sym c.is_digits-else-not-is_digits-2.ensures ∙ c.if-not-is_digits-3.false)).0)

pub decimal-day-requires-clause-digits : goal.decimal-day-requires-clause-digits
decimal-day-requires-clause-digits c = (digits-are 2 c.args.day.now (sym c.is_digits-else-not-is_digits-2.ensures ∙ c.if-not-is_digits-3.false)).1

pub overflow_cast-year : goal.overflow_cast-year
overflow_cast-year c =
    let few : c.decimal-year.result < 10000 = digits-below 4 c.decimal-year.result c.args.year.now (sym c.is_digits.ensures ∙ c.if-not-is_digits.false) c.decimal-year.ensures.bound in
    omega (arith, few)

pub overflow_cast-month : goal.overflow_cast-month
overflow_cast-month c =
    let few : c.decimal-month.result < 100 =
    digits-below 2 c.decimal-month.result c.args.month.now (sym c.is_digits-else-not-is_digits.ensures ∙ c.if-not-is_digits-2.false) c.decimal-month.ensures.bound in
    omega (arith, few)

pub overflow_cast-day : goal.overflow_cast-day
overflow_cast-day c =
    let few : c.decimal-day.result < 100 =
    digits-below 2 c.decimal-day.result c.args.day.now (sym c.is_digits-else-not-is_digits-2.ensures ∙ c.if-not-is_digits-3.false) c.decimal-day.ensures.bound in
    omega (arith, few)

pub returns-in-Err : goal.returns-in-Err
returns-in-Err c =
    let few : c.decimal-year.result < 10000 = digits-below 4 c.decimal-year.result c.args.year.now (sym c.is_digits.ensures ∙ c.if-not-is_digits.false) c.decimal-year.ensures.bound in
    let months : c.decimal-month.result < 100 =
    digits-below 2 c.decimal-month.result c.args.month.now (sym c.is_digits-else-not-is_digits.ensures ∙ c.if-not-is_digits-2.false) c.decimal-month.ensures.bound in
    let days : c.decimal-day.result < 100 =
    digits-below 2 c.decimal-day.result c.args.day.now (sym c.is_digits-else-not-is_digits-2.ensures ∙ c.if-not-is_digits-3.false) c.decimal-day.ensures.bound in
    let year = to_z_pos w16 c.decimal-year.result (omega (arith, few)) in
    let month = to_z_pos w8 c.decimal-month.result (omega (arith, months)) in
    let day = to_z_pos w8 c.decimal-day.result (omega (arith, days)) in
    let none : is_day c.decimal-year.result c.decimal-month.result c.decimal-day.result ≡ false =
    no_day _ _ _ c.decimal-year.result c.decimal-month.result c.decimal-day.result year month day few (λ is. cc (c.in-Err.ensures.succeeds.1 is)) in
    let same : is_day (decimal c.args.year.now) (decimal c.args.month.now) (decimal c.args.day.now) ≡ false = rw (c.decimal-year.ensures.value, c.decimal-month.ensures.value, c.decimal-day.ensures.value) at none in
    not_day c.args.year.now c.args.month.now c.args.day.now same

a-day : (a b e : ℤ) (year month day : ℕ) → a ≡ pos year → b ≡ pos month → e ≡ pos day → IsDate a b e → is_day year month day ≡ true
a-day a b e year month day ea eb ee date =
    let is = rw (ea, eb, ee) at date in
    rw (
      le-leb 1 month (omega (arith, ints, is.1.0)),
      le-leb month 12 (omega (arith, ints, is.1.1)),
      le-leb 1 day (omega (arith, ints, is.2.0)),
      le-leb day (days_in_month (pos year) month) (omega (arith, ints, is.2.1)),
    ) refl

day-is : (year month day : List ℕ) → is_digits 4 4 year ≡ true → is_digits 2 2 month ≡ true → is_digits 2 2 day ≡ true
    → is_day (decimal year) (decimal month) (decimal day) ≡ true → day_of year month day ≡ Some (pos (decimal year), decimal month, decimal day)
day-is year month day a b c is = rw (a, b, c, is) refl

same-day : {a b : ℤ} {m n d e : ℕ} → a ≡ b → m ≡ n → d ≡ e → ◌≡◌ {A = Option (ℤ × ℕ × ℕ)} (Some (a, m, d)) (Some (b, n, e))
same-day p q r = λ i. Some (p i, q i, r i)

pos-same : (m n : ℕ) → pos m ≡ pos n → m ≡ n
pos-same m n e = cc e

pub returns-in-Ok : goal.returns-in-Ok
returns-in-Ok c =
    let years = sym c.is_digits.ensures ∙ c.if-not-is_digits.false in
    let months = sym c.is_digits-else-not-is_digits.ensures ∙ c.if-not-is_digits-2.false in
    let days = sym c.is_digits-else-not-is_digits-2.ensures ∙ c.if-not-is_digits-3.false in
    let few : c.decimal-year.result < 10000 = digits-below 4 c.decimal-year.result c.args.year.now years c.decimal-year.ensures.bound in
    let low : c.decimal-month.result < 100 = digits-below 2 c.decimal-month.result c.args.month.now months c.decimal-month.ensures.bound in
    let short : c.decimal-day.result < 100 = digits-below 2 c.decimal-day.result c.args.day.now days c.decimal-day.ensures.bound in
    let year = to_z_pos w16 c.decimal-year.result (omega (arith, few)) ∙ ap pos c.decimal-year.ensures.value in
    let month = to_z_pos w8 c.decimal-month.result (omega (arith, low)) ∙ ap pos c.decimal-month.ensures.value in
    let day = to_z_pos w8 c.decimal-day.result (omega (arith, short)) ∙ ap pos c.decimal-day.ensures.value in
    let is = a-day _ _ _ (decimal c.args.year.now) (decimal c.args.month.now) (decimal c.args.day.now) year month day (c.in-Ok.ensures.succeeds.0 refl) in
    same-day (c.in-Ok.ensures.value.0 ∙ year) (pos-same c.in-Ok.date.month (decimal c.args.month.now) (c.in-Ok.ensures.value.1 ∙ month))
    (pos-same c.in-Ok.date.day (decimal c.args.day.now) (c.in-Ok.ensures.value.2 ∙ day))
    ∙ sym (day-is c.args.year.now c.args.month.now c.args.day.now years months days is)
