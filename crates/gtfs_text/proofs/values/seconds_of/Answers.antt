use Rattle.std.proofs.Common.{◌≡◌, refl, arith, ℕ, ◌≤◌, ◌&&◌, Bool, true, false, Some, None, cond, List, drop}
use Rattle.std.specs.Prelude.{nat_le}
use Rattle.std.proofs.lemmas.Bool.{and_parts, leb-true}
use Rattle.gtfs_text.specs.Values.{decimal, is_digits, is_sixtieth}
use Rattle.gtfs_text.proofs.values.seconds_of.Goals as goal

some-of : (b : Bool) (t x : ℕ) → Some x ≡ cond b (Some t) None → (b ≡ true) × (x ≡ t)
some-of true t x h = (refl, cc h)
some-of false t x h = absurd (cc h)

none-of : (b : Bool) (t : ℕ) → None ≡ cond b (Some t) None → b ≡ false
none-of true t h = absurd (cc h)
none-of false t h = refl

-- these are hours of a time
abbrev are_hours : List ℕ → Bool
are_hours text = is_digits 1 3 text && nat_le (decimal text) 167

hours_within : (text : List ℕ) (hours : ℕ) → Some hours ≡ cond (are_hours text) (Some (decimal text)) None → hours ≤ 167
hours_within text hours h =
    let found = some-of (are_hours text) (decimal text) hours h in
    omega (arith, found.1, leb-true (decimal text) 167 (and_parts (is_digits 1 3 text) (nat_le (decimal text) 167) found.0).1)

sixtieth_within : (text : List ℕ) (number : ℕ) → Some number ≡ cond (is_sixtieth text) (Some (decimal (drop 1 text))) None → number ≤ 59
sixtieth_within text number h =
    let found = some-of (is_sixtieth text) (decimal (drop 1 text)) number h in
    omega (arith, found.1, leb-true (decimal (drop 1 text)) 59 (and_parts _ (nat_le (decimal (drop 1 text)) 59) found.0).1)

pub returns-in_err-hours : goal.returns-in_err-hours
returns-in_err-hours c =
    let text = c.args.hours_text.now in
    rw (none-of (are_hours text) (decimal text) c.in_err-hours.ensures) c.from_residual.ensures

pub returns-in_err-minutes : goal.returns-in_err-minutes
returns-in_err-minutes c =
    let hours = some-of (are_hours c.args.hours_text.now) (decimal c.args.hours_text.now) c.in_ok-hours.hours c.in_ok-hours.ensures in
    let minutes = none-of (is_sixtieth c.args.minutes_text.now) (decimal (drop 1 c.args.minutes_text.now)) c.in_err-minutes.ensures in
    rw (hours.0, minutes) c.from_residual-in_err-minutes.ensures

pub returns-in_err-seconds : goal.returns-in_err-seconds
returns-in_err-seconds c =
    let hours = some-of (are_hours c.args.hours_text.now) (decimal c.args.hours_text.now) c.in_ok-hours.hours c.in_ok-hours.ensures in
    let minutes = some-of (is_sixtieth c.args.minutes_text.now) (decimal (drop 1 c.args.minutes_text.now)) c.in_ok-minutes.minutes c.in_ok-minutes.ensures in
    let seconds = none-of (is_sixtieth c.args.seconds_text.now) (decimal (drop 1 c.args.seconds_text.now)) c.in_err-seconds.ensures in
    rw (hours.0, minutes.0, seconds) c.from_residual-in_err-seconds.ensures

pub overflow_mul-result : goal.overflow_mul-result
overflow_mul-result c = omega (arith, hours_within c.args.hours_text.now c.in_ok-hours.hours c.in_ok-hours.ensures)

pub overflow_mul-result-2 : goal.overflow_mul-result-2
overflow_mul-result-2 c = omega (arith, sixtieth_within c.args.minutes_text.now c.in_ok-minutes.minutes c.in_ok-minutes.ensures)

pub overflow_add-result : goal.overflow_add-result
overflow_add-result c =
    let hours = hours_within c.args.hours_text.now c.in_ok-hours.hours c.in_ok-hours.ensures in
    omega (arith, hours, sixtieth_within c.args.minutes_text.now c.in_ok-minutes.minutes c.in_ok-minutes.ensures)

pub overflow_add-result-2 : goal.overflow_add-result-2
overflow_add-result-2 c =
    let hours = hours_within c.args.hours_text.now c.in_ok-hours.hours c.in_ok-hours.ensures in
    let minutes = sixtieth_within c.args.minutes_text.now c.in_ok-minutes.minutes c.in_ok-minutes.ensures in
    omega (arith, hours, minutes, sixtieth_within c.args.seconds_text.now c.in_ok-seconds.seconds c.in_ok-seconds.ensures)

pub returns : goal.returns
returns c =
    let hours = some-of (are_hours c.args.hours_text.now) (decimal c.args.hours_text.now) c.in_ok-hours.hours c.in_ok-hours.ensures in
    let minutes = some-of (is_sixtieth c.args.minutes_text.now) (decimal (drop 1 c.args.minutes_text.now)) c.in_ok-minutes.minutes c.in_ok-minutes.ensures in
    let seconds = some-of (is_sixtieth c.args.seconds_text.now) (decimal (drop 1 c.args.seconds_text.now)) c.in_ok-seconds.seconds c.in_ok-seconds.ensures in
    rw (hours.0, minutes.0, seconds.0, hours.1, minutes.1, seconds.1) refl
