use Rattle.std.proofs.Common.{arith, length}
use Rattle.gtfs_text.proofs.DigitFacts.{digit_at, few_digits}
use Rattle.gtfs_text.proofs.values.decimal.Goals as goal

pub overflow_mul-number : goal.overflow_mul-number
overflow_mul-number c =
    let few = few_digits c.loop-digit.number c.loop-digit.digit-index (length c.args.digits.now) c.loop-digit.invariant.bound c.loop-digit-test.true c.requires.few in
    omega (arith, few)

pub overflow_add-number : goal.overflow_add-number
overflow_add-number c =
    let few = few_digits c.loop-digit.number c.loop-digit.digit-index (length c.args.digits.now) c.loop-digit.invariant.bound c.loop-digit-test.true c.requires.few in
    let digit = digit_at c.args.digits.now c.loop-digit.digit-index c.loop-digit-test.true c.requires.digits in
    omega (arith, few, digit.1)
