use Rattle.std.proofs.Common.{◌≡◌, None, true, false}
use Rattle.std.proofs.lemmas.Result.{err_from_is_err_and}
use Rattle.timetable.specs.Widths.{byte_count}
use Rattle.tree_codec.specs.Reading.{ends_at, end_follows}
use Rattle.tree_codec.proofs.Loops.{ends_go_on, ends_fail, ends_fall, ends_done}
use Rattle.tree_codec.proofs.decoding.read_ends.Goals as goal

pub returns-in_err-end : goal.returns-in_err-end
returns-in_err-end g c =
    let p = err_from_is_err_and c.from_residual-in_err-end.result c.from_residual-in_err-end.ensures.1 in
    rw (p.1, p.2) (ends_fail c.in_err-end.field-0.0 c.loop.ends.items (byte_count c.args.form.width) c.args.form.stops c.args.count c.loop.counter c.loop.last c.loop.input.bytes.now (ends_at (byte_count c.args.form.width) c.args.form.stops c.args.count None c.args.input.now.bytes.now) c.loop-test.true c.in_err-end.ensures c.loop.invariant)

pub returns-then-not-end_follows : goal.returns-then-not-end_follows
returns-then-not-end_follows g c =
    let f : end_follows c.loop.last c.in_ok-end.end ≡ false = cc in
    ends_fall c.loop.ends.items (byte_count c.args.form.width) c.args.form.stops c.args.count c.loop.counter c.loop.last c.loop.input.bytes.now c.in_ok-end.end c.stop.new.self.bytes.now _ c.loop-test.true c.in_ok-end.ensures f c.loop.invariant

pub loop-preserved : goal.loop-preserved
loop-preserved g c =
    let f : end_follows c.loop.last c.in_ok-end.end ≡ true = cc in
    rw c.in_ok-push.ensures.items (ends_go_on c.loop.ends.items (byte_count c.args.form.width) c.args.form.stops c.args.count c.loop.counter c.loop.last c.loop.input.bytes.now c.in_ok-end.end c.stop.new.self.bytes.now _ c.loop-test.true c.in_ok-end.ensures f c.loop.invariant)

pub returns : goal.returns
returns g c = ends_done c.loop.ends.items (byte_count c.args.form.width) c.args.form.stops c.args.count c.loop.counter c.loop.last c.loop.input.bytes.now _ c.loop-test.false c.loop.invariant
