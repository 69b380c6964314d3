use Rattle.std.proofs.Common.{◌≡◌, ◌≤◌, length, arith, sym, ◌∙◌, ap, subst}
use Rattle.std.proofs.lemmas.List.Elements.{All-push}
use Rattle.gtfs_tables.specs.Tables.{calls_of}
use Rattle.timetable.specs.declared.parts.Call.{Call}
use Rattle.timetable.specs.Table.{IsRun}
use Rattle.feed_timetable.specs.Instances.{calls_from, calls_left}
use Rattle.feed_timetable.proofs.BeforeFacts.{run_left}
use Rattle.feed_timetable.proofs.Shifting.{rows_are, run_from}
use Rattle.std.proofs.Common.{refl}
use Rattle.feed_timetable.proofs.before.list_left.Goals as goal

pub overflow_cast-trip : goal.overflow_cast-trip
overflow_cast-trip c = omega (arith, c.requires.trip, c.in_ok-calls.ensures.valid.few_trips)

pub returns-clause-runs : goal.returns-clause-runs
returns-clause-runs c =
    let t = c.args.tables.now in
    let trip = c.args.trip in
    let n = length t.stops in
    let calls = calls_of t trip in
    let cs = calls_from c.args.shift.time c.args.shift.from calls in
    let valid = rows_are t trip calls c.in_ok-calls.ensures.valid c.requires.trip refl in
    let run = run_from n trip c.args.shift.time c.args.shift.from calls c.args.times.now valid c.requires.times (omega (arith, c.requires.time)) c.requires.several in
    let many : 2 ≤ length (calls_left c.args.before cs) = omega (arith, c.if-len-lt2.false, c.len.ensures, ap (length {A = Call}) c.in_ok-calls.ensures.left) in
    let made : c.new.result ≡ record { trip = trip; day = 255; calls = calls_left c.args.before cs } =
    c.new.ensures ∙ ap (λ calls. record { trip = trip; day = 255; calls = calls }) c.in_ok-calls.ensures.left in
    rw c.in_ok-push.ensures.items (All-push (IsRun n) c.args.instances.now.items c.new.result c.requires.runs
    (subst (IsRun n) (sym made) (run_left n c.args.before trip cs run many (omega (arith, c.requires.trip, c.in_ok-calls.ensures.valid.few_trips)))))
