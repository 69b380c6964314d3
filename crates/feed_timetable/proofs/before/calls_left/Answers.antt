use Rattle.std.proofs.Common.{◌≡◌, ◌+◌, ◌-◌, ◌<◌, ◌≤◌, length, arith, sym, ◌∙◌, ap, get_or, None, false}
use Rattle.std.proofs.lemmas.List.{get_or_default}
use Rattle.gtfs_tables.specs.Tables.{calls_of}
use Rattle.gtfs_calls.specs.Times.{filled}
use Rattle.gtfs_rows.specs.declared.values.StopTime.{StopTime}
use Rattle.gtfs_calls.specs.declared.times.CallTimes.{CallTimes}
use Rattle.feed_timetable.specs.Instances.{calls_from, calls_left}
use Rattle.feed_timetable.proofs.BeforeFacts.{call_left, call_not_left}
use Rattle.feed_timetable.proofs.Shifting.{length-filled, whole}
use Rattle.feed_timetable.proofs.before.calls_left.Goals as goal
use Rattle.feed_timetable.proofs.before.calls_left.Goals.{then-before-departure+in_ok-push, else-before-departure}

pub bounds-times-position : goal.bounds-times-position
bounds-times-position c =
    omega (
      arith,
      c.loop-position-test.true,
      ap (length {A = CallTimes}) c.requires.times.filled_in,
      length-filled (calls_of c.args.tables.now c.args.trip),
      ap (length {A = StopTime}) c.calls-rows.ensures.value,
    )

pub loop-position-preserved : goal.loop-position-preserved
loop-position-preserved c =
    let rows = c.calls-rows.result.now in
    let position = c.loop-position.position in
    let d : CallTimes = record { arrival = 0; departure = 0 } in
    let own = get_or c.args.times.now position d in
    let in' : position < length c.args.times.now =
    omega (
      arith,
      c.loop-position-test.true,
      ap (length {A = CallTimes}) c.requires.times.filled_in,
      length-filled (calls_of c.args.tables.now c.args.trip),
      ap (length {A = StopTime}) c.calls-rows.ensures.value,
    ) in
    let same : c.args.times.now ≡ filled rows = c.requires.times.filled_in ∙ ap filled (sym c.calls-rows.ensures.value) in
    let is : own ≡ get_or (filled rows) position own = get_or_default c.args.times.now position d own in' ∙ ap (λ ts. get_or ts position own) same in
    let departs = c.saturating_sub-in-loop-position.ensures in
    elim c.if-before-departure.branch [
      | then-before-departure+in_ok-push w ↦
          let late : c.args.before ≤ c.args.shift.time + (own.departure - c.args.shift.from) = omega (arith, w.if-before-departure.true, departs) in
          rw (w.calls-is, w.in_ok-push.ensures.items, c.loop-position.invariant, w.saturating_sub-then-before-departure.ensures, c.saturating_sub.ensures, departs)
          (call_left c.args.before c.args.shift.time c.args.shift.from rows position own w.new.result _ c.loop-position-test.true is w.new.ensures late)
      | else-before-departure w ↦
          let early : c.args.shift.time + (own.departure - c.args.shift.from) < c.args.before = omega (arith, w.if-before-departure.false, departs) in
          rw w.calls-is (c.loop-position.invariant ∙ call_not_left c.args.before c.args.shift.time c.args.shift.from rows position own (record { row = 0; trip = 0; stop = 0; sequence = 0; arrival = None; departure = None; board = false; alight = false }) c.loop-position-test.true is early)
    ]

pub returns-clause-left : goal.returns-clause-left
returns-clause-left c =
    let rows = c.calls-rows.result.now in
    c.loop-position.invariant ∙ (ap (calls_left c.args.before) (whole c.args.shift.time c.args.shift.from rows c.loop-position.position c.loop-position-test.false)
    ∙ ap (λ rows. calls_left c.args.before (calls_from c.args.shift.time c.args.shift.from rows)) c.calls-rows.ensures.value)
