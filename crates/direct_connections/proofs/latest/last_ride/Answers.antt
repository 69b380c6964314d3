use Rattle.std.proofs.Common.{◌-◌, ◌<◌, ◌≤◌, List, ℕ, length, get_or, arith, ap, sym, subst}
use Rattle.lines.specs.declared.line.Times.{Times}
use Rattle.lines.specs.Lines.{column}
use Rattle.timetable.specs.Journeys.{departs}
use Rattle.direct_connections.specs.Latest.{ArriveBy, IsLastRide}
use Rattle.direct_connections.proofs.RideFacts.{line_there, column_long, none_by, last_most, last_rides}
use Rattle.direct_connections.proofs.latest.last_ride.Goals as goal

pub times_at-requires : goal.times_at-requires
times_at-requires c =
    (line_there c.args.table.now c.args.lines.now.lines c.args.board c.args.alight c.line-line.result.now c.requires.lines.each c.line-line.ensures c.requires.board c.requires.alight c.requires.same).alights

pub count_arriving-count-requires : goal.count_arriving-count-requires
count_arriving-count-requires c =
    let line = c.line-line.result.now in
    let there = line_there c.args.table.now c.args.lines.now.lines c.args.board c.args.alight line c.requires.lines.each c.line-line.ensures c.requires.board c.requires.alight c.requires.same in
    rw c.times_at.ensures.value (c.times_at.ensures.valid.rising c.args.alight.position there.alights)

pub returns-then-count-eq0-clause-none : goal.returns-then-count-eq0-clause-none
returns-then-count-eq0-clause-none c = λ p q near other s on.
    let T = c.args.table.now in
    let lines = c.args.lines.now.lines in
    let line = c.line-line.result.now in
    let there = line_there T lines c.args.board c.args.alight line c.requires.lines.each c.line-line.ensures c.requires.board c.requires.alight c.requires.same in
    let split : ArriveBy (column line c.args.alight.position) c.args.by c.count_arriving-count.result =
    subst (λ (ts : List Times). ArriveBy ts c.args.by c.count_arriving-count.result) c.times_at.ensures.value c.count_arriving-count.ensures in
    let none : ArriveBy (column line c.args.alight.position) c.args.by 0 =
    subst (λ (n : ℕ). ArriveBy (column line c.args.alight.position) c.args.by n) c.if-count-eq0.true split in
    absurd (none_by T lines line p q c.args.by c.args.board c.args.alight c.requires.table there.valid c.times_at-departing.ensures.valid there.is near none other s on)

pub bounds-departing-last : goal.bounds-departing-last
bounds-departing-last c =
    let T = c.args.table.now in
    let line = c.line-line.result.now in
    let there = line_there T c.args.lines.now.lines c.args.board c.args.alight line c.requires.lines.each c.line-line.ensures c.requires.board c.requires.alight c.requires.same in
    let board = column_long T line c.args.board.position there.valid there.boards in
    let alight = column_long T line c.args.alight.position there.valid there.alights in
    let few = c.count_arriving-count.ensures.within in
    let some = c.if-count-eq0.false in
    let one = ap (length {A = Times}) c.times_at-departing.ensures.value in
    let other = ap (length {A = Times}) c.times_at.ensures.value in
    omega (arith, board, alight, few, some, one, other)

pub returns-then-departure-since-clause-none : goal.returns-then-departure-since-clause-none
returns-then-departure-since-clause-none c = λ p q near other s on.
    let T = c.args.table.now in
    let lines = c.args.lines.now.lines in
    let line = c.line-line.result.now in
    let there = line_there T lines c.args.board c.args.alight line c.requires.lines.each c.line-line.ensures c.requires.board c.requires.alight c.requires.same in
    let blank : Times = record { arrival = 0; departure = 0 } in
    let split : ArriveBy (column line c.args.alight.position) c.args.by c.count_arriving-count.result =
    subst (λ (ts : List Times). ArriveBy ts c.args.by c.count_arriving-count.result) c.times_at.ensures.value c.count_arriving-count.ensures in
    let last : ℕ = c.count_arriving-count.result - 1 in
    let some = c.if-count-eq0.false in
    let le = last_most T lines line p q c.args.by c.args.board c.args.alight c.requires.table there.valid c.times_at-departing.ensures.valid there.is near c.count_arriving-count.result last blank split (omega (arith, some)) other s on in
    let less = subst (λ (ts : List Times). (get_or ts last blank).departure < c.args.since) c.times_at-departing.ensures.value c.if-departure-since.true in
    let z : departs T other < c.args.since = omega (arith, le, less) in z

pub returns-clause-found : goal.returns-clause-found
returns-clause-found c = λ p q near.
    let T = c.args.table.now in
    let lines = c.args.lines.now.lines in
    let line = c.line-line.result.now in
    let board = c.args.board in
    let alight = c.args.alight in
    let there = line_there T lines board alight line c.requires.lines.each c.line-line.ensures c.requires.board c.requires.alight c.requires.same in
    let blank : Times = record { arrival = 0; departure = 0 } in
    let split : ArriveBy (column line alight.position) c.args.by c.count_arriving-count.result =
    subst (λ (ts : List Times). ArriveBy ts c.args.by c.count_arriving-count.result) c.times_at.ensures.value c.count_arriving-count.ensures in
    let last : ℕ = c.count_arriving-count.result - 1 in
    let some = c.if-count-eq0.false in
    let late = subst (λ (ts : List Times). c.args.since ≤ (get_or ts last blank).departure) c.times_at-departing.ensures.value c.if-departure-since.false in
    subst (λ (ms : List ℕ). IsLastRide T lines p q c.args.by c.args.since board (record { leg = record { instance = get_or ms last 0; board = board.position; alight = alight.position }; departure = (get_or c.times_at-departing.result.now last blank).departure })) (sym c.members.ensures.value)
    (subst (λ (ts : List Times). IsLastRide T lines p q c.args.by c.args.since board (record { leg = record { instance = get_or line.members last 0; board = board.position; alight = alight.position }; departure = (get_or ts last blank).departure })) (sym c.times_at-departing.ensures.value)
    (last_rides T lines line p q c.args.by board alight c.requires.table there.valid c.times_at-departing.ensures.valid there.is near c.count_arriving-count.result last blank split (omega (arith, some)) c.args.since late))
