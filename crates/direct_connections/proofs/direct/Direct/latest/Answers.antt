use Rattle.std.proofs.Common.{◌≡◌, ◌<◌, ◌≤◌, List, [], length, get_or, sym, ◌∙◌, ap, subst, arith}
use Rattle.std.proofs.lemmas.List.{get_or_default}
use Rattle.timetable.specs.Journeys.{departs}
use Rattle.lines.specs.declared.lines.LinePosition.{LinePosition}
use Rattle.direct_connections.specs.declared.positions.Side.TheVariants.{Board, Alight}
use Rattle.direct_connections.specs.Search.{IsPositionOf, IsFirstBehind}
use Rattle.direct_connections.proofs.RideFacts.{allows_position}
use Rattle.direct_connections.proofs.SearchFacts.{other_line, same_line}
use Rattle.direct_connections.proofs.LatestFacts.{serves_of, departs_early, latest_is, none_latest, latest_keeps, latest_improves, latest_left}
use Rattle.direct_connections.proofs.direct.Direct.latest.Goals as goal
use Rattle.direct_connections.proofs.direct.Direct.latest.Goals.{then-alight-board+in-Some, then-alight-board+in_default, else-alight-board}

pub last_ride-requires-clause-board : goal.last_ride-requires-clause-board
last_ride-requires-clause-board c =
    let boards = get_or c.args.self.now.boards c.args.from [] in
    let m = c.loop-board.board-index in
    let none : LinePosition = record { line = 0; position = 0 } in
    let within : m < length boards = (let e = ap (length {A = LinePosition}) c.boards_at-board-items.ensures in omega arith) in
    subst (λ (xs : List LinePosition). IsPositionOf c.args.lines.now.lines (get_or xs m none)) (sym c.boards_at-board-items.ensures)
    (allows_position Board c.args.lines.now.lines c.args.from (get_or boards m none) ((c.requires.boards_are c.args.from).each m none within))

pub last_ride-requires-clause-alight : goal.last_ride-requires-clause-alight
last_ride-requires-clause-alight c =
    let alights = get_or c.args.self.now.alights c.args.to [] in
    let n = c.first_behind-next.result in
    let none : LinePosition = record { line = 0; position = 0 } in
    let within : n < length alights = (let e = ap (length {A = LinePosition}) c.alights_at-alights.ensures in let f = c.first_behind-next.ensures.within in let g = c.if-next-alights.false in omega arith) in
    subst (λ (xs : List LinePosition). IsPositionOf c.args.lines.now.lines (get_or xs n none)) (sym c.alights_at-alights.ensures)
    (allows_position Alight c.args.lines.now.lines c.args.to (get_or alights n none) ((c.requires.alights_are c.args.to).each n none within))

pub overflow_add-since : goal.overflow_add-since
overflow_add-since c =
    let T = c.args.table.now in
    let lines = c.args.lines.now in
    let p = c.args.from in
    let q = c.args.to in
    let by = c.args.by in
    let boards = get_or c.args.self.now.boards p [] in
    let alights = get_or c.args.self.now.alights q [] in
    let valid = c.requires.table_is in
    let are = c.requires.lines_are in
    let from = c.requires.boards_are p in
    let to = c.requires.alights_are q in
    let m = c.loop-board.board-index in
    let n = c.first_behind-next.result in
    let none : LinePosition = record { line = 0; position = 0 } in
    let x : LinePosition = get_or c.boards_at-board-items.result.now m none in
    let z : LinePosition = get_or c.alights_at-alights.result.now n none in
    let within : m < length boards = (let e = ap (length {A = LinePosition}) c.boards_at-board-items.ensures in omega arith) in
    let short : n < length alights = (let e = ap (length {A = LinePosition}) c.alights_at-alights.ensures in let f = c.first_behind-next.ensures.within in let g = c.if-next-alights.false in omega arith) in
    let at : x ≡ get_or boards m x = ap (λ (xs : List LinePosition). get_or xs m none) c.boards_at-board-items.ensures ∙ get_or_default boards m none x within in
    let there : z ≡ get_or alights n z = ap (λ (xs : List LinePosition). get_or xs n none) c.alights_at-alights.ensures ∙ get_or_default alights n none z short in
    let first : IsFirstBehind alights c.loop-board.next x n = subst (λ (xs : List LinePosition). IsFirstBehind xs c.loop-board.next x n) c.alights_at-alights.ensures c.first_behind-next.ensures in
    let near = same_line T lines valid are p q 0 boards alights from to m c.loop-board.next c.loop-board.invariant.walked x within at n first short z there c.if-alight-board.true in
    let found = c.in-Some.ensures.found p q near in
    let early = departs_early T c.in-Some.ride.leg valid found.serves.ride in
    let is = found.departure in
    omega (arith, early, is)

pub loop-board-preserved : goal.loop-board-preserved
loop-board-preserved c =
    let T = c.args.table.now in
    let lines = c.args.lines.now in
    let p = c.args.from in
    let q = c.args.to in
    let by = c.args.by in
    let boards = get_or c.args.self.now.boards p [] in
    let alights = get_or c.args.self.now.alights q [] in
    let valid = c.requires.table_is in
    let are = c.requires.lines_are in
    let from = c.requires.boards_are p in
    let to = c.requires.alights_are q in
    let m = c.loop-board.board-index in
    let n = c.first_behind-next.result in
    let best = c.loop-board.best in
    let since = c.loop-board.since in
    let none : LinePosition = record { line = 0; position = 0 } in
    let x : LinePosition = get_or c.boards_at-board-items.result.now m none in
    let z : LinePosition = get_or c.alights_at-alights.result.now n none in
    let within : m < length boards = (let e = ap (length {A = LinePosition}) c.boards_at-board-items.ensures in omega arith) in
    let short : n < length alights = (let e = ap (length {A = LinePosition}) c.alights_at-alights.ensures in let f = c.first_behind-next.ensures.within in let g = c.if-next-alights.false in omega arith) in
    let at : x ≡ get_or boards m x = ap (λ (xs : List LinePosition). get_or xs m none) c.boards_at-board-items.ensures ∙ get_or_default boards m none x within in
    let there : z ≡ get_or alights n z = ap (λ (xs : List LinePosition). get_or xs n none) c.alights_at-alights.ensures ∙ get_or_default alights n none z short in
    let first : IsFirstBehind alights c.loop-board.next x n = subst (λ (xs : List LinePosition). IsFirstBehind xs c.loop-board.next x n) c.alights_at-alights.ensures c.first_behind-next.ensures in
    elim c.if-alight-board.branch [
      | then-alight-board+in-Some w ↦
          let near = same_line T lines valid are p q 0 boards alights from to m c.loop-board.next c.loop-board.invariant.walked x within at n first short z there w.if-alight-board.true in
          rw (w.best-is, w.since-is)
          (latest_improves T lines valid are p q by boards alights from to m c.loop-board.next best since c.loop-board.invariant x within at n first w.in-Some.ride (w.in-Some.ensures.found p q near))
      | then-alight-board+in_default w ↦
          let near = same_line T lines valid are p q 0 boards alights from to m c.loop-board.next c.loop-board.invariant.walked x within at n first short z there w.if-alight-board.true in
          rw (w.best-is, w.since-is)
          (latest_keeps T lines valid are p q by boards alights from to m c.loop-board.next best since c.loop-board.invariant x within at n first
          (λ other s on. w.in_default.ensures.none p q near other s on))
      | else-alight-board w ↦
          rw (w.best-is, w.since-is)
          (latest_keeps T lines valid are p q by boards alights from to m c.loop-board.next best since c.loop-board.invariant x within at n first
          (λ other s on. absurd (other_line T lines valid are p q (departs T other) boards alights from to m c.loop-board.next c.loop-board.invariant.walked x within at n first short z there w.if-alight-board.false other (serves_of T p q by other s) on)))
    ]

pub returns-after-loop-board-clause-most : goal.returns-after-loop-board-clause-most
returns-after-loop-board-clause-most c =
    let p = c.args.from in
    let q = c.args.to in
    latest_is c.args.table.now c.args.lines.now c.requires.table_is c.requires.lines_are p q c.args.by (get_or c.args.self.now.boards p []) (get_or c.args.self.now.alights q [])
    (c.requires.boards_are p) (c.requires.alights_are q) c.loop-board.board-index c.loop-board.next c.loop-board.since c.loop-board.best
    (let e = ap (length {A = LinePosition}) c.boards_at-board-items.ensures in omega arith) c.loop-board.invariant

pub returns-after-loop-board-clause-none : goal.returns-after-loop-board-clause-none
returns-after-loop-board-clause-none c =
    let p = c.args.from in
    let q = c.args.to in
    none_latest c.args.table.now c.args.lines.now c.requires.table_is c.requires.lines_are p q c.args.by (get_or c.args.self.now.boards p []) (get_or c.args.self.now.alights q [])
    (c.requires.boards_are p) (c.requires.alights_are q) c.loop-board.board-index c.loop-board.next c.loop-board.since c.loop-board.best
    (let e = ap (length {A = LinePosition}) c.boards_at-board-items.ensures in omega arith) c.loop-board.invariant

pub returns-then-next-alights-clause-most : goal.returns-then-next-alights-clause-most
returns-then-next-alights-clause-most c =
    let T = c.args.table.now in
    let lines = c.args.lines.now in
    let p = c.args.from in
    let q = c.args.to in
    let boards = get_or c.args.self.now.boards p [] in
    let alights = get_or c.args.self.now.alights q [] in
    let m = c.loop-board.board-index in
    let n = c.first_behind-next.result in
    let none : LinePosition = record { line = 0; position = 0 } in
    let x : LinePosition = get_or c.boards_at-board-items.result.now m none in
    let within : m < length boards = (let e = ap (length {A = LinePosition}) c.boards_at-board-items.ensures in omega arith) in
    let at : x ≡ get_or boards m x = ap (λ (xs : List LinePosition). get_or xs m none) c.boards_at-board-items.ensures ∙ get_or_default boards m none x within in
    let first : IsFirstBehind alights c.loop-board.next x n = subst (λ (xs : List LinePosition). IsFirstBehind xs c.loop-board.next x n) c.alights_at-alights.ensures c.first_behind-next.ensures in
    let long : length alights ≤ n = (let e = ap (length {A = LinePosition}) c.alights_at-alights.ensures in let g = c.if-next-alights.true in omega arith) in
    latest_is T lines c.requires.table_is c.requires.lines_are p q c.args.by boards alights
    (c.requires.boards_are p) (c.requires.alights_are q) (length boards) n c.loop-board.since c.loop-board.best (omega arith)
    (latest_left T lines c.requires.table_is c.requires.lines_are p q c.args.by boards alights (c.requires.boards_are p) (c.requires.alights_are q) m c.loop-board.next c.loop-board.best c.loop-board.since c.loop-board.invariant x within at n first long)

pub returns-then-next-alights-clause-none : goal.returns-then-next-alights-clause-none
returns-then-next-alights-clause-none c =
    let T = c.args.table.now in
    let lines = c.args.lines.now in
    let p = c.args.from in
    let q = c.args.to in
    let boards = get_or c.args.self.now.boards p [] in
    let alights = get_or c.args.self.now.alights q [] in
    let m = c.loop-board.board-index in
    let n = c.first_behind-next.result in
    let none : LinePosition = record { line = 0; position = 0 } in
    let x : LinePosition = get_or c.boards_at-board-items.result.now m none in
    let within : m < length boards = (let e = ap (length {A = LinePosition}) c.boards_at-board-items.ensures in omega arith) in
    let at : x ≡ get_or boards m x = ap (λ (xs : List LinePosition). get_or xs m none) c.boards_at-board-items.ensures ∙ get_or_default boards m none x within in
    let first : IsFirstBehind alights c.loop-board.next x n = subst (λ (xs : List LinePosition). IsFirstBehind xs c.loop-board.next x n) c.alights_at-alights.ensures c.first_behind-next.ensures in
    let long : length alights ≤ n = (let e = ap (length {A = LinePosition}) c.alights_at-alights.ensures in let g = c.if-next-alights.true in omega arith) in
    none_latest T lines c.requires.table_is c.requires.lines_are p q c.args.by boards alights
    (c.requires.boards_are p) (c.requires.alights_are q) (length boards) n c.loop-board.since c.loop-board.best (omega arith)
    (latest_left T lines c.requires.table_is c.requires.lines_are p q c.args.by boards alights (c.requires.boards_are p) (c.requires.alights_are q) m c.loop-board.next c.loop-board.best c.loop-board.since c.loop-board.invariant x within at n first long)
