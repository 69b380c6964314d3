use Rattle.std.specs.List.{Contains}
use Rattle.lines.specs.Lines.{IsLine, no_line}
use Rattle.std.proofs.Common.{◌<◌, ℕ, List, length, get_or, arith, sym, subst}
use Rattle.std.proofs.lemmas.List.{get_or_default}
use Rattle.stop_labels.proofs.RowSteps.{same_here, same_then}
use Rattle.rounds.proofs.ServeSteps.{lines_none, lines_more, noted_rides}
use Rattle.rounds.proofs.serving.ride_noted.Goals as goal

-- a line of the list is one of the lines
inside : (listed : List ℕ) (many n : ℕ) → ((l : ℕ) → Contains listed l → l < many) → n < length listed → get_or listed n 0 < many
inside listed many n known lt = known (get_or listed n 0) (n, lt, sym (get_or_default listed n 0 (get_or listed n 0) lt))

pub line-requires : goal.line-requires
line-requires c =
    let within = inside c.lines-number-items.result.now (length c.args.noted.now) c.loop-number.number-index c.lines-number-items.ensures.within c.loop-number-test.true in
    omega (arith, within, c.requires.size)

pub position-requires : goal.position-requires
position-requires c = inside c.lines-number-items.result.now (length c.args.noted.now) c.loop-number.number-index c.lines-number-items.ensures.within c.loop-number-test.true

pub ride_line-found-requires-clause-line : goal.ride_line-found-requires-clause-line
ride_line-found-requires-clause-line c =
    let number = get_or c.lines-number-items.result.now c.loop-number.number-index 0 in
    let within = inside c.lines-number-items.result.now (length c.args.noted.now) c.loop-number.number-index c.lines-number-items.ensures.within c.loop-number-test.true in
    subst (IsLine c.args.table.now) (sym c.line.ensures) (c.requires.lines.each number no_line (omega (arith, within, c.requires.size)))

pub loop-number-init : goal.loop-number-init
loop-number-init c = record {
  scanned = lines_none c.args.table.now c.args.lines.now c.args.noted.now c.lines-number-items.result.now c.args.ready.now.marks c.args.rode.now.marks;
  same = same_here c.args.rode.now;
}

pub loop-number-preserved : goal.loop-number-preserved
loop-number-preserved c =
    let inv = c.loop-number.invariant in
    let listed = c.lines-number-items.result.now in
    let n = c.loop-number.number-index in
    let number = get_or listed n 0 in
    record {
      scanned = lines_more c.args.table.now c.args.lines.now c.args.noted.now listed c.args.ready.now.marks c.args.rode.now.marks c.loop-number.rode.marks c.ride_line-found.new.rode.marks
          n number c.position.result c.line.result.now c.loop-number-test.true (get_or_default listed n 0 number c.loop-number-test.true)
          c.line.ensures c.position.ensures inv.scanned c.ride_line-found.ensures.scanned;
      same = same_then c.args.rode.now c.loop-number.rode c.ride_line-found.new.rode inv.same c.ride_line-found.ensures.same;
    }

pub returns-clause-scanned : goal.returns-clause-scanned
returns-clause-scanned c =
    noted_rides c.args.table.now c.args.lines.now c.args.noted.now c.lines-number-items.result.now c.args.ready.now.marks c.args.rode.now.marks c.loop-number.rode.marks
    c.loop-number.number-index (omega arith) c.requires.size c.lines-number-items.ensures.all c.loop-number.invariant.scanned
