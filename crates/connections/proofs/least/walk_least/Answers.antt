use Rattle.std.proofs.Common.{◌∙◌, ℕ, sym, subst}
use Rattle.std.proofs.lemmas.List.Elements.{all_zip_more}
use Rattle.rounds.specs.Scratch.{rides_of}
use Rattle.connections.specs.Connections.{IsScanned, WalksLeastFor}
use Rattle.connections.proofs.least.walk_least.Goals as goal

pub with_least-requires-clause-is : goal.with_least-requires-clause-is
with_least-requires-clause-is c =
    let T = c.args.network.now in
    let x = c.connection-item.result in
    subst (λ (k : ℕ). IsScanned T k x) (sym c.loop-connection.invariant.same.rides)
    (subst (IsScanned T (rides_of c.args.scratch.now)) (sym c.connection-item.is)
    (c.requires.scanned c.loop-connection.connection-index x c.loop-connection-test.true))

pub loop-connection-preserved : goal.loop-connection-preserved
loop-connection-preserved c =
    let T = c.args.network.now in
    let inv = c.loop-connection.invariant in
    let same = c.with_least.ensures.same in
    let y = c.in_ok-with_least.field-0 in
    record {
      same = record { rides = same.rides ∙ inv.same.rides; made = λ table is. same.made table (inv.same.made table is) };
      least = rw c.in_ok-push.ensures.items
          (all_zip_more (WalksLeastFor T) c.args.connections.now c.loop-connection.list.items c.loop-connection.connection-index
          c.connection-item.result y c.loop-connection-test.true c.connection-item.is inv.least c.in_ok-with_least.ensures.least);
    }
