use Rattle.std.proofs.Common.{◌<◌, ◌≤◌, ◌*◌, ◌∙◌, ℕ, List, Option, IfOk, length, slice_index_or, rules, subst, sym}
use Rattle.std.specs.Global.{Vec}
use Rattle.std.specs.List.{AllZip}
use Rattle.std.proofs.lemmas.Result.{IfOk-weaker}
use Rattle.reaching.specs.declared.travel_time.TravelTimes.{TravelTimes}
use Rattle.travel_matrix.specs.Parts.{AreJoined}
use Rattle.travel_matrix.specs.Rows.{AreRows, IsRow}
use Rattle.travel_matrix.proofs.PartFacts.{enough, of_chunks}
use Rattle.travel_matrix.proofs.rows.rows_of.Goals as goal

pub returns : goal.returns
returns g c =
    let w = c.args.window.now in
    let goals = c.args.goals.now in
    let origins = c.args.origins.now in
    let size = c.div_ceil-size.result in
    let parts = c.in_ok-parts.parts.items in
    let some : 0 < size = search rules in
    let Is = λ (s : ℕ) (one : Vec (Option TravelTimes)). IsRow w.table.now w.rides w.first w.last goals s one.items in
    let long : length origins ≤ length parts * size =
    (let len = c.in_ok-parts.ensures.len in let own = c.in_ok-parts.parts.ok in enough (length origins) size (length parts) some (sym own.0 ∙ len)) in
    IfOk-weaker c.joined.result
    (λ (rows : Vec (Vec (Option TravelTimes))). AreJoined parts rows.items)
    (λ (rows : Vec (Vec (Option TravelTimes))). AreRows w.table.now w.rides w.first w.last goals origins rows.items)
    (λ rows joined. of_chunks Is size origins parts rows.items long (λ n d below.
    let k = (c.in_ok-parts.ensures.each n d below).1 in
    subst (λ (chunk : List ℕ). IfOk (slice_index_or parts n d) (λ part. AllZip Is chunk part.items)) k.argument_is.value k.call) joined)
    c.joined.ensures
