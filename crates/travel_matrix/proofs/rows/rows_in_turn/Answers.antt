use Rattle.std.proofs.Common.{◌∙◌, ◌≤◌, ◌+◌, ℕ, List, Option, length, take, sym, subst}
use Rattle.std.proofs.lemmas.List.{take_all}
use Rattle.std.specs.Global.{Vec}
use Rattle.std.specs.List.{AllZip}
use Rattle.reaching.specs.TravelTimes.{AreTravelTimes}
use Rattle.reaching.specs.declared.travel_time.TravelTimes.{TravelTimes}
use Rattle.travel_matrix.specs.Rows.{IsCell, IsRow}
use Rattle.travel_matrix.proofs.CellFacts.{zip_more}
use Rattle.travel_matrix.proofs.rows.rows_in_turn.Goals as goal

pub loop-origin-preserved : goal.loop-origin-preserved
loop-origin-preserved c =
    let w = c.args.window.now in
    let table = w.table.now in
    let goals = c.args.goals.now in
    let at = c.loop-origin in
    let list = c.in_ok-list.list in
    let row = c.in_ok-row_of.field-0 in
    let Is = λ (s : ℕ) (one : Vec (Option TravelTimes)). IsRow table w.rides w.first w.last goals s one.items in
    record {
      made = c.in_ok-list.ensures.same.made table at.invariant.made;
      rides = c.in_ok-list.ensures.same.rides ∙ at.invariant.rides;
      rows =
          let times : AreTravelTimes table w.rides c.origin-item.result w.first w.last list.items =
          subst (λ (k : ℕ). AreTravelTimes table k c.origin-item.result w.first w.last list.items) at.invariant.rides c.in_ok-list.ensures.right in
          let cells : AllZip (IsCell list.items) goals row.items =
          subst (λ (l : List TravelTimes). AllZip (IsCell l) goals row.items) c.deref.ensures.value c.in_ok-row_of.ensures in
          subst (λ (rows : List (Vec (Option TravelTimes))). AllZip Is (take (at.origin-index + 1) c.args.origins.now) rows)
          (sym c.in_ok-push.ensures.items)
          (zip_more Is c.args.origins.now at.rows.items at.origin-index c.origin-item.result row c.loop-origin-test.true c.origin-item.is
          at.invariant.rows (list.items, times, cells));
    }

pub returns : goal.returns
returns c =
    let w = c.args.window.now in
    let Is = λ (s : ℕ) (one : Vec (Option TravelTimes)). IsRow w.table.now w.rides w.first w.last c.args.goals.now s one.items in
    let past : length c.args.origins.now ≤ c.loop-origin.origin-index = c.loop-origin-test.false in
    subst (λ (l : List ℕ). AllZip Is l c.loop-origin.rows.items) (take_all c.loop-origin.origin-index c.args.origins.now past)
    c.loop-origin.invariant.rows
