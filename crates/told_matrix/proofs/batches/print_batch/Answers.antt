use Rattle.std.proofs.Common.{◌≡◌, ◌∙◌, ◌<◌, ℕ, List, Option, length, ap, subst, sym}
use Rattle.std.specs.Global.{Vec}
use Rattle.std.specs.List.{All}
use Rattle.std.proofs.lemmas.List.{length-map}
use Rattle.std.proofs.lemmas.List.Elements.{All-map}
use Rattle.reaching.specs.declared.travel_time.TravelTimes.{TravelTimes}
use Rattle.timetable.specs.Table.{stops_of}
use Rattle.travel_matrix.specs.Rows.{IsRow}
use Rattle.told_matrix.specs.Writers.{HasLength}
use Rattle.told_matrix.specs.declared.place.Place.{Place}
use Rattle.told_matrix.proofs.BatchFacts.{all_sized}
use Rattle.told_matrix.proofs.ZipFacts.{zip_long}
use Rattle.told_matrix.proofs.batches.print_batch.Goals as goal

pub rows_of-requires-clause-known : goal.rows_of-requires-clause-known
rows_of-requires-clause-known g c κs within =
    let Known = λ (s : ℕ). s < stops_of c.args.window.now.table.now in
    subst (All Known) (sym (c.deref.ensures.value ∙ c.in_ok-origins.ensures))
    (All-map Known (λ (place : Place). place.stop) c.args.batch.now c.requires.known)

pub lines_of-requires-clause-count : goal.lines_of-requires-clause-count
lines_of-requires-clause-count g c =
    let w = c.args.window.now in
    let Is = λ (s : ℕ) (row : Vec (Option TravelTimes)). IsRow w.table.now w.rides w.first w.last c.args.stops.now s row.items in
    let size = λ (l : List ℕ). length l in
    ap (λ (l : List (Vec (Option TravelTimes))). length l) c.deref-2.ensures.value
    ∙ (zip_long Is c.deref.result.now c.in_ok-rows.rows.items c.in_ok-rows.ensures
    ∙ (ap size (c.deref.ensures.value ∙ c.in_ok-origins.ensures) ∙ length-map c.args.batch.now (λ (place : Place). place.stop)))

pub lines_of-requires-clause-each : goal.lines_of-requires-clause-each
lines_of-requires-clause-each g c =
    let w = c.args.window.now in
    let stops = c.args.stops.now in
    let many : length stops ≡ length c.args.goals.now =
    ap (λ (l : List ℕ). length l) c.requires.same ∙ length-map c.args.goals.now (λ (place : Place). place.stop) in
    let sized = all_sized w.table.now w.rides w.first w.last stops c.deref.result.now c.in_ok-rows.rows.items c.in_ok-rows.ensures in
    subst (All (HasLength (length c.args.goals.now))) (sym c.deref-2.ensures.value)
    (subst (λ (n : ℕ). All (HasLength n) c.in_ok-rows.rows.items) many sized)
