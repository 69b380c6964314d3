use Rattle.std.proofs.Common.{◌≡◌, ◌∙◌, ◌+◌, ◌<◌, ◌∷◌, take, ◌++◌, [], ℕ, List, Bor, get_or, ap, inl, refl, subst, sym}
use Rattle.std.specs.List.{All, AllZip}
use Rattle.std.proofs.lemmas.List.{get_or_default, take_all}
use Rattle.std.proofs.lemmas.List.Elements.{All-push}
use Rattle.timetable.specs.Table.{stops_of}
use Rattle.told_matrix.specs.Asked.{AreStops, IsStop}
use Rattle.told_matrix.specs.declared.place.Place.{Place}
use Rattle.told_matrix.proofs.AskedFacts.{first_unknown}
use Rattle.told_matrix.proofs.ZipFacts.{zip_more}
use Rattle.told_matrix.proofs.asking.places_of.Goals as goal

abbrev none : Bor (List ℕ)
none = record { ref_ptr = (0, 0); now = [] }

pub loop-id-preserved : goal.loop-id-preserved
loop-id-preserved c =
    let basis = c.args.basis.now in
    let ids = c.args.ids.now in
    let at = c.loop-id in
    let id : Bor (List ℕ) = get_or ids at.id-index none in
    let place : Place = record { id = id; stop = c.in-Some.stop } in
    let is : id ≡ get_or ids at.id-index id = get_or_default ids at.id-index none id c.loop-id-test.true in
    let here : IsStop basis id place = record { same = refl; stop = sym c.in-Some.ensures.value } in
    let added : c.extend_from_slice.new.self.items ≡ at.places.items ++ place ∷ [] =
    c.in_ok-extend_from_slice.ensures.items ∙ ap (λ (more : List Place). at.places.items ++ more) c.from_ref.ensures.value in
    let Known = λ (p : Place). p.stop < stops_of basis.timetable in
    record {
      stops = subst (AllZip (IsStop basis) (take (at.id-index + 1) ids)) (sym added)
          (zip_more (IsStop basis) ids at.places.items at.id-index id place c.loop-id-test.true is at.invariant.stops here);
      known = subst (All Known) (sym added) (All-push Known at.places.items place at.invariant.known c.in-Some.ensures.stop);
    }

pub returns-in_default-clause-fault : goal.returns-in_default-clause-fault
returns-in_default-clause-fault c =
    let basis = c.args.basis.now in
    let ids = c.args.ids.now in
    let at = c.loop-id in
    let id : Bor (List ℕ) = get_or ids at.id-index none in
    let is : id ≡ get_or ids at.id-index id = get_or_default ids at.id-index none id c.loop-id-test.true in
    inl (id, refl, first_unknown basis ids at.id-index id at.places.items c.loop-id-test.true is at.invariant.stops (sym c.in_default.ensures.value))

pub returns-clause-stops : goal.returns-clause-stops
returns-clause-stops c =
    subst (λ (ids : List (Bor (List ℕ))). AreStops c.args.basis.now ids c.loop-id.places.items)
    (take_all c.loop-id.id-index c.args.ids.now c.loop-id-test.false) c.loop-id.invariant.stops
