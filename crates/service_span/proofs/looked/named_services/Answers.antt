use Rattle.std.proofs.Common.{◌≡◌, ◌∙◌, sym, ap, subst, ℕ, ◌<◌, List, [], length, get_or, ◌||◌}
use Rattle.std.proofs.lemmas.List.{get_or_default}
use Rattle.std.specs.Str.{bytes_eq}
use Rattle.gtfs_rows.specs.declared.values.Trip.{Trip}
use Rattle.service_span.specs.Days.{service_of}
use Rattle.service_span.specs.Looked.{is_member}
use Rattle.service_span.proofs.Bools.{any_step}
use Rattle.service_span.proofs.LookedFacts.{named_more}
use Rattle.service_span.proofs.looked.named_services.Goals as goal

pub loop-trip-preserved : goal.loop-trip-preserved
loop-trip-preserved c = λ service.
    let t = c.args.tables.now in
    let trip = c.trip-item.result in
    let s = c.services-services.ensures.value in
    let below : trip.service < length t.services =
    subst (λ (trip : Trip). trip.service < length t.services) (sym (c.trip-item.is ∙ ap (λ (trips : List Trip). get_or trips c.loop-trip.trip-index trip) c.trips-trip-items.ensures.value))
    (c.services-services.ensures.valid.services c.loop-trip.trip-index trip (rw c.trips-trip-items.ensures.value at c.loop-trip-test.true)) in
    let its : c.as_str.result.now ≡ service_of t trip =
    c.as_str.ensures ∙ (c.index-services-trip.is ∙ (ap (λ (services : List (List ℕ)). get_or services trip.service c.index-services-trip.result) s
    ∙ get_or_default t.services trip.service c.index-services-trip.result [] below)) in
    any_step (λ (trip : Trip). bytes_eq (service_of t trip) service) c.trips-trip-items.result.now c.loop-trip.trip-index trip
    (is_member c.loop-trip.names service) (is_member c.insert.new.self service) c.loop-trip-test.true c.trip-item.is (c.loop-trip.invariant service)
    (named_more c.as_str.result c.loop-trip.names c.insert.new.self c.in_ok-insert.ensures.updates service
    ∙ ap (λ s. is_member c.loop-trip.names service || bytes_eq s service) its)
