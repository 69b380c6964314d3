use Rattle.std.proofs.Common.{◌<◌, ◌∙◌, List, subst, sym}
use Rattle.std.specs.List.{All}
use Rattle.std.proofs.lemmas.List.Elements.{All-filter}
use Rattle.timetable.specs.Table.{stops_of}
use Rattle.reaching.specs.declared.travel_time.TravelTimes.{TravelTimes}
use Rattle.told_reach.specs.Times.{is_within}
use Rattle.told_reach.proofs.timing.found_times.Goals as goal

pub tell_all-requires-clause-known : goal.tell_all-requires-clause-known
tell_all-requires-clause-known c =
    let known = λ (list : List TravelTimes). All (λ t. t.stop < stops_of c.args.basis.now.timetable) list in
    let kept = All-filter (is_within c.args.minutes) (λ t. t.stop < stops_of c.args.basis.now.timetable) c.in_ok-list.list.items c.in_ok-list.ensures.known in
    subst known (sym (c.deref.ensures.value ∙ c.keep_within.ensures)) kept
