use Rattle.std.proofs.Common.{rules, ◌≡◌, ◌<◌, ℕ, List, All, sym, subst}
use Rattle.std.specs.Arc.{arc_value}
use Rattle.timetable.specs.Table.{stops_of}
use Rattle.pattern_tree.specs.Content.{Content}
use Rattle.section_store.specs.Sections.{Form, form_of, sources}
use Rattle.store_excerpt.specs.Board.{AreOf, IsBoardOf, IsWholeAmong, ShowsAmong}
use Rattle.recovery.specs.Opening.{IsOpening}
use Rattle.store_excerpt.specs.Excerpt.{ShowsWhole}
use Rattle.store_excerpt.proofs.ExcerptFacts.{board_own, kept_of, kept_whole, shows_among}
use Rattle.store_excerpt.proofs.excerpt.Excerpt.open.Goals as goal

pub returns-in-Err-clause-moments : goal.returns-in-Err-clause-moments
returns-in-Err-clause-moments g c = λ honest. c.in-Err.ensures.opening honest

pub invariant_of-result : goal.invariant_of-result
invariant_of-result g c =
    let store = c.in-Ok.recovered.store in
    let board = c.in-Ok-of.board in (
      subst (λ (f : Form). All (λ s. s < stops_of f.table) store.stored) (sym c.in-Ok.ensures.ready.1) c.in-Ok.ensures.known,
      board_own c.stops.result (sources c.in-Ok.recovered.trees.items) board c.in-Ok-of.ensures.long c.in-Ok-of.ensures.shows,
    )

pub returns-in-Ok-of-clause-stored : goal.returns-in-Ok-of-clause-stored
returns-in-Ok-of-clause-stored g c = λ honest.
    let excerpt = c.in-Ok.ensures.excerpt honest in (excerpt.trees, excerpt.stands, excerpt.holds.stored_are)

pub returns-in-Ok-of-clause-shows : goal.returns-in-Ok-of-clause-shows
returns-in-Ok-of-clause-shows g c = λ honest.
    let excerpt = c.in-Ok.ensures.excerpt honest in
    let froms = c.args.froms.now in
    let stops = stops_of (arc_value c.args.table.now) in
    let board = c.in-Ok-of.board in
    let same : c.stops.result ≡ stops = search rules in
    let shows : IsBoardOf stops (sources c.in-Ok.recovered.trees.items) board =
    subst (λ (n : ℕ). IsBoardOf n (sources c.in-Ok.recovered.trees.items) board) same c.in-Ok-of.ensures.shows in
    subst (λ (l : List ℕ). ShowsAmong stops froms l board) (sym excerpt.holds.stored_are)
    (shows_among stops froms excerpt.trees board (subst (λ (l : List Content). IsBoardOf stops (sources l) board) excerpt.kept_are shows))

pub returns-in-Ok-of-clause-whole : goal.returns-in-Ok-of-clause-whole
returns-in-Ok-of-clause-whole g c = λ honest.
    let form = form_of (arc_value c.args.table.now) c.args.rides in
    let s = g.D.Disk.state c.args.disk in
    let excerpt = c.in-Ok.ensures.excerpt honest in
    let store = c.in-Ok.recovered.store in
    let board = c.in-Ok-of.board in
    let is : ShowsWhole form s store.stored board = record {
      trees = excerpt.trees;
      stands = excerpt.stands;
      are = excerpt.holds.stored_are;
      same = kept_of c.args.froms.now excerpt.trees board
          (subst (λ (l : List Content). AreOf l board) excerpt.kept_are c.in-Ok-of.ensures.same);
      whole = λ among all. c.in-Ok-of.ensures.whole form among
          (subst (All (IsWholeAmong form among)) (sym excerpt.kept_are) (kept_whole form among c.args.froms.now excerpt.trees all));
      trusted = excerpt.exact;
    } in
    subst (λ (f : Form). ShowsWhole f s store.stored board) (sym c.in-Ok.ensures.ready.1) is

pub returns-in-Ok-of-clause-moments : goal.returns-in-Ok-of-clause-moments
returns-in-Ok-of-clause-moments g c = λ honest. c.in-Ok.ensures.opening honest

pub returns-in-Err-of-clause-moments : goal.returns-in-Err-of-clause-moments
returns-in-Err-of-clause-moments g c = λ honest.
    let form = form_of (arc_value c.args.table.now) c.args.rides in
    let s = g.D.Disk.state c.args.disk in
    let opening : IsOpening form s (g.D.Disk.state c.in-Ok.recovered.store.disk) = c.in-Ok.ensures.opening honest in
    subst (λ d. IsOpening form s (g.D.Disk.state d)) (sym c.into_disk.ensures) opening
