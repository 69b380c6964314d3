use Rattle.std.proofs.Common.{◌≡◌, ◌<◌, ◌++◌, ◌∷◌, ℕ, [], length, get_or, map, take, sym, ◌∙◌, ap, subst}
use Rattle.std.proofs.lemmas.List.{get_or_default, map_more}
use Rattle.std.proofs.lemmas.Option.{slice_get_within, get_or_from_slice_get}
use Rattle.lines.specs.declared.last.LastDeparture.{LastDeparture}
use Rattle.lines.specs.declared.lines.LinePosition.{LinePosition}
use Rattle.lines.specs.Lines.{LineData, last_at, last_departure, last_departure_at, no_line}
use Rattle.lines.proofs.PositionFacts.{called}
use Rattle.lines.proofs.last.LastDepartures.of.Goals as goal

pub bounds-lines-at : goal.bounds-lines-at
bounds-lines-at c =
    let at = get_or c.args.positions.now c.loop-at.at-index (record { line = 0; position = 0 }) in
    let calls = c.requires c.loop-at.at-index (record { line = 0; position = 0 }) c.loop-at-test.true in
    let there = called c.args.lines.now calls.0 at calls.1 in
    slice_get_within c.args.lines.now at.line there.0 there.2

pub last_departure-requires : goal.last_departure-requires
last_departure-requires c =
    let lines = c.args.lines.now in
    let at = get_or c.args.positions.now c.loop-at.at-index (record { line = 0; position = 0 }) in
    let calls = c.requires c.loop-at.at-index (record { line = 0; position = 0 }) c.loop-at-test.true in
    let there = called lines calls.0 at calls.1 in
    let line : c.index-lines-at.result ≡ there.0 = c.index-lines-at.is ∙ get_or_from_slice_get lines at.line there.0 c.index-lines-at.result there.2 in
    subst (λ (line : LineData). at.position < length line.halts) (sym line) (slice_get_within there.0.halts at.position there.1 there.3)

pub loop-at-preserved : goal.loop-at-preserved
loop-at-preserved c =
    let lines = c.args.lines.now in
    let positions = c.args.positions.now in
    let i = c.loop-at.at-index in
    let none : LinePosition = record { line = 0; position = 0 } in
    let at = get_or positions i none in
    let calls = c.requires i none c.loop-at-test.true in
    let there = called lines calls.0 at calls.1 in
    let line : c.index-lines-at.result ≡ get_or lines at.line no_line =
    c.index-lines-at.is ∙ get_or_default lines at.line c.index-lines-at.result no_line (slice_get_within lines at.line there.0 there.2) in
    let last : c.last_departure.result ≡ last_at lines at =
    c.last_departure.ensures.value ∙ ap (λ (line : LineData). last_departure line at.position) line in
    let Made : ℕ → LastDeparture = λ departure. record { departure = departure; at = at } in
    c.in_ok-push.ensures.items
    ∙ (ap (λ xs. xs ++ Made c.last_departure.result ∷ []) c.loop-at.invariant
    ∙ (ap (λ m. map (last_departure_at lines) (take i positions) ++ Made m ∷ []) last ∙ sym (map_more (last_departure_at lines) positions i none c.loop-at-test.true)))
