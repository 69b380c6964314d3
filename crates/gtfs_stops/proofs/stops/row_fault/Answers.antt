use Rattle.std.proofs.Common.{◌≡◌, ◌∙◌, sym, ap, refl, not, Option, Bool, ℕ, List, ◌||◌}
use Rattle.gtfs_text.specs.Sheets.{Table}
use Rattle.gtfs_rows.specs.Rows.{text_under, is_empty, distinct}
use Rattle.gtfs_stops.specs.Stops.{means_stop, parent_stands, parent_station, location_type, ids_of_kind}
use Rattle.gtfs_stops.specs.declared.stops.RowKind.TheVariants as row_kinds
use Rattle.gtfs_rows.proofs.TextFacts.{has-distinct}
use Rattle.gtfs_stops.proofs.stops.row_fault.Goals as goal

-- what was asked of the set of stations is what is asked of the file
stands : (table : Table) (row : ℕ) (is_stop b : Bool) (texts : List (List ℕ)) (parent : List ℕ) → b ≡ parent_stands is_stop parent texts → texts ≡ distinct (ids_of_kind row_kinds.Station table)
    → is_stop ≡ means_stop (location_type table row) → parent ≡ parent_station table row
    → parent_stands (means_stop (location_type table row)) (parent_station table row) (ids_of_kind row_kinds.Station table) ≡ b
stands table row is_stop b texts parent asked held kind same =
    sym (asked ∙ ap (λ (t : Bool). parent_stands t parent texts) kind ∙ ap (λ (t : List ℕ). parent_stands (means_stop (location_type table row)) t texts) same
    ∙ ap (parent_stands (means_stop (location_type table row)) (parent_station table row)) held
    ∙ ap (λ (t : Bool). not (means_stop (location_type table row)) || is_empty (parent_station table row) || t) (has-distinct (ids_of_kind row_kinds.Station table) (parent_station table row)))

pub returns-then-not-parent_stands : goal.returns-then-not-parent_stands
returns-then-not-parent_stands c =
    let at = λ (column : Option ℕ). text_under c.args.sheet.now column c.args.row in
    let there = ap is_empty (sym (c.text_under-2.ensures ∙ ap at c.requires.columns.id)) ∙ sym c.is_empty.ensures ∙ c.if-is_empty.false in
    let new = sym c.requires.is_new ∙ c.if-not-is_new.false in
    let kind = c.means_stop-is_stop.ensures ∙ ap means_stop (c.text_under.ensures ∙ ap at c.requires.columns.location_type) in
    let parent = c.text_under-else-not-is_new.ensures ∙ ap at c.requires.columns.parent in
    rw (there, new, stands c.args.sheet.now c.args.row _ _ _ _ c.parent_stands.ensures c.requires.stations kind parent, c.if-not-parent_stands.true) refl

pub returns-else-not-parent_stands : goal.returns-else-not-parent_stands
returns-else-not-parent_stands c =
    let at = λ (column : Option ℕ). text_under c.args.sheet.now column c.args.row in
    let there = ap is_empty (sym (c.text_under-2.ensures ∙ ap at c.requires.columns.id)) ∙ sym c.is_empty.ensures ∙ c.if-is_empty.false in
    let new = sym c.requires.is_new ∙ c.if-not-is_new.false in
    let kind = c.means_stop-is_stop.ensures ∙ ap means_stop (c.text_under.ensures ∙ ap at c.requires.columns.location_type) in
    let parent = c.text_under-else-not-is_new.ensures ∙ ap at c.requires.columns.parent in
    rw (there, new, stands c.args.sheet.now c.args.row _ _ _ _ c.parent_stands.ensures c.requires.stations kind parent, c.if-not-parent_stands.false) refl
