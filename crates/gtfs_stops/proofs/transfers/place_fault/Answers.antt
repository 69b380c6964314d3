use Rattle.std.proofs.Common.{◌∙◌, ap, ap₂, ℕ, Option, Bool, List, not, ◌||◌, ◌&&◌}
use Rattle.std.specs.Prelude.{is_some}
use Rattle.std.specs.Str.{bytes_eq}
use Rattle.gtfs_rows.specs.Rows.{text_under, has_text, texts_in}
use Rattle.gtfs_stops.specs.Stops.{lists_in}
use Rattle.gtfs_stops.specs.Transfers.{place_of, is_short_or_empty}
use Rattle.gtfs_rows.proofs.TextFacts.{any-texts_in}
use Rattle.gtfs_stops.proofs.TransferFacts.{same_faults}
use Rattle.gtfs_stops.proofs.transfers.place_fault.Goals as goal

pub returns : goal.returns
returns c =
    let at = λ (column : Option ℕ). text_under c.args.sheet.now column c.args.row in
    let ids = lists_in c.args.ids.now in
    let keys = c.args.ids.now.all.keys in
    let from = c.text_under-from.ensures ∙ ap at c.requires.columns.from in
    let to = c.text_under-to.ensures ∙ ap at c.requires.columns.to in
    let time = c.text_under.ensures ∙ ap at c.requires.columns.min_transfer_time in
    let knows_from = c.contains.ensures ∙ any-texts_in keys (bytes_eq c.text_under-from.result.now) ∙ ap (has_text (texts_in keys)) from in
    let knows_to = c.contains-2.ensures ∙ any-texts_in keys (bytes_eq c.text_under-to.result.now) ∙ ap (has_text (texts_in keys)) to in
    let joins = c.joins_places-joins.ensures ∙ ap₂ (λ (a b : List ℕ). is_some (place_of ids a) && is_some (place_of ids b)) from to in
    let stands = c.time_stands-stands.ensures ∙ ap₂ (λ (b : Bool) (t : List ℕ). not b || is_short_or_empty t) joins time in
    c.first_wrong.ensures c.args.row ∙ same_faults c.args.row knows_from knows_to stands
