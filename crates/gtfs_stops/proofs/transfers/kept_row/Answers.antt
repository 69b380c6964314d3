use Rattle.std.proofs.Common.{◌∙◌, sym, ap, ℕ, Option}
use Rattle.gtfs_rows.specs.Rows.{text_under}
use Rattle.gtfs_stops.specs.Stops.{lists_in}
use Rattle.gtfs_stops.specs.Transfers.{place_of, short_time}
use Rattle.gtfs_stops.proofs.TransferFacts.{same_between, kept_between}
use Rattle.gtfs_stops.proofs.transfers.kept_row.Goals as goal

pub returns-in-Some-clause-value : goal.returns-in-Some-clause-value
returns-in-Some-clause-value c =
    let at = λ (column : Option ℕ). text_under c.args.sheet.now column c.args.row in
    let ids = lists_in c.args.ids.now in
    let from = c.place_of-from.ensures.value ∙ ap (place_of ids) (c.text_under.ensures ∙ ap at c.requires.columns.from) in
    let to = c.place_of-to.ensures.value ∙ ap (place_of ids) (c.text_under-2.ensures ∙ ap at c.requires.columns.to) in
    let time = c.short_time-time.ensures.value ∙ ap short_time (c.text_under-3.ensures ∙ ap at c.requires.columns.min_transfer_time) in
    c.transfer_between.ensures.value ∙ same_between _ _ _ _ c.in-Some.transfer_type _ _ from to time
    ∙ kept_between ids c.args.sheet.now c.args.row c.in-Some.transfer_type (sym c.in-Some.ensures.some) c.in-Some.ensures.value
