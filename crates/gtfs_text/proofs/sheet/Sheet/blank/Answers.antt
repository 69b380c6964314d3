use Rattle.std.proofs.Common.{◌≡◌, ◌∙◌, ◌==◌, ap, [], List, ℕ, length, get_or, take}
use Rattle.std.specs.List.{list_all}
use Rattle.gtfs_text.specs.Sheets.{header_of, Table}
use Rattle.gtfs_text.proofs.CellFacts.{blank_is}
use Rattle.gtfs_text.proofs.sheet.Sheet.blank.Goals as goal

pub returns : goal.returns
returns c =
    let width : c.self.inside.columns ≡ length (header_of c.args.self.now) = c.self.invariant.width ∙ ap (λ (t : Table). length (header_of t)) c.self.view_is in
    c.is_empty_in.ensures
    ∙ ap (λ (fields : List (List ℕ)). list_all (λ field. length field == 0) (take c.self.inside.columns fields)) c.row.ensures.fields
    ∙ ap (λ (n : ℕ). list_all (λ field. length field == 0) (take n (get_or c.args.self.now c.args.row []))) width
    ∙ blank_is (get_or c.args.self.now c.args.row []) (length (header_of c.args.self.now))
