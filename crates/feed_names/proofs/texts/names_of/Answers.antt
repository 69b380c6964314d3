use Rattle.std.proofs.Common.{◌∙◌, ap, ℕ, List, Option, [], get_or, take, Bor}
use Rattle.std.proofs.lemmas.List.{take_more}
use Rattle.std.proofs.lemmas.Slice.Zip.{all_zipped_more}
use Rattle.gtfs_text.specs.Sheets.{column_of}
use Rattle.feed_names.specs.Rows.{first_row_in}
use Rattle.feed_names.specs.Texts.{IsNamed}
use Rattle.feed_names.proofs.RowFacts.{among}
use Rattle.feed_names.proofs.texts.names_of.Goals as goal

pub name_of-requires : goal.name_of-requires
name_of-requires g c =
    let table = c.args.sheet.now in
    let ids : List (Bor (List ℕ)) = c.args.ids.now in
    let n = c.loop-id.id-index in
    let none : Bor (List ℕ) = record { ref_ptr = (0, 0); now = [] } in
    let id : List ℕ = (get_or ids n none).now in
    c.in_ok-rows.ensures id (among ids n none c.loop-id-test.true) ∙ ap (λ (key : List ℕ). first_row_in table (column_of table key) id) c.key.ensures

pub loop-id-preserved : goal.loop-id-preserved
loop-id-preserved g c =
    let told = λ (id : Bor (List ℕ)) (name : Option g.row.T.Denot). IsNamed g.T.NamedRow.tells c.args.sheet.now g.T.NamedRow.key id.now name in
    let ids : List (Bor (List ℕ)) = c.args.ids.now in
    let n = c.loop-id.id-index in
    let none : Bor (List ℕ) = record { ref_ptr = (0, 0); now = [] } in
    rw (c.in_ok-push.ensures.items, take_more ids n none c.loop-id-test.true)
    (all_zipped_more told (take n ids) c.loop-id.names.items (get_or ids n none) c.in_ok-name_of.field-0 c.loop-id.invariant c.in_ok-name_of.ensures)
