use Rattle.std.proofs.Common.{◌≡◌, ◌∙◌, sym, ap, ℕ, Bool, List, [], ◌∷◌, length, nat_le}
use Rattle.std.specs.Prelude.{option_to_list}
use Rattle.gtfs_rows.specs.declared.fault.FeedFile.TheVariants as files
use Rattle.gtfs_rows.specs.Faults.{first_fault}
use Rattle.gtfs_rows.proofs.TextFacts.{length-texts_in}
use Rattle.file_faults.specs.Tables.{fits, has_few_ids, size_test}
use Rattle.file_faults.proofs.ListFacts.{adds-is, adds-then, if-ok-then, on-ok, on-ok-then}
use Rattle.file_faults.proofs.stops.list_ids.Goals as goal

pub returns-clause-list : goal.returns-clause-list
returns-clause-list c =
    let table = c.args.sheet.now in
    let same : nat_le c.len.result 1_000_000 ≡ has_few_ids table = ap (λ (n : ℕ). nat_le n 1_000_000)
    (c.len.ensures.len ∙ sym (length-texts_in c.add_ids_of-2.new.ids.keys) ∙ ap (length {A = List ℕ}) c.in_ok-add_ids_of-2.ensures) in
    on-ok-then c.add_size.result c.add_size.ensures.adds
    (λ added. adds-then c.in_ok-list_rows.ensures.list (adds-is (ap (λ (b : Bool). option_to_list (first_fault (size_test files.Stops b table ∷ []))) same) added))

pub returns-clause-ids : goal.returns-clause-ids
returns-clause-ids c =
    on-ok c.add_size.result (λ i. record { all = c.in_ok-list_rows.ensures.ids i; stops = c.in_ok-add_ids_of-2.ensures i; stations = c.in_ok-add_ids_of.ensures i })

pub returns-clause-fits : goal.returns-clause-fits
returns-clause-fits c =
    let table = c.args.sheet.now in
    let same : nat_le c.len.result 1_000_000 ≡ has_few_ids table = ap (λ (n : ℕ). nat_le n 1_000_000)
    (c.len.ensures.len ∙ sym (length-texts_in c.add_ids_of-2.new.ids.keys) ∙ ap (length {A = List ℕ}) c.in_ok-add_ids_of-2.ensures) in
    if-ok-then c.add_size.result c.add_size.ensures.fits (λ b is. is ∙ ap (λ (b : Bool). fits b table) same)
