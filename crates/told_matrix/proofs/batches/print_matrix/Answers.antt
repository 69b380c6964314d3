use Rattle.std.proofs.Common.{Result, Ok, Err, OnOk, refl}
use Rattle.streams.specs.Streams.{HasWhole}
use Rattle.told_matrix.specs.Batches.{HasLines}
use Rattle.told_matrix.specs.Tables.{HasTable}
use Rattle.told_matrix.specs.declared.batches.TheConstants.{HEADER}
use Rattle.travel_matrix.specs.declared.window.Window.{Window}
use Rattle.told_matrix.proofs.BatchFacts.{header_broken, header_cut, table_broken, table_cut, table_whole}
use Rattle.told_matrix.proofs.batches.print_matrix.Goals as goal

-- what is so if all went well
done_then : {T E : Type 0} (r : Result T E) (P Q : Type 0) → (P → Q) → OnOk r P → OnOk r Q
done_then (Ok x) P Q f p = f p
done_then (Err e) P Q f p = tt

pub returns-in_default-clause-refused : goal.returns-in_default-clause-refused
returns-in_default-clause-refused g c = λ is.
    header_cut c.args.basis.now.timetable c.args.rides c.args.matrix.now c.args.out.now c.print_bytes.new.self c.in_default.ensures

pub returns-in_err-lines_over-clause-memory : goal.returns-in_err-lines_over-clause-memory
returns-in_err-lines_over-clause-memory g c = λ is.
    header_broken c.args.basis.now.timetable c.args.rides c.args.matrix.now c.args.out.now c.print_bytes.new.self c.in-Ok.ensures

pub returns-clause-whole : goal.returns-clause-whole
returns-clause-whole g c =
    let table = c.args.basis.now.timetable in
    let k = c.args.rides in
    let matrix = c.args.matrix.now in
    let old = c.args.out.now in
    let mid = c.print_bytes.new.self in
    let new = c.print_batches-printed.new.out in
    let w : Window = record { table = c.timetable-table.result; lines = c.in_ok-lines_over.field-0; rides = k; first = matrix.first; last = matrix.last } in
    let from = c.deref.result.now in
    let to = c.deref-2.result.now in
    let header : HasWhole HEADER.now old mid = c.in-Ok.ensures in
    done_then c.print_batches-printed.result (HasLines w from to mid new) (HasTable table k matrix old new)
    (table_whole w table k matrix from to c.timetable-table.ensures.value refl refl refl c.deref.ensures.value c.deref-2.ensures.value old mid new header)
    c.print_batches-printed.ensures.whole

pub returns-clause-refused : goal.returns-clause-refused
returns-clause-refused g c = λ is.
    let k = c.args.rides in
    let matrix = c.args.matrix.now in
    let w : Window = record { table = c.timetable-table.result; lines = c.in_ok-lines_over.field-0; rides = k; first = matrix.first; last = matrix.last } in
    table_cut w c.args.basis.now.timetable k matrix c.deref.result.now c.deref-2.result.now c.timetable-table.ensures.value refl refl refl
    c.deref.ensures.value c.deref-2.ensures.value c.args.out.now c.print_bytes.new.self c.print_batches-printed.new.out c.in-Ok.ensures
    (c.print_batches-printed.ensures.refused is)

pub returns-clause-memory : goal.returns-clause-memory
returns-clause-memory g c = λ is.
    let k = c.args.rides in
    let matrix = c.args.matrix.now in
    let w : Window = record { table = c.timetable-table.result; lines = c.in_ok-lines_over.field-0; rides = k; first = matrix.first; last = matrix.last } in
    table_broken w c.args.basis.now.timetable k matrix c.deref.result.now c.deref-2.result.now c.timetable-table.ensures.value refl refl refl
    c.deref.ensures.value c.deref-2.ensures.value c.args.out.now c.print_bytes.new.self c.print_batches-printed.new.out c.in-Ok.ensures
    (c.print_batches-printed.ensures.memory is)
