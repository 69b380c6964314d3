use Rattle.std.proofs.Common.{refl, inl, inr, subst}
use Rattle.timetable.specs.Table.{Table}
use Rattle.section_store.specs.Sections.{form_of}
use Rattle.file_kinds.specs.Kinds.{IsOfKind}
use Rattle.file_kinds.specs.declared.kind.FileKind.{FileKind}
use Rattle.file_kinds.specs.declared.kind.FileKind.TheVariants.{Foreign}
use Rattle.store_files.proofs.FileFacts.{foreign_fails}
use Rattle.store_files.proofs.opening.open_ready.Goals as goal

pub returns-in-Ok-Foreign-clause-kept_out : goal.returns-in-Ok-Foreign-clause-kept_out
returns-in-Ok-Foreign-clause-kept_out g c = inr (record {
  first = c.in-Ok.disk;
  last = c.file_kind.new.disk;
  opened = c.in-Ok.ensures;
  given_back = refl;
  honest = c.file_kind.ensures.honest;
  same = c.file_kind.ensures.same;
  why = λ honest.
      let read = (g.D.Store.Disk.state c.in-Ok.disk).read in
      let kind = subst (λ (t : Table). IsOfKind (form_of t c.args.file.now.rides) read Foreign) c.timetable.ensures.value
      (subst (λ (k : FileKind). IsOfKind (form_of c.timetable.result.now c.args.file.now.rides) read k) c.in-Ok-Foreign.field-0-is (c.in-Ok-Foreign.ensures.kind honest)) in
      inl (refl, kind.0, kind.1);
  kind = inl refl;
  counted = foreign_fails (g.D.Store.Disk.failures c.in-Ok.disk) (g.D.Store.Disk.failures c.file_kind.new.disk);
})
