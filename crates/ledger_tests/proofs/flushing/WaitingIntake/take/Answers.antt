use Rattle.std.proofs.Common.{rules, ◌≡◌, ℕ, ap, sym}
use Rattle.timetable.specs.Table.{Table}
use Rattle.section_store.specs.Sections.{Form, form_of}
use Rattle.section_store.specs.declared.version.Version.{Version}
use Rattle.section_store.specs.declared.version.Version.TheVariants.{Second}
use Rattle.ledger_tests.proofs.flushing.WaitingIntake.take.Goals as goal

-- a form of the version that is written, by its timetable and rides
same_form : (f : Form) (t : Table) (r : ℕ) → t ≡ f.table → r ≡ f.rides → f.version ≡ Second → form_of t r ≡ f
same_form f t r table rides written =
    rw (table, rides) (ap (λ (v : Version). let g : Form = record { table = f.table; rides = f.rides; version = v } in g) (sym written))

pub returns-in-Some-clause-own : goal.returns-in-Some-clause-own
returns-in-Some-clause-own c = same_form c.args.self.now.form c.in-Some.tree.table c.in-Some.tree.rides (search rules) (search rules) c.args.self.now.written
