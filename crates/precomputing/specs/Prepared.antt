-- What is made before anything is started.
use Rattle.std.specs.Prelude.{◌≡◌, ◌≤◌, [], length, vec_capacity}
use Rattle.timetable.specs.Table.{stops_of}
use Rattle.section_store.specs.Sections.{form_of}
use Rattle.section_store.specs.Sources.{IsSetOf}
use Rattle.planner.specs.Desk.{DeskView}
use Rattle.precomputing.specs.declared.precomputing.Prepared.{Prepared}

-- the ledger is of the desk's form, the set is of the stored stops, and there is room for all that lack a tree
pub record IsPrepared {D : Type 0} (desk : DeskView D) (made : Prepared) : Type 0 where
  pub ledger : form_of made.ledger.table made.ledger.rides ≡ desk.form
  pub set : IsSetOf (stops_of desk.form.table) made.set desk.stored
  pub bare : made.room.items ≡ []
  pub room : made.stops ≤ vec_capacity made.room
  pub stops : made.stops ≡ stops_of desk.form.table
  pub few : made.stops ≤ 1_000_000
  pub before : made.before ≡ length desk.stored
