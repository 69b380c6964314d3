-- The old list, and how the new disk went on to it.
use Rattle.std.proofs.Common.{ℕ, List, [], All, subst}
use Rattle.std.proofs.lemmas.List.{append-nil}
use Rattle.disk_model.specs.Disk.{State}
use Rattle.disk_model.specs.Moments.{Leaves, LeavesOnly}
use Rattle.timetable.specs.Table.{Table}
use Rattle.pattern_tree.specs.Content.{Content}
use mathlib.Core.List.{IsPrefix}
use Rattle.section_store.specs.Between.{StandsBetween, GoesBetween}
use Rattle.section_store.specs.Lasting.{IsExact, IsTrusted, StaysTrusted}
use Rattle.section_store.specs.Sections.{Form, Stands, form_of, old_form_of}
use Rattle.recovery.specs.Recovery.{StandsAsBefore}
use Rattle.migration.specs.Migration.{Migrates}
use Rattle.migration.proofs.Fronts.{all_front, fronts_same}

-- all of a list
pub whole : (list : List Content) → IsPrefix list list
whole list = ([], append-nil list)

-- each outcome stands for just these trees
pub just : (form : Form) (found : List Content) (s : State) → Leaves (StandsBetween form found found) s.now → Leaves (λ bytes. Stands form bytes found) s.now
just form found s between = λ bytes left.
    let is = between bytes left in subst (Stands form bytes) (fronts_same found is.trees is.holds is.front) is.stands

-- what is exact is so whatever the version of the file
pub exact_now : (table : Table) (rides : ℕ) (trees : List Content) → All (IsExact (old_form_of table rides)) trees → All (IsExact (form_of table rides)) trees
exact_now table rides trees each = each

pub joined : (was form : Form) (old target mid new : State) (trees found : List Content) → IsPrefix found trees → LeavesOnly target mid (StandsAsBefore form target)
    → Leaves (StandsBetween form found found) mid.now → GoesBetween form found trees mid new → (IsTrusted was old → All (IsExact form) trees)
    → (All (IsExact form) trees → StaysTrusted form mid new) → Migrates was form old target new trees
joined was form old target mid new trees found front before between goes exact trusts =
    let rest = just form found mid between in
    record {
      found = found;
      front = front;
      recovered = mid;
      before = before;
      rest = rest;
      goes = goes;
      trusted = λ trusted. λ bytes left. record { trees = found; stands = rest bytes left; exact = all_front (IsExact form) found trees front (exact trusted) };
      trusts = λ trusted. trusts (exact trusted);
    }

-- at rest it stands between its own list and all
pub between_of : (form : Form) (found trees : List Content) → IsPrefix found trees → (s : State) → Leaves (λ bytes. Stands form bytes found) s.now → Leaves (StandsBetween form found trees) s.now
between_of form found trees front s rest = λ bytes left. record { trees = found; stands = rest bytes left; holds = whole found; front = front }
