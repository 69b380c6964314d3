-- What opening a planner gives of a store.
use Rattle.std.proofs.Common.{◌≡◌, ◌⊎◌, ◌++◌, ◌∷◌, [], ℕ, suc, List, All, arith, refl, sym, subst, inl, inr}
use Rattle.std.specs.List.{AllZip}
use Rattle.disk_model.specs.Disk.{State}
use Rattle.section_store.specs.Sections.{Form, Stands}
use Rattle.section_store.specs.Lasting.{IsTrusted, IsExact}
use Rattle.recovery.specs.Recovery.{CauseOf, IsLeftAlone, IsOutside, StandsForNoList}
use Rattle.board.specs.Front.{Front}
use Rattle.board.specs.Ties.{BoardPart}
use Rattle.board.specs.Trees.{IsSameTree}
use Rattle.planner.specs.Desk.{DeskView}
use Rattle.planner.specs.Opening.{HoldsList, IsNotTheBytes, IsOpened, IsUnopened as IsPlannerUnopened}
use Rattle.planner.specs.declared.fault.OpenFault.{OpenFault}
use Rattle.planner.specs.declared.fault.OpenFault.TheVariants as opens
use Rattle.store_building.specs.Openings.{cause_of}
use Rattle.store_building.specs.Replies.{IsOpenedReader}

-- what is so of each element is so of the last
pub last_is : {X : Type 0} (P : X → Type 0) (xs : List X) (x : X) → All P (xs ++ x ∷ []) → P x
last_is P [] x h = h 0 x (omega arith)
last_is P (y ∷ xs) x h = last_is P xs x (λ i d within. h (suc i) d (omega (arith, within)))

-- the last reader of a board that was opened with the trees of a file
pub opened_reader : {D : Type 0} (form : Form) (old : State) (desk : DeskView D) (readers rest : List BoardPart) (reader : BoardPart)
    → readers ≡ rest ++ reader ∷ [] → All (λ r. r ≡ record { origin = desk.board.origin; told = desk.board.told }) readers
    → desk.form ≡ form → HoldsList old.read desk → IsOpened desk.board
    → (IsTrusted form old → All (IsExact desk.form) desk.board.origin.opened.list) → IsOpenedReader form old reader
opened_reader form old desk readers rest reader last each same holds opened right =
    let Reads : BoardPart → Type 0 = λ r. r ≡ record { origin = desk.board.origin; told = desk.board.told } in
    subst (λ (r : BoardPart). IsOpenedReader form old r) (sym (last_is Reads rest reader (subst (λ (l : List BoardPart). All Reads l) last each)))
    (record {
      trees = holds.trees;
      stands = subst (λ (f : Form). Stands f old.read holds.trees) same holds.stands;
      opened = subst (λ (f : Front). AllZip IsSameTree holds.trees f.list) (sym opened.opened) holds.shown;
      right = λ trusted. subst (λ (f : Form). All (IsExact f) desk.board.origin.opened.list) same (right trusted);
    })

-- why a planner isn't opened, as a recovery reports it
pub unopened_cause : (form : Form) (bytes : List ℕ) (fault : OpenFault) → IsPlannerUnopened form bytes fault
    → CauseOf form bytes (cause_of fault) × (IsOutside (cause_of fault) ⊎ StandsForNoList form bytes)
unopened_cause form bytes (opens.Recover fault) h = h
unopened_cause form bytes opens.Memory h = (tt, inl (inr refl))

-- the disk is left alone unless the device or memory failed, as a recovery reports it
pub alone_by : (fault : OpenFault) (old new : State) → IsNotTheBytes fault ⊎ IsLeftAlone old new → IsOutside (cause_of fault) ⊎ IsLeftAlone old new
alone_by (opens.Recover fault) old new h = h
alone_by opens.Memory old new h = inl (inr refl)
