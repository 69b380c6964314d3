-- The faults of files, one after the other.
use Rattle.std.proofs.Common.{◌≡◌, ◌∙◌, ap, subst, refl, ℕ, Bool, true, false, inl, inr, List, [], ◌∷◌, ◌++◌, Option, None, Some}
use Rattle.std.specs.Prelude.{is_some, option_and_then, ◌||◌, IfOk, Result}
use Rattle.gtfs_text.specs.Sheets.{Table}
use Rattle.gtfs_rows.specs.declared.fault.FeedFault.{FeedFault}
use Rattle.gtfs_rows.specs.declared.fault.FeedFile.{FeedFile}
use Rattle.gtfs_rows.specs.Faults.{fault_at}
use Rattle.gtfs_rows.specs.declared.fault.FaultKind.TheVariants as kinds
use Rattle.gtfs_rows.specs.declared.fault.FeedFile.TheVariants as files
use Rattle.gtfs_rows.specs.Rows.{IsContent}
use Rattle.file_faults.specs.Lists.{Adds, HasFaults}
use Rattle.feed_faults.specs.Lists.{Lists}
use Rattle.feed_faults.specs.Files.{file_faults, known_in, optional_faults, services_faults}
use Rattle.feed_faults.specs.Opened.{AddsOrUnread, IsOpened, IsOpenedIfThere, sheet_faults}
use Rattle.file_faults.specs.Tables.{calendar_dates_faults, calendar_faults}
use Rattle.file_faults.specs.declared.list.FaultList.{FaultList}
use Rattle.file_faults.proofs.ListFacts.{adds-is, adds-none, adds-then}

-- ---- what is added, unless a reader failed

pub sure : {a b : FaultList} {xs : List FeedFault} → Adds a b xs → AddsOrUnread a b xs
sure added = record { how = inr added }

pub then-all : {a b c : FaultList} {xs ys : List FeedFault} → AddsOrUnread a b xs → AddsOrUnread b c ys → AddsOrUnread a c (xs ++ ys)
then-all first second = elim second.how [
  | inl unread ↦ record { how = inl unread }
  | inr later ↦ elim first.how [ inl unread ↦ record { how = inl (later.unread ∙ unread) } | inr here ↦ record { how = inr (adds-then here later) } ]
]

pub all-is : {a b : FaultList} {xs ys : List FeedFault} → xs ≡ ys → AddsOrUnread a b xs → AddsOrUnread a b ys
all-is {a} {b} same adds = subst (λ fs. AddsOrUnread a b fs) same adds

-- a reader that failed is not forgotten
stays-unread : {a b c : FaultList} {xs ys : List FeedFault} → b.unread ≡ true → AddsOrUnread b c xs → AddsOrUnread a c ys
stays-unread unread added = elim added.how [ inl still ↦ record { how = inl still } | inr all ↦ record { how = inl (all.unread ∙ unread) } ]

-- a list that had no fault has those that were added
pub lists-added : (a b : FaultList) (faults : List FeedFault) → HasFaults a [] → AddsOrUnread a b faults → Lists b faults
lists-added a b faults none added = elim added.how [ inl unread ↦ inl unread | inr all ↦ inr (all.joins [] none) ]

-- ---- files

-- a file that was opened, and the faults of others that rest on what is known of it
pub known-added : {X : Type 0} {a b c : FaultList} (file : FeedFile) (faults : Table → List FeedFault) (known : Table → Option X) (rest : Option X → List FeedFault)
    (bytes : Option (List ℕ)) (sheet : Option Table) → IsOpened file bytes a b sheet
    → AddsOrUnread b c (sheet_faults faults sheet ++ rest (option_and_then known sheet))
    → AddsOrUnread a c (file_faults file faults bytes ++ rest (known_in file known bytes))
known-added file faults known rest bytes (Some table) opened added =
    rw opened.1 (then-all (sure opened.0) (rw (← opened.2) added))
known-added file faults known rest bytes None opened added = elim opened [
  | inl unread ↦ stays-unread unread added
  | inr found ↦ rw found.1 (then-all (sure found.2) added)
]

-- and the faults of its table
pub file-added : {a b c : FaultList} (file : FeedFile) (faults : Table → List FeedFault) (bytes : Option (List ℕ)) (sheet : Option Table)
    → IsOpened file bytes a b sheet → Adds b c (sheet_faults faults sheet) → AddsOrUnread a c (file_faults file faults bytes)
file-added file faults bytes (Some table) opened added =
    rw opened.1 (then-all (sure opened.0) (sure (rw (← opened.2) added)))
file-added file faults bytes None opened added = elim opened [
  | inl unread ↦ stays-unread unread (sure added)
  | inr found ↦ rw found.1 (then-all (sure found.2) (sure added))
]

-- the same of a file that may be missing
pub optional-added : {a b c : FaultList} (file : FeedFile) (faults : Table → List FeedFault) (bytes : Option (List ℕ)) (sheet : Option Table)
    → IsOpenedIfThere file bytes a b sheet → Adds b c (sheet_faults faults sheet) → AddsOrUnread a c (optional_faults file faults bytes)
optional-added file faults None sheet opened added = sure (adds-then opened.0 (adds-is (ap (sheet_faults faults) opened.1) added))
optional-added file faults (Some bytes) sheet opened added = file-added file faults (Some bytes) sheet opened added

-- whose reader is there, or isn't
pub opened-there : {R E : Type 0} (remaining : R → Option (List ℕ)) (reader : R) (bytes : Option (List ℕ)) (file : FeedFile) (a b : FaultList) (result : Result (Option Table) E)
    → IsContent remaining (Some reader) bytes → IfOk result (IsOpened file bytes a b) → IfOk result (IsOpenedIfThere file bytes a b)
opened-there remaining reader (Some bytes) file a b result content opened = opened
opened-there remaining reader None file a b result content opened = absurd content

pub not-there : {R : Type 0} (remaining : R → Option (List ℕ)) (bytes : Option (List ℕ)) (file : FeedFile) (a : FaultList)
    → IsContent remaining None bytes → IsOpenedIfThere file bytes a a None
not-there remaining (Some bytes) file a content = absurd content
not-there remaining None file a content = (adds-none a, refl)

-- both files of services, of which one is there, or none
pub services-there : (calendar dates : Option (List ℕ)) → (is_some calendar || is_some dates) ≡ true
    → optional_faults files.Calendar calendar_faults calendar ++ optional_faults files.CalendarDates calendar_dates_faults dates ≡ services_faults calendar dates
services-there calendar dates there = rw there refl

pub services-missing : (calendar dates : Option (List ℕ)) → (is_some calendar || is_some dates) ≡ false
    → fault_at kinds.MissingFile files.Calendar 0 ∷ [] ≡ services_faults calendar dates
services-missing calendar dates missing = rw missing refl

pub or-false : (a b : Bool) → a ≡ false → b ≡ false → (a || b) ≡ false
or-false a b p q = rw (p, q) refl

pub or-left : (a b : Bool) → a ≡ true → (a || b) ≡ true
or-left a b p = rw p refl

pub or-right : (a b : Bool) → b ≡ true → (a || b) ≡ true
or-right true b p = refl
or-right false b p = p
