-- Lists of faults, and faults that are added to them.
use Rattle.std.proofs.Common.{◌≡◌, ◌∙◌, sym, ap, subst, refl, arith, ℕ, zero, suc, ◌+◌, ◌<◌, ◌≤◌, false, List, [], ◌∷◌, ◌++◌, length, take, Option, None, Some, append_assoc, min}
use Rattle.std.specs.Prelude.{option_to_list, Result, Ok, Err, IfOk, OnOk}
use Rattle.std.specs.List.{cons_option}
use Rattle.std.proofs.lemmas.List.{append-nil}
use Rattle.std.proofs.lemmas.List.Elements.{filter_map-append}
use Rattle.gtfs_rows.specs.declared.fault.FaultKind.{FaultKind}
use Rattle.gtfs_rows.specs.declared.fault.FaultKind.TheVariants as kinds
use Rattle.gtfs_rows.specs.declared.fault.FeedFault.{FeedFault}
use Rattle.gtfs_rows.specs.Faults.{Explains, Test, first_fault}
use Rattle.file_faults.specs.Lists.{Adds, HasFaults, is_memory, is_unread}
use Rattle.file_faults.specs.Tables.{row_faults}
use Rattle.file_faults.specs.declared.list.FaultList.{FaultList}

-- ---- the first ones, and how many more

-- of a list that isn't full, with one more
pub take-room : {A : Type 0} (n : ℕ) (xs : List A) (x : A) → length (take n xs) < n → take n (xs ++ x ∷ []) ≡ take n xs ++ x ∷ []
take-room zero xs x room = absurd (omega arith)
take-room (suc zero) [] x room = refl
take-room (suc (suc n)) [] x room = refl
take-room {A} (suc n) (y ∷ ys) x room = ap (λ (zs : List A). y ∷ zs) (take-room n ys x (omega arith))

pub take-full : {A : Type 0} (n : ℕ) (xs : List A) (x : A) → n ≤ length (take n xs) → take n (xs ++ x ∷ []) ≡ take n xs
take-full zero xs x full = refl
take-full (suc n) [] x full = absurd (omega arith)
take-full {A} (suc n) (y ∷ ys) x full = ap (λ (zs : List A). y ∷ zs) (take-full n ys x (omega arith))

pub room-left : {A : Type 0} (n : ℕ) (xs : List A) → length (take n xs) < n → length xs < n
room-left zero xs room = absurd (omega arith)
room-left (suc n) [] room = omega arith
room-left (suc n) (y ∷ ys) room = let h = room-left n ys (omega arith) in omega arith

pub no-room : {A : Type 0} (n : ℕ) (xs : List A) → n ≤ length (take n xs) → n ≤ length xs
no-room zero xs full = omega arith
no-room (suc n) [] full = absurd (omega arith)
no-room (suc n) (y ∷ ys) full = let h = no-room n ys (omega arith) in omega arith

-- one more is counted, as far as numbers go
pub saturates : (n m : ℕ) → min (min n m + 1) m ≡ min (n + 1) m
saturates n m = omega arith

-- ---- what is added

pub adds-none : (list : FaultList) → Adds list list []
adds-none list = record { unread = refl; joins = λ faults has. subst (λ fs. HasFaults list fs) (sym (append-nil faults)) has }

pub adds-then : {a b c : FaultList} {xs ys : List FeedFault} → Adds a b xs → Adds b c ys → Adds a c (xs ++ ys)
adds-then {a} {b} {c} {xs} {ys} first second = record {
  unread = second.unread ∙ first.unread;
  joins = λ faults has. subst (λ fs. HasFaults c fs) (append_assoc faults xs ys) (second.joins (faults ++ xs) (first.joins faults has));
}

pub adds-is : {a b : FaultList} {xs ys : List FeedFault} → xs ≡ ys → Adds a b xs → Adds a b ys
adds-is {a} {b} same adds = subst (λ fs. Adds a b fs) same adds

-- the faults of rows, and of one more
pub one : (o : Option FeedFault) → cons_option o [] ≡ option_to_list o
one None = refl
one (Some f) = refl

pub row_faults-push : (tests : ℕ → List Test) (rows : List ℕ) (row : ℕ)
    → row_faults tests (rows ++ row ∷ []) ≡ row_faults tests rows ++ option_to_list (first_fault (tests row))
row_faults-push tests rows row =
    filter_map-append (λ row. first_fault (tests row)) rows (row ∷ [])
    ∙ ap (λ (zs : List FeedFault). row_faults tests rows ++ zs) (one (first_fault (tests row)))

pub adds-row : {a b c : FaultList} (tests : ℕ → List Test) (rows : List ℕ) (row : ℕ) (found : Option FeedFault) → found ≡ first_fault (tests row)
    → Adds a b (row_faults tests rows) → Adds b c (option_to_list found) → Adds a c (row_faults tests (rows ++ row ∷ []))
adds-row tests rows row found is before here = adds-is (sym (row_faults-push tests rows row)) (adds-then before (adds-is (ap option_to_list is) here))

-- ---- what was found

pub explained-is : (k : FaultKind) (first : Option FeedFault) (f : FeedFault) → is_memory k ≡ false → is_unread k ≡ false → Explains first k f → first ≡ Some f
explained-is kinds.Memory first f m u e = absurd (cc m)
explained-is kinds.ReadFailed first f m u e = absurd (cc u)
explained-is kinds.MissingFile first f m u e = e
explained-is kinds.MissingColumn first f m u e = e
explained-is kinds.BadField first f m u e = e
explained-is kinds.DuplicateKey first f m u e = e
explained-is kinds.UnknownReference first f m u e = e
explained-is kinds.TimesDecrease first f m u e = e
explained-is kinds.TooMany first f m u e = e
explained-is kinds.BadCsv first f m u e = e
explained-is kinds.EndTimeMissing first f m u e = e

-- what holds if a call is done, also holds of its parts
pub on-ok : {X E : Type 0} {P : Type 0} (r : Result X E) → P → OnOk r P
on-ok (Ok x) p = p
on-ok (Err e) p = tt

pub on-ok-then : {X E : Type 0} {P Q : Type 0} (r : Result X E) → OnOk r P → (P → Q) → OnOk r Q
on-ok-then (Ok x) p f = f p
on-ok-then (Err e) p f = tt

pub if-ok-then : {X E : Type 0} {P Q : X → Type 0} (r : Result X E) → IfOk r P → ((x : X) → P x → Q x) → IfOk r Q
if-ok-then (Ok x) p f = f x p
if-ok-then (Err e) p f = tt
