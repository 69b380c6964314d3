-- How a store goes on while trees are put, one after the other.
use Rattle.std.proofs.Common.{◌≡◌, ℕ, ◌+◌, ◌<◌, ◌≤◌, List, [], ◌∷◌, ◌++◌, length, take, get_or, refl, sym, ◌∙◌, ap, subst, arith}
use Rattle.std.proofs.lemmas.List.{take_more}
use Rattle.disk_model.specs.Disk.{State}
use Rattle.disk_model.specs.Moments.{LeavesOnly}
use Rattle.pattern_tree.specs.Content.{Content}
use Rattle.section_store.specs.Fault.{CauseOf}
use Rattle.section_store.specs.declared.fault.PutFault.{PutFault}
use Rattle.section_store.specs.declared.fault.PutFault.TheVariants.{TooLarge}
use Rattle.section_store.specs.Between.{GoesBetween}
use Rattle.section_store.specs.Between.{NothingGoesBetween, PutGoesBetween, GoesBetweenInTurn}
use Rattle.section_store.specs.Lasting.{LosesNothing}
use Rattle.section_store.specs.Sections.{Form, IsBeforeOrAfter}
use Rattle.section_store.specs.Store.{Holds}
use Rattle.migration.proofs.Fronts.{front_take, front_short}

module _ (nothing : NothingGoesBetween) (put : PutGoesBetween) (turn : GoesBetweenInTurn) (form : Form) (trees : List Content) (from : ℕ) where
  -- nothing is put yet
  pub none_put : (old : State) → GoesBetween form (take from trees) (take from trees) old old
  none_put old = nothing form (take from trees) (take from trees) old old refl

  module _ (i : ℕ) (d : Content) (lt : i < length trees) (le : from ≤ i) where
    pub next_is : take (i + 1) trees ≡ take i trees ++ get_or trees i d ∷ []
    next_is = take_more trees i d lt

    -- one more was put, or its put began
    pub one_put : (tree : Content) → tree ≡ get_or trees i d → (old mid new : State) → GoesBetween form (take from trees) (take i trees) old mid
        → LeavesOnly mid new (IsBeforeOrAfter form (take i trees) tree) → LosesNothing form mid new
        → GoesBetween form (take from trees) (take (i + 1) trees) old new
    one_put tree is old mid new first moments loses =
        let next : take (i + 1) trees ≡ take i trees ++ tree ∷ [] = next_is ∙ ap (λ (x : Content). take i trees ++ x ∷ []) (sym is) in
        let here : GoesBetween form (take i trees) (take (i + 1) trees) mid new =
        subst (λ (l : List Content). GoesBetween form (take i trees) l mid new) (sym next) (put form (take i trees) tree mid new moments loses) in
        turn form (take from trees) (take i trees) (take (i + 1) trees) old mid new (front_short from i trees le) (front_short i (i + 1) trees (omega arith)) first here

    pub held_more : (tree : Content) → tree ≡ get_or trees i d → (place : ℕ) (stored : List ℕ) (s : State) → Holds form (take i trees ++ tree ∷ []) place stored s
        → Holds form (take (i + 1) trees) place stored s
    held_more tree is place stored s holds =
        let next : take (i + 1) trees ≡ take i trees ++ tree ∷ [] = next_is ∙ ap (λ (x : Content). take i trees ++ x ∷ []) (sym is) in
        subst (λ (l : List Content). Holds form l place stored s) (sym next) holds

  -- all that comes is a beginning of all
  pub to_all : (i : ℕ) → from ≤ i → (old new : State) → GoesBetween form (take from trees) (take i trees) old new → GoesBetween form (take from trees) trees old new
  to_all i le old new goes =
      turn form (take from trees) (take i trees) trees old new new (front_short from i trees le) (front_take i trees) goes
      (nothing form (take i trees) trees new new refl)

-- the same of equal forms and lists
pub moved_goes : (form other : Form) (part found list trees : List Content) (s t : State) → other ≡ form → part ≡ found → list ≡ trees → GoesBetween other part list s t → GoesBetween form found trees s t
moved_goes form other part found list trees s t same part_is list_is goes =
    subst (λ (f : Form). GoesBetween f found trees s t) same
    (subst (λ (l : List Content). GoesBetween other l trees s t) part_is
    (subst (λ (l : List Content). GoesBetween other part l s t) list_is goes))

pub moved_holds : (form other : Form) (list trees : List Content) (place : ℕ) (stored : List ℕ) (s : State) → other ≡ form → list ≡ trees → Holds other list place stored s → Holds form trees place stored s
moved_holds form other list trees place stored s same list_is holds =
    subst (λ (f : Form). Holds f trees place stored s) same (subst (λ (l : List Content). Holds other l place stored s) list_is holds)

-- the cause of a tree that was too large
pub too_large : (ready ours new large : Type 0) (before after : ℕ) (fault : PutFault) → CauseOf ready ours new large before after fault → fault ≡ TooLarge → large
too_large ready ours new large before after fault cause is =
    let why : ready × ours × new × large = subst (CauseOf ready ours new large before after) is cause in why.3
