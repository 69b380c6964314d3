-- A level's branches by index, and the forest that they make.
use Rattle.std.proofs.Common.{IsTrue, Bool, false, rules, ◌≡◌, ℕ, zero, suc, ◌<◌, ◌⊎◌, ◌↔◌, List, [], ◌∷◌, length, get_or, inl, inr, arith, sym, subst}
use Rattle.std.proofs.lemmas.Bool.{cases_order, cases_lt}
use Rattle.pattern_tree.specs.Forest.{Branch, Forest, none, node, forest, Step, IsBefore, IsBeforeFirst, IsOrdered, Rises, HasItem, step_of}
use Rattle.pattern_tree.specs.Paths.{Has, IsIn}
use Rattle.pattern_tree.specs.Siblings.{StepsRise, IsStepAt, IsGapAt}
use Rattle.pattern_tree.proofs.StepFacts.{before_trans, before_irreflexive}

-- a path leads from one node on, whose step was passed, to a node that has the end e
abbrev pub HasFrom : List Step → ℕ → List ℕ → Forest → Type 0
HasFrom [] e ends next = IsIn e ends
HasFrom (t ∷ q) e ends next = Has (t ∷ q) e next

-- the first of the siblings comes before each of the others
first_before : (s : Step) (bs : List Branch) → IsBeforeFirst s (forest bs) → IsOrdered (forest bs) → (j : ℕ) (d : Branch) → j < length bs → IsBefore s (step_of (get_or bs j d))
first_before s [] h o j d lt = absurd (omega (arith, lt))
first_before s (b ∷ bs) h o zero d lt = h
first_before s (b ∷ bs) h o (suc j) d lt = before_trans s (step_of b) _ h (first_before (step_of b) bs o.3 o.4 j d (omega (arith, lt)))

pub steps_rise : (bs : List Branch) → IsOrdered (forest bs) → StepsRise bs
steps_rise [] o i j d less lt = absurd (omega (arith, lt))
steps_rise (b ∷ bs) o zero zero d less lt = absurd (omega (arith, less))
steps_rise (b ∷ bs) o zero (suc j) d less lt = first_before (step_of b) bs o.3 o.4 j d (omega (arith, lt))
steps_rise (b ∷ bs) o (suc i) zero d less lt = absurd (omega (arith, less))
steps_rise (b ∷ bs) o (suc i) (suc j) d less lt = steps_rise bs o.4 i j d (omega (arith, less)) (omega (arith, lt))

pub record OrderedAt (b : Branch) : Type 0 where
  pub ends : Rises b.ends
  pub item : HasItem b.ends b.next
  pub next : IsOrdered b.next

pub ordered_at : (bs : List Branch) → IsOrdered (forest bs) → (i : ℕ) (d : Branch) → i < length bs → OrderedAt (get_or bs i d)
ordered_at [] o i d lt = absurd (omega (arith, lt))
ordered_at (b ∷ bs) o zero d lt = record { ends = o.0; item = o.1; next = o.2 }
ordered_at (b ∷ bs) o (suc i) d lt = ordered_at bs o.4 i d (omega (arith, lt))

-- Has at a first node
pub has_node : (s : Step) (q : List Step) (e : ℕ) (b : Branch) (f : Forest) → Has (s ∷ q) e (node b.board b.alight b.ends b.next f) → ((s ≡ step_of b) × HasFrom q e b.ends b.next) ⊎ Has (s ∷ q) e f
has_node s [] e b f h = h
has_node s (t ∷ q) e b f h = h

pub node_has : (s : Step) (q : List Step) (e : ℕ) (b : Branch) (f : Forest) → ((s ≡ step_of b) × HasFrom q e b.ends b.next) ⊎ Has (s ∷ q) e f → Has (s ∷ q) e (node b.board b.alight b.ends b.next f)
node_has s [] e b f h = h
node_has s (t ∷ q) e b f h = h

pub has_at : (bs : List Branch) (s : Step) (q : List Step) (e : ℕ) (i : ℕ) (d : Branch) → i < length bs → s ≡ step_of (get_or bs i d) → HasFrom q e (get_or bs i d).ends (get_or bs i d).next → Has (s ∷ q) e (forest bs)
has_at [] s q e i d lt is h = absurd (omega (arith, lt))
has_at (b ∷ bs) s q e zero d lt is h = node_has s q e b (forest bs) (inl (is, h))
has_at (b ∷ bs) s q e (suc i) d lt is h = node_has s q e b (forest bs) (inr (has_at bs s q e i d (omega (arith, lt)) is h))

pub record Somewhere (bs : List Branch) (s : Step) (q : List Step) (e : ℕ) (d : Branch) : Type 0 where
  pub index : ℕ
  pub in_range : index < length bs
  pub is : s ≡ step_of (get_or bs index d)
  pub has : HasFrom q e (get_or bs index d).ends (get_or bs index d).next

pub has_somewhere : (bs : List Branch) (s : Step) (q : List Step) (e : ℕ) (d : Branch) → Has (s ∷ q) e (forest bs) → Somewhere bs s q e d
has_somewhere [] s q e d h = absurd h
has_somewhere (b ∷ bs) s q e d h =
    elim (has_node s q e b (forest bs) h) [
      | inl k ↦ record { index = 0; in_range = omega arith; is = k.0; has = k.1 }
      | inr k ↦ let w = has_somewhere bs s q e d k in record { index = suc w.index; in_range = omega (arith, w.in_range); is = w.is; has = w.has }
    ]

-- nothing begins with a step that has no index
pub gap_has_not : (bs : List Branch) (s : Step) (q : List Step) (e i : ℕ) (d : Branch) → IsGapAt bs s i → Has (s ∷ q) e (forest bs) → ⊥
gap_has_not bs s q e i d gap h =
    let w = has_somewhere bs s q e d h in
    elim (cases_lt w.index i) [
      | inl less ↦ before_irreflexive s (subst (λ (t : Step). IsBefore t s) (sym w.is) (gap.1 w.index d less))
      | inr more ↦ before_irreflexive s (subst (λ (t : Step). IsBefore s t) (sym w.is) (gap.2 w.index d more w.in_range))
    ]

-- a step's index is where all that begins with it is found
pub has_at_index : (bs : List Branch) (s : Step) (q : List Step) (e i : ℕ) (d : Branch) → StepsRise bs → IsStepAt bs s i → Has (s ∷ q) e (forest bs) → HasFrom q e (get_or bs i d).ends (get_or bs i d).next
has_at_index bs s q e i d rise at h =
    let w = has_somewhere bs s q e d h in
    elim (cases_order w.index i) [
      | inl same ↦ subst (λ (k : ℕ). HasFrom q e (get_or bs k d).ends (get_or bs k d).next) same w.has
      | inr (inl less) ↦ absurd (before_irreflexive s (subst (λ (t : Step). IsBefore t s) (sym w.is) (subst (λ (t : Step). IsBefore (step_of (get_or bs w.index d)) t) (at.1 d) (rise w.index i d less at.0))))
      | inr (inr more) ↦ absurd (before_irreflexive s (subst (λ (t : Step). IsBefore s t) (sym w.is) (subst (λ (t : Step). IsBefore t (step_of (get_or bs w.index d))) (at.1 d) (rise i w.index d more w.in_range))))
    ]

-- what a search that found no index answers
pub no_index : (bs : List Branch) (path q : List Step) (s : Step) (e i : ℕ) → path ≡ s ∷ q → IsGapAt bs s i → IsTrue false ↔ Has path e (forest bs)
no_index bs path q s e i is gap =
    (λ h. absurd (search rules), λ h. absurd (gap_has_not bs s q e i (record { board = 0; alight = 0; ends = []; next = none }) gap (subst (λ (p : List Step). Has p e (forest bs)) is h)))

pub at_index : (bs : List Branch) (path q : List Step) (s : Step) (e i : ℕ) (n : Branch) (b : Bool) → IsOrdered (forest bs) → path ≡ s ∷ q → IsStepAt bs s i → ((d : Branch) → get_or bs i d ≡ n) → IsTrue b ↔ HasFrom q e n.ends n.next → IsTrue b ↔ Has path e (forest bs)
at_index bs path q s e i n b ordered is at same h =
    let back = subst (λ (m : Branch). HasFrom q e m.ends m.next) (same n) in
    let forth = subst (λ (m : Branch). HasFrom q e m.ends m.next) (sym (same n)) in (
      λ t. subst (λ (p : List Step). Has p e (forest bs)) (sym is) (has_at bs s q e i n at.0 (sym (at.1 n)) (forth (h.0 t))),
      λ k. h.1 (back (has_at_index bs s q e i n (steps_rise bs ordered) at (subst (λ (p : List Step). Has p e (forest bs)) is k))),
    )

pub from_end : (q : List Step) (e : ℕ) (ends : List ℕ) (next : Forest) (b : Bool) → length q ≡ 0 → IsTrue b ↔ IsIn e ends → IsTrue b ↔ HasFrom q e ends next
from_end [] e ends next b z h = h
from_end (t ∷ q) e ends next b z h = absurd (omega (arith, z))

pub from_next : (q : List Step) (e : ℕ) (ends : List ℕ) (next : Forest) (b : Bool) → 0 < length q → IsTrue b ↔ Has q e next → IsTrue b ↔ HasFrom q e ends next
from_next [] e ends next b z h = absurd (omega (arith, z))
from_next (t ∷ q) e ends next b z h = h
