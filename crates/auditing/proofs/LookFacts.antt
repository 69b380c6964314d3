-- What a walk over the pairs of a tree marks.
use Rattle.std.proofs.Common.{◌≡◌, ◌∙◌, ◌≤◌, ℕ, false, List, [], ◌∷◌, length, Contains, sym, ap, subst, inl, inr}
use Rattle.timetable.specs.Table.{Table}
use Rattle.pattern_tree.specs.Content.{Content, longest}
use Rattle.pattern_tree.specs.Completeness.{Complete}
use Rattle.pattern_tree.specs.Forest.{Pair}
use Rattle.pattern_tree.specs.Paths.{IsIn}
use Rattle.pattern_tree.specs.Walks.{ShownAll}
use Rattle.pattern_tree.proofs.PairFacts.{contains_in}
use Rattle.auditing.specs.Lacks.{AgreeUnmarked, IsLookedFor, is_marked}
use Rattle.auditing.specs.declared.lacking.Lacking.{Lacking}
use Rattle.auditing.proofs.AgreeFacts.{agrees_by}

-- the pairs were looked for, one by one
pub record AreLookedFor (old : Lacking) (ps : List Pair) (new : Lacking) : Type 0 where
  pub patterns : new.patterns.now ≡ old.patterns.now
  pub size : length new.marks.items ≡ length old.marks.items
  pub stays : (t : ℕ) → is_marked new.marks.items t ≡ false → is_marked old.marks.items t ≡ false
  pub has : (p : Pair) → IsIn p ps → is_marked new.marks.items p.1 ≡ false → Contains old.patterns.now.pairs p

pub looked_for : (old : Lacking) (ps : List Pair) (new : Lacking) → ShownAll IsLookedFor old ps new → AreLookedFor old ps new
looked_for old [] new e = record {
  patterns = ap (λ (l : Lacking). l.patterns.now) e;
  size = ap (λ (l : Lacking). length l.marks.items) e;
  stays = λ t clear. subst (λ (l : Lacking). is_marked l.marks.items t ≡ false) e clear;
  has = λ p in' clear. absurd in';
}
looked_for old (q ∷ ps) new shown =
    let first = shown.1 in
    let rest = looked_for shown.0 ps new shown.2 in
    record {
      patterns = rest.patterns ∙ first.patterns;
      size = rest.size ∙ first.size;
      stays = λ t clear. first.stays t (rest.stays t clear);
      has = λ p in' clear. elim in' [
        | inl e ↦ subst (λ (x : Pair). Contains old.patterns.now.pairs x) (sym e) (first.has (rest.stays q.1 (subst (λ (x : Pair). is_marked new.marks.items x.1 ≡ false) e clear)))
        | inr later ↦ subst (λ (c : Content). Contains c.pairs p) first.patterns (rest.has p later clear)
      ];
    }

-- so the answers to stops that aren't marked agree
pub agree_unmarked : (table : Table) (k : ℕ) (tree built : Content) (old new : Lacking) → old.patterns.now ≡ tree → built.source ≡ tree.source
    → Complete table k built.source built.pairs → longest tree.pairs ≤ k → ShownAll IsLookedFor old built.pairs new
    → AgreeUnmarked table tree k new.marks.items
agree_unmarked table k tree built old new is same complete short shown t clear d =
    let looked = looked_for old built.pairs new shown in
    agrees_by table tree built k t same complete short
    (λ path c. subst (λ (x : Content). Contains x.pairs (path, t)) is (looked.has (path, t) (contains_in (path, t) built.pairs c) clear)) d
