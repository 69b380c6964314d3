-- How a store goes on.
use Rattle.std.proofs.Common.{◌≡◌, inl, inr, ℕ, zero, suc, List, [], ◌∷◌, ◌++◌, append_assoc, get_or, arith, sym, ◌∙◌, ap, subst}
use Rattle.std.specs.List.{All, Contains}
use Rattle.std.proofs.lemmas.List.{append-nil, append_cancel_left, map-append, get_or_default}
use Rattle.disk_model.specs.Image.{Image, IsOutcome}
use Rattle.disk_model.specs.Disk.{State}
use Rattle.disk_model.specs.Moments.{moments, Leaves, LeavesOnly}
use Rattle.disk_model.proofs.Moments.{still, goes_on, weaker, leaves_last, only_settled}
use Rattle.pattern_tree.specs.Content.{Content}
use mathlib.Core.List.{IsPrefix}
use Rattle.section_store.specs.Going.{StandsForMore, StandsForFront, HoldsAll, IsKept, GoesOn}
use Rattle.section_store.specs.Lasting.{HasSource, BeginsWith, LosesNothing, IsTrustedFile, StaysTrusted}
use Rattle.section_store.specs.Sections.{Form, Stands, IsBeforeOrAfter, sources}
use Rattle.section_store.specs.Laws.{StandsForOne}
use Rattle.section_store.specs.Store.{IsRest, Holds}
use Rattle.section_store.proofs.Lasting.{in_turn, lasts}

module _ (form : Form) where
  -- the bytes of a store at rest
  pub rest_stands : (trees : List Content) (place : ℕ) (disk : State) → IsRest form trees place disk → (bytes : List ℕ) → IsOutcome disk.now bytes → Stands form bytes trees
  rest_stands trees place disk rest bytes left =
      let read : bytes ≡ disk.read = only_settled disk.read bytes (subst (λ (image : Image). IsOutcome image bytes) rest.durable left) in
      inr (record {
        fits = rest.begins.fits;
        texts = rest.begins.texts;
        gate = rest.gate;
        free = rest.free;
        are = read ∙ rest.begins.are;
        closed = rest.closed;
        of = rest.begins.of;
        apart = rest.begins.apart;
      })

  pub kept_holds : (place : ℕ) (list : List ℕ) (disk : State) → IsKept form place list disk → HoldsAll form list disk
  kept_holds place list disk kept = λ k d below bytes left.
      let here : Contains list (get_or list k d) = (k, below, get_or_default list k (get_or list k d) d below) in
      record {
        trees = kept.0;
        stands = rest_stands kept.0 place disk kept.1.rest bytes left;
        has = subst (λ (l : List ℕ). Contains l (get_or list k d)) kept.1.stored_are here;
      }

  -- what was held still is
  pub lost_none : (list : List ℕ) (old new : State) → LosesNothing form old new → HoldsAll form list old → HoldsAll form list new
  lost_none list old new loses holds = λ k d below.
      let s = get_or list k d in
      leaves_last old new (HasSource form s)
      (record {
        since = loses.since;
        are = loses.are;
        each = λ i image inside. (loses.each zero (suc i) image (omega arith) (omega (arith, inside))).sources s (holds k d below);
      })
      (holds k d below)

  -- nothing was done
  pub stay : (list storing : List ℕ) (old new : State) → new ≡ old → GoesOn form list storing old new
  stay list storing old new same = record {
    leaves = still old new (StandsForFront form list storing) same;
    loses = record {
      since = [];
      are = ap moments same ∙ sym (append-nil (moments old));
      each = λ i j d below inside. absurd (omega (arith, below, inside));
    };
    trusts = λ trusted. still old new (IsTrustedFile form) same;
  }

  -- a put has begun
  module _ (list : List ℕ) (trees : List Content) (tree : Content) (are : list ≡ sources trees) where
    more : sources (trees ++ tree ∷ []) ≡ list ++ tree.source ∷ []
    more = map-append (λ (t : Content). t.source) trees (tree ∷ []) ∙ ap (λ (l : List ℕ). l ++ tree.source ∷ []) (sym are)

    put_front : (bytes : List ℕ) → IsBeforeOrAfter form trees tree bytes → StandsForFront form list (list ++ tree.source ∷ []) bytes
    put_front bytes (inl before) = record {
      trees = trees;
      stands = inr before;
      holds = ([], append-nil list ∙ are);
      front = (tree.source ∷ [], sym (ap (λ (l : List ℕ). l ++ tree.source ∷ []) are));
    }
    put_front bytes (inr after) = record {
      trees = trees ++ tree ∷ [];
      stands = inr after;
      holds = (tree.source ∷ [], sym more);
      front = ([], append-nil (sources (trees ++ tree ∷ [])) ∙ more);
    }

    pub put_goes : (old new : State) → LeavesOnly old new (IsBeforeOrAfter form trees tree) → LosesNothing form old new → StaysTrusted form old new
        → GoesOn form list (list ++ tree.source ∷ []) old new
    put_goes old new moments loses trusts = record {
      leaves = weaker old new (IsBeforeOrAfter form trees tree) (StandsForFront form list (list ++ tree.source ∷ [])) put_front moments;
      loses = loses;
      trusts = trusts;
    }

  -- a longer storing order, and a shorter list
  longer : (list storing more bytes : List ℕ) → StandsForFront form list storing bytes → StandsForFront form list (storing ++ more) bytes
  longer list storing more bytes is = record {
    trees = is.trees;
    stands = is.stands;
    holds = is.holds;
    front = (is.front.0 ++ more, sym (append_assoc (sources is.trees) is.front.0 more) ∙ ap (λ (l : List ℕ). l ++ more) is.front.1);
  }

  shorter : (list front storing bytes : List ℕ) → IsPrefix front list → StandsForFront form list storing bytes → StandsForFront form front storing bytes
  shorter list front storing bytes begins is = record {
    trees = is.trees;
    stands = is.stands;
    holds = (begins.0 ++ is.holds.0, sym (append_assoc front begins.0 is.holds.0) ∙ ap (λ (l : List ℕ). l ++ is.holds.0) begins.1 ∙ is.holds.1);
    front = is.front;
  }

  pub trusts_on : (old mid new : State) → StaysTrusted form old mid → StaysTrusted form mid new → StaysTrusted form old new
  trusts_on old mid new first second = λ trusted.
      goes_on old mid new (IsTrustedFile form) (first trusted) (second (lasts form old mid trusted first))

  pub goes_more : (list storing more : List ℕ) (old mid new : State)
      → IsPrefix list storing → GoesOn form list storing old mid → GoesOn form storing (storing ++ more) mid new → GoesOn form list (storing ++ more) old new
  goes_more list storing more old mid new front first second =
      let order : List ℕ = storing ++ more in
      record {
        leaves = goes_on old mid new (StandsForFront form list order)
            (weaker old mid (StandsForFront form list storing) (StandsForFront form list order) (longer list storing more) first.leaves)
            (weaker mid new (StandsForFront form storing order) (StandsForFront form list order) (λ bytes. shorter storing list order bytes front) second.leaves);
        loses = in_turn form old mid new first.loses second.loses;
        trusts = trusts_on old mid new first.trusts second.trusts;
      }

-- two facts of each outcome at each moment
both : (old new : State) (P Q : List ℕ → Type 0) → LeavesOnly old new P → LeavesOnly old new Q → LeavesOnly old new (λ bytes. P bytes × Q bytes)
both old new P Q first second =
    let same : first.since ≡ second.since = append_cancel_left (moments old) first.since second.since (sym first.are ∙ second.are) in
    let others : All (Leaves Q) first.since = subst (All (Leaves Q)) (sym same) second.each in
    record { since = first.since; are = first.are; each = λ i image inside bytes left. (first.each i image inside bytes left, others i image inside bytes left) }

-- by the trees
module _ (form : Form) where
  held_first : (trees : List Content) (place : ℕ) (list : List ℕ) (disk : State) → Holds form trees place list disk → Leaves (BeginsWith form trees) disk.now
  held_first trees place list disk holds = λ bytes left. record {
    more = [];
    stands = subst (Stands form bytes) (sym (append-nil trees)) (rest_stands form trees place disk holds.rest bytes left);
  }

  pub held_more : (trees : List Content) (place : ℕ) (list storing : List ℕ) (disk : State)
      → Holds form trees place list disk → IsPrefix list storing → Leaves (StandsForMore form trees storing) disk.now
  held_more trees place list storing disk holds front = λ bytes left.
      let own : IsPrefix (sources trees) storing = subst (λ (l : List ℕ). IsPrefix l storing) holds.stored_are front in
      record {
        more = [];
        stands = subst (Stands form bytes) (sym (append-nil trees)) (rest_stands form trees place disk holds.rest bytes left);
        front = subst (λ (l : List Content). IsPrefix (sources l) storing) (sym (append-nil trees)) own;
      }

  -- what each outcome begins with, each outcome begins with from then on
  first_on : (tree : Content) (later : List Content) (old new : State) → LosesNothing form old new
      → Leaves (BeginsWith form (tree ∷ later)) old.now → LeavesOnly old new (BeginsWith form (tree ∷ later))
  first_on tree later old new loses here = record {
    since = loses.since;
    are = loses.are;
    each = λ i image inside. (loses.each zero (suc i) image (omega arith) (omega (arith, inside))).trees tree later here;
  }

  one_more : StandsForOne → (trees : List Content) (list storing bytes : List ℕ) → StandsForFront form list storing bytes → BeginsWith form trees bytes
      → StandsForMore form trees storing bytes
  one_more one_list trees list storing bytes is begins =
      let same : is.trees ≡ trees ++ begins.more = one_list form bytes is.trees (trees ++ begins.more) is.stands begins.stands in
      record {
        more = begins.more;
        stands = begins.stands;
        front = subst (λ (l : List Content). IsPrefix (sources l) storing) same is.front;
      }

  pub by_trees : StandsForOne → (trees : List Content) (place : ℕ) (list storing : List ℕ) (old new : State)
      → Holds form trees place list old → GoesOn form list storing old new → LeavesOnly old new (StandsForMore form trees storing)
  by_trees one_list [] place list storing old new holds goes =
      weaker old new (StandsForFront form list storing) (StandsForMore form [] storing)
      (λ bytes is. record { more = is.trees; stands = is.stands; front = is.front }) goes.leaves
  by_trees one_list (tree ∷ later) place list storing old new holds goes =
      let Front = StandsForFront form list storing in
      let First = BeginsWith form (tree ∷ later) in
      weaker old new (λ bytes. Front bytes × First bytes) (StandsForMore form (tree ∷ later) storing)
      (λ bytes is. one_more one_list (tree ∷ later) list storing bytes is.0 is.1)
      (both old new Front First goes.leaves (first_on tree later old new goes.loses (held_first (tree ∷ later) place list old holds)))
