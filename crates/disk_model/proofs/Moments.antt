-- How what holds of each outcome at each moment goes on. These lemmas range over facts, as no clause can; so they are no laws of
-- src/laws.rt, and crates above cite them from here.
use Rattle.std.proofs.Common.{◌≡◌, inl, inr, ℕ, ◌≤◌, List, [], ◌∷◌, ◌++◌, refl, sym, ◌∙◌, ap, subst, append_assoc, arith, length, take, Result, Ok, Err, ⊎_elim, ◌⊎◌, min, ◌+◌, ◌<◌, All}
use Rattle.std.proofs.lemmas.Bool.{cases_lt}
use Rattle.std.proofs.lemmas.List.{append-nil, ext_get_or}
use Rattle.std.proofs.lemmas.List.Elements.{All-append, All-cons, All-head, All-nil, All-tail, All-weaker}
use Rattle.disk_model.specs.Image.{Image, IsOutcome, settled_image, with_write, with_cut}
use Rattle.disk_model.specs.Calls.{WritesAndSyncs, CutsAndSyncs}
use Rattle.disk_model.specs.Disk.{State, spliced_bytes, next_state, after_write, after_cut, Writes, Cuts, Syncs, Grew, last_count}
use Rattle.disk_model.specs.Moments.{moments, Leaves, LeavesOnly}
use Rattle.disk_model.specs.Laws.{WritesLeave, CutsLeave, SyncsLeave, FailuresGrow}

-- if nothing was done
pub still : (old new : State) (P : List ℕ → Type 0) → new ≡ old → LeavesOnly old new P
still old new P is = record { since = []; are = ap moments is ∙ sym (append-nil (moments old)); each = All-nil (Leaves P) }

-- one moment more
pub one_more : (old new : State) (read : List ℕ) (now : Image) (P : List ℕ → Type 0) → new ≡ next_state read now old → Leaves P now → LeavesOnly old new P
one_more old new read now P is here = record { since = now ∷ []; are = ap moments is; each = All-cons (Leaves P) now [] here (All-nil (Leaves P)) }

-- one thing after the other
pub goes_on : (old mid new : State) (P : List ℕ → Type 0) → LeavesOnly old mid P → LeavesOnly mid new P → LeavesOnly old new P
goes_on old mid new P first second = record {
  since = first.since ++ second.since;
  are = second.are ∙ ap (λ (images : List Image). images ++ second.since) first.are ∙ append_assoc (moments old) first.since second.since;
  each = All-append (Leaves P) first.since second.since first.each second.each;
}

-- from P to what follows from it
pub weaker : (old new : State) (P Q : List ℕ → Type 0) → ((bytes : List ℕ) → P bytes → Q bytes) → LeavesOnly old new P → LeavesOnly old new Q
weaker old new P Q follows m = record {
  since = m.since;
  are = m.are;
  each = All-weaker (Leaves P) (Leaves Q) (λ (image : Image) (leaves : Leaves P image). λ bytes outcome. follows bytes (leaves bytes outcome)) m.since m.each;
}

abbrev last_of : Image → List Image → Image
last_of first [] = first
last_of first (image ∷ images) = last_of image images

last_behind : (first : Image) (front : List Image) (image : Image) (images : List Image) → last_of first (front ++ image ∷ images) ≡ last_of image images
last_behind first [] image images = refl
last_behind first (x ∷ front) image images = last_behind x front image images

of_last : (P : Image → Type 0) (first : Image) (images : List Image) → P first → All P images → P (last_of first images)
of_last P first [] here each = here
of_last P first (image ∷ images) here each = of_last P image images (All-head P image images each) (All-tail P image images each)

-- what held of each outcome, and does at each moment since, holds of each outcome now
pub leaves_last : (old new : State) (P : List ℕ → Type 0) → LeavesOnly old new P → Leaves P old.now → Leaves P new.now
leaves_last old new P m here =
    let last : last_of old.now m.since ≡ new.now =
    sym (last_behind old.now old.past old.now m.since)
    ∙ ap (last_of old.now) (sym (append_assoc old.past (old.now ∷ []) m.since) ∙ sym m.are)
    ∙ last_behind old.now new.past new.now [] in
    subst (Leaves P) last (of_last (Leaves P) old.now m.since here m.each)

pub only_settled : (bytes left : List ℕ) → IsOutcome (settled_image bytes) left → left ≡ bytes
only_settled bytes left o =
    ext_get_or 0 left bytes (omega (arith, o.long.no_shorter, o.long.no_longer)) (λ i lt. o.kept i (omega (arith, lt, o.long.no_longer)) (λ w. w))

-- what holds of the bytes holds of all that a crash leaves once they are synced
pub settled_leaves : (bytes : List ℕ) (P : List ℕ → Type 0) → P bytes → Leaves P (settled_image bytes)
settled_leaves bytes P here left outcome = subst P (sym (only_settled bytes left outcome)) here

-- since a call began, whatever its result
module _ {E : Type 0} (result : Result Unit E) (old new : State) (P : List ℕ → Type 0) where
  pub write_moments : (at : ℕ) (bytes : List ℕ) → Writes at bytes result old new → Leaves P (with_write at (length bytes) old.now) → LeavesOnly old new P
  write_moments at bytes did here = of_write result did
    where
      of_write : (r : Result Unit E) → Writes at bytes r old new → LeavesOnly old new P
      of_write (Ok done) is = one_more old new _ _ P is here
      of_write (Err e) (inl same) = still old new P same
      of_write (Err e) (inr torn) = one_more old new torn.0 _ P torn.2 here

  pub cut_moments : (len : ℕ) → Cuts len result old new → Leaves P (with_cut len old.now) → LeavesOnly old new P
  cut_moments len did here = of_cut result did
    where
      of_cut : (r : Result Unit E) → Cuts len r old new → LeavesOnly old new P
      of_cut (Ok done) is = one_more old new _ _ P is here
      of_cut (Err e) (inl same) = still old new P same
      of_cut (Err e) (inr short) = one_more old new short.0 _ P short.2 here

  pub sync_moments : Syncs result old new → P old.read → LeavesOnly old new P
  sync_moments did here = of_sync result did
    where
      of_sync : (r : Result Unit E) → Syncs r old new → LeavesOnly old new P
      of_sync (Ok done) is = one_more old new _ _ P is (settled_leaves old.read P here)
      of_sync (Err e) same = still old new P same

  pub write_and_sync_moments : (at : ℕ) (bytes : List ℕ) → WritesAndSyncs at bytes result old new → Leaves P (with_write at (length bytes) old.now) → P (spliced_bytes at bytes old.read) → LeavesOnly old new P
  write_and_sync_moments at bytes did here there = of_both result did
    where
      of_both : (r : Result Unit E) → WritesAndSyncs at bytes r old new → LeavesOnly old new P
      of_both (Ok done) is = goes_on old (after_write at bytes old) new P (one_more old (after_write at bytes old) _ _ P refl here)
          (one_more (after_write at bytes old) new _ _ P is (settled_leaves (spliced_bytes at bytes old.read) P there))
      of_both (Err e) (inl (inl same)) = still old new P same
      of_both (Err e) (inl (inr torn)) = one_more old new torn.0 _ P torn.2 here
      of_both (Err e) (inr is) = one_more old new _ _ P is here

  pub cut_and_sync_moments : (len : ℕ) → CutsAndSyncs len result old new → Leaves P (with_cut len old.now) → P (take len old.read) → LeavesOnly old new P
  cut_and_sync_moments len did here there = of_both result did
    where
      of_both : (r : Result Unit E) → CutsAndSyncs len r old new → LeavesOnly old new P
      of_both (Ok done) is = goes_on old (after_cut len old) new P (one_more old (after_cut len old) _ _ P refl here)
          (one_more (after_cut len old) new _ _ P is (settled_leaves (take len old.read) P there))
      of_both (Err e) (inl (inl same)) = still old new P same
      of_both (Err e) (inl (inr short)) = one_more old new short.0 _ P short.2 here
      of_both (Err e) (inr is) = one_more old new _ _ P is here

pub writes_leave : WritesLeave
writes_leave (Ok done) at bytes old new is = one_more old new _ _ (IsOutcome (with_write at (length bytes) old.now)) is (λ left o. o)
writes_leave (Err e) at bytes old new (inl same) = still old new (IsOutcome (with_write at (length bytes) old.now)) same
writes_leave (Err e) at bytes old new (inr torn) = one_more old new torn.0 _ (IsOutcome (with_write at (length bytes) old.now)) torn.2 (λ left o. o)

pub cuts_leave : CutsLeave
cuts_leave (Ok done) len old new is = one_more old new _ _ (IsOutcome (with_cut len old.now)) is (λ left o. o)
cuts_leave (Err e) len old new (inl same) = still old new (IsOutcome (with_cut len old.now)) same
cuts_leave (Err e) len old new (inr short) = one_more old new short.0 _ (IsOutcome (with_cut len old.now)) short.2 (λ left o. o)

pub syncs_leave : SyncsLeave
syncs_leave (Ok done) old new is = one_more old new _ _ (λ left. left ≡ old.read) is (only_settled old.read)
syncs_leave (Err e) old new same = still old new (λ left. left ≡ old.read) same

grows : (last before old new after : ℕ) → before ≤ old → new ≡ min (old + 1) last → new ≤ after → (before < after) ⊎ (last ≤ before)
grows last before old new after first counted later =
    ⊎_elim (λ (below : before < last). inl (omega (arith, below, first, counted, later))) (λ (end : last ≤ before). inr end) (cases_lt before last)

pub failures_grow : FailuresGrow
failures_grow fault before old new after first counted later = grows last_count before old new after first counted later

-- a call that failed was counted
pub grew : (old new : ℕ) → new ≡ min (old + 1) last_count → Grew old new
grew old new is = grows last_count old old new new (omega arith) is (omega arith)
