-- What one call more makes of the state.
use Rattle.std.proofs.Common.{◌≡◌, ℕ, List, [], ◌∷◌, ◌++◌, length, refl, sym, ◌∙◌, ap}
use Rattle.std.specs.Prelude.{Vec}
use Rattle.std.specs.declared.alloc.Global.{Global}
use Rattle.disk_model.specs.Image.{Image, with_write, with_cut}
use Rattle.disk_model.specs.Disk.{State, empty_disk, next_state, after_write, after_cut, after_sync}
use Rattle.disk_model.specs.Crash.{after_crash}
use Rattle.disk_model.specs.Memory.{step, replay, state_after}
use Rattle.disk_model.specs.declared.memory.Call.{Call}
use Rattle.disk_model.specs.declared.memory.Call.TheVariants.{Written, TornWrite, Cut, TornCut, Synced, Crashed}

-- before the first call
pub state_after-nil : state_after [] ≡ empty_disk
unfolding state_after replay
state_after-nil = refl

replay-push : (calls : List Call) (call : Call) (disk : State) → replay (calls ++ call ∷ []) disk ≡ step call (replay calls disk)
unfolding replay
replay-push [] call disk = refl
replay-push (first ∷ calls) call disk = replay-push calls call (step first disk)

-- one call more
pub state_after-push : (calls : List Call) (call : Call) → state_after (calls ++ call ∷ []) ≡ step call (state_after calls)
unfolding state_after
state_after-push calls call = replay-push calls call empty_disk

module _ (calls later : List Call) where
  pub written : (at : ℕ) (kept : Vec ℕ Global) (bytes : List ℕ) → later ≡ calls ++ Written at kept ∷ [] → kept.items ≡ bytes → state_after later ≡ after_write at bytes (state_after calls)
  unfolding step
  written at kept bytes is same = ap state_after is ∙ state_after-push calls (Written at kept) ∙ ap (λ (l : List ℕ). after_write at l (state_after calls)) same

  pub torn_write : (at : ℕ) (kept : Vec ℕ Global) (bytes : List ℕ) → later ≡ calls ++ TornWrite at kept ∷ [] → kept.items ≡ bytes → state_after later ≡ next_state (state_after calls).read (with_write at (length bytes) (state_after calls).now) (state_after calls)
  unfolding step
  torn_write at kept bytes is same =
      ap state_after is ∙ state_after-push calls (TornWrite at kept) ∙ ap (λ (l : List ℕ). next_state (state_after calls).read (with_write at (length l) (state_after calls).now) (state_after calls)) same

  pub cut : (len : ℕ) → later ≡ calls ++ Cut len ∷ [] → state_after later ≡ after_cut len (state_after calls)
  unfolding step
  cut len is = ap state_after is ∙ state_after-push calls (Cut len)

  pub torn_cut : (len : ℕ) → later ≡ calls ++ TornCut len ∷ [] → state_after later ≡ next_state (state_after calls).read (with_cut len (state_after calls).now) (state_after calls)
  unfolding step
  torn_cut len is = ap state_after is ∙ state_after-push calls (TornCut len)

  pub synced : later ≡ calls ++ Synced ∷ [] → state_after later ≡ after_sync (state_after calls)
  unfolding step
  synced is = ap state_after is ∙ state_after-push calls Synced

  pub crashed : (kept : Vec ℕ Global) (bytes : List ℕ) → later ≡ calls ++ Crashed kept ∷ [] → kept.items ≡ bytes → state_after later ≡ after_crash bytes (state_after calls)
  unfolding step
  crashed kept bytes is same = ap state_after is ∙ state_after-push calls (Crashed kept) ∙ ap (λ (l : List ℕ). after_crash l (state_after calls)) same

-- what is kept beside the calls goes on as they do
pub reads_on : (calls later : List Call) (next : State) (new : List ℕ) → state_after later ≡ next → new ≡ next.read → new ≡ (state_after later).read
reads_on calls later next new is here = here ∙ sym (ap (λ (s : State). s.read) is)

pub leaves_on : (calls later : List Call) (next : State) (new : Image) → state_after later ≡ next → new ≡ next.now → new ≡ (state_after later).now
leaves_on calls later next new is here = here ∙ sym (ap (λ (s : State). s.now) is)
