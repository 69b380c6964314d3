-- What reads give stays among what a crash may leave, whatever the calls.
use Rattle.std.proofs.Common.{◌≡◌, ◌⊎◌, inl, inr, ⊎_elim, ℕ, ◌+◌, ◌-◌, ◌<◌, ◌≤◌, min, List, [], ◌∷◌, ◌++◌, length, take, drop, get_or, refl, sym, ◌∙◌, ap, arith, length-take, length-drop, length-append}
use Rattle.std.proofs.lemmas.Bool.{cases_lt}
use Rattle.std.proofs.lemmas.List.{get_or-take, get_or-drop, get_or_append_left, get_or-append_right}
use Rattle.disk_model.specs.Image.{Image, IsOutcome, IsWritten, settled_image, with_write, with_cut}
use Rattle.disk_model.specs.Disk.{State, empty_disk, spliced_bytes, IsTorn, IsShortened}
use Rattle.disk_model.specs.Memory.{step, replay, state_after}
use Rattle.disk_model.specs.declared.memory.Call.{Call}
use Rattle.disk_model.specs.declared.memory.Call.TheVariants.{Written, TornWrite, Cut, TornCut, Synced, Crashed}

-- a range more
pub written_before : (place : ℕ) (ranges : List (ℕ × ℕ)) (range : ℕ × ℕ) → IsWritten place ranges → IsWritten place (ranges ++ range ∷ [])
written_before place [] range w = elim w [ ]
written_before place (first ∷ ranges) range (inl here) = inl here
written_before place (first ∷ ranges) range (inr there) = inr (written_before place ranges range there)

pub written_last : (place : ℕ) (ranges : List (ℕ × ℕ)) (range : ℕ × ℕ) → range.0 ≤ place → place < range.0 + range.1 → IsWritten place (ranges ++ range ∷ [])
written_last place [] range from below = inl (from, below)
written_last place (first ∷ ranges) range from below = inr (written_last place ranges range from below)

length-spliced_bytes : (at : ℕ) (bytes old : List ℕ) → length (spliced_bytes at bytes old) ≡ min at (length old) + length bytes + (length old - (at + length bytes))
length-spliced_bytes at bytes old =
    omega (arith, length-append (take at old) (bytes ++ drop (at + length bytes) old), length-append bytes (drop (at + length bytes) old), length-take at old, length-drop (at + length bytes) old)

spliced_before : (at : ℕ) (bytes old : List ℕ) (i : ℕ) → i < length old → i < at → get_or (spliced_bytes at bytes old) i 0 ≡ get_or old i 0
spliced_before at bytes old i inside lt =
    get_or_append_left (take at old) (bytes ++ drop (at + length bytes) old) 0 i (omega (arith, length-take at old)) ∙ get_or-take at old i 0 lt

spliced_behind : (at : ℕ) (bytes old : List ℕ) (i : ℕ) → i < length old → at + length bytes ≤ i → get_or (spliced_bytes at bytes old) i 0 ≡ get_or old i 0
spliced_behind at bytes old i inside le =
    get_or-append_right (take at old) (bytes ++ drop (at + length bytes) old) at i 0 (omega (arith, length-take at old)) (omega (arith, le))
    ∙ get_or-append_right bytes (drop (at + length bytes) old) (length bytes) (i - at) 0 refl (omega (arith, le))
    ∙ get_or-drop (at + length bytes) old (i - at - length bytes) 0
    ∙ ap (λ (j : ℕ). get_or old j 0) (omega (arith, le))

pub settled_sound : (bytes : List ℕ) → IsOutcome (settled_image bytes) bytes
settled_sound bytes = record { long = record { no_shorter = omega arith; no_longer = omega arith }; kept = λ place lt free. refl }

module _ (now : Image) (read : List ℕ) (was : IsOutcome now read) where
  torn_sound : (at count : ℕ) → IsOutcome (with_write at count now) read
  torn_sound at count = record {
    long = record { no_shorter = was.long.no_shorter; no_longer = omega (arith, was.long.no_longer) };
    kept = λ place lt free. was.kept place lt (λ w. free (written_before place now.ranges (at, count) w));
  }

  written_sound : (at : ℕ) (bytes : List ℕ) → IsOutcome (with_write at (length bytes) now) (spliced_bytes at bytes read)
  written_sound at bytes = record {
    long = record {
      no_shorter = omega (arith, was.long.no_shorter, length-spliced_bytes at bytes read);
      no_longer = omega (arith, was.long.no_longer, length-spliced_bytes at bytes read);
    };
    kept = λ place lt free. (
        ⊎_elim
        (λ before. spliced_before at bytes read place (omega (arith, lt, was.long.no_shorter)) before)
        (λ from. ⊎_elim
        (λ inside. absurd (free (written_last place now.ranges (at, length bytes) from inside)))
        (λ past. spliced_behind at bytes read place (omega (arith, lt, was.long.no_shorter)) past)
        (cases_lt place (at + length bytes)))
        (cases_lt place at)
        ) ∙ was.kept place lt (λ w. free (written_before place now.ranges (at, length bytes) w));
  }

  torn_cut_sound : (len : ℕ) → IsOutcome (with_cut len now) read
  torn_cut_sound len = record {
    long = record { no_shorter = omega (arith, was.long.no_shorter); no_longer = was.long.no_longer };
    kept = λ place lt free. was.kept place (omega (arith, lt)) free;
  }

  cut_sound : (len : ℕ) → IsOutcome (with_cut len now) (take len read)
  cut_sound len = record {
    long = record {
      no_shorter = omega (arith, was.long.no_shorter, length-take len read);
      no_longer = omega (arith, was.long.no_longer, length-take len read);
    };
    kept = λ place lt free. get_or-take len read place 0 (omega (arith, lt)) ∙ was.kept place (omega (arith, lt)) free;
  }

pub outcome_before_a_write : (now : Image) (at count : ℕ) (bytes : List ℕ) → IsOutcome now bytes → IsOutcome (with_write at count now) bytes
outcome_before_a_write now at count bytes was = torn_sound now bytes was at count

pub outcome_before_a_cut : (now : Image) (len : ℕ) (bytes : List ℕ) → IsOutcome now bytes → IsOutcome (with_cut len now) bytes
outcome_before_a_cut now len bytes was = torn_cut_sound now bytes was len

torn_place : (at count : ℕ) (old new : List ℕ) (place : ℕ) → IsTorn at count old new → (place < at) ⊎ (at + count ≤ place) → get_or new place 0 ≡ get_or old place 0
torn_place at count old new place torn (inl before) =
    sym (get_or-take at new place 0 before) ∙ ap (λ (l : List ℕ). get_or l place 0) torn.before ∙ get_or-take at old place 0 before
torn_place at count old new place torn (inr past) =
    let here : place ≡ at + count + (place - (at + count)) = omega (arith, past) in
    ap (λ (k : ℕ). get_or new k 0) here
    ∙ sym (get_or-drop (at + count) new (place - (at + count)) 0)
    ∙ ap (λ (l : List ℕ). get_or l (place - (at + count)) 0) torn.behind
    ∙ get_or-drop (at + count) old (place - (at + count)) 0
    ∙ ap (λ (k : ℕ). get_or old k 0) (sym here)

pub torn_reads : (now : Image) (at count : ℕ) (old new : List ℕ) → IsOutcome now old → IsTorn at count old new → IsOutcome (with_write at count now) new
torn_reads now at count old new was torn = record {
  long = record {
    no_shorter = omega (arith, was.long.no_shorter, torn.no_shorter);
    no_longer = omega (arith, was.long.no_longer, torn.no_longer);
  };
  kept = λ place lt free. (
      ⊎_elim
      (λ before. torn_place at count old new place torn (inl before))
      (λ from. ⊎_elim
      (λ inside. absurd (free (written_last place now.ranges (at, count) from inside)))
      (λ past. torn_place at count old new place torn (inr past))
      (cases_lt place (at + count)))
      (cases_lt place at)
      ) ∙ was.kept place lt (λ w. free (written_before place now.ranges (at, count) w));
}

pub shortened_reads : (now : Image) (len : ℕ) (old new : List ℕ) → IsOutcome now old → IsShortened len old new → IsOutcome (with_cut len now) new
shortened_reads now len old new was short = record {
  long = record {
    no_shorter = omega (arith, was.long.no_shorter, short.no_shorter);
    no_longer = omega (arith, was.long.no_longer, ap length short.front, length-take (length new) old);
  };
  kept = λ place lt free.
      ap (λ (l : List ℕ). get_or l place 0) (sym short.front)
      ∙ get_or-take (length new) old place 0 (omega (arith, lt, was.long.no_shorter, short.no_shorter))
      ∙ was.kept place (omega (arith, lt)) free;
}

step_sound : (call : Call) (disk : State) → IsOutcome disk.now disk.read → IsOutcome (step call disk).now (step call disk).read
unfolding step
step_sound (Written at bytes) disk was = written_sound disk.now disk.read was at bytes.items
step_sound (TornWrite at bytes) disk was = torn_sound disk.now disk.read was at (length bytes.items)
step_sound (Cut len) disk was = cut_sound disk.now disk.read was len
step_sound (TornCut len) disk was = torn_cut_sound disk.now disk.read was len
step_sound Synced disk was = settled_sound disk.read
step_sound (Crashed bytes) disk was = settled_sound bytes.items

replay_sound : (calls : List Call) (disk : State) → IsOutcome disk.now disk.read → IsOutcome (replay calls disk).now (replay calls disk).read
unfolding replay
replay_sound [] disk was = was
replay_sound (call ∷ calls) disk was = replay_sound calls (step call disk) (step_sound call disk was)

-- after any calls
pub state_after_sound : (calls : List Call) → IsOutcome (state_after calls).now (state_after calls).read
unfolding state_after
state_after_sound calls = replay_sound calls empty_disk (settled_sound [])
