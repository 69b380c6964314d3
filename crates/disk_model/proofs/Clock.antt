-- A call adds at most one moment, and what a crash leaves at a moment stays.
use Rattle.std.proofs.Common.{◌≡◌, ◌↔◌, inl, inr, ℕ, zero, suc, ◌<◌, List, [], ◌∷◌, ◌++◌, length, length-append, refl, sym, ap, subst, arith, Ok, Err}
use Rattle.disk_model.specs.Image.{Image, IsOutcome}
use Rattle.disk_model.specs.Disk.{State, next_state, WriteFailed, CutFailed}
use Rattle.disk_model.specs.Moments.{moments, IsLeftAt}
use Rattle.disk_model.specs.Laws.{GoesOn, TimeGoesOn, LeavesNow, LeavesBefore}

next_goes_on : (old new : State) (read : List ℕ) (now : Image) → new ≡ next_state read now old → GoesOn old new
next_goes_on old new read now is = inr (subst (λ (s : State). moments s ≡ moments old ++ s.now ∷ []) (sym is) refl)

same_goes_on : (old new : State) → new ≡ old → GoesOn old new
same_goes_on old new is = inl (ap moments is)

write_goes_on : (at count : ℕ) (old new : State) → WriteFailed at count old new → GoesOn old new
write_goes_on at count old new (inl same) = same_goes_on old new same
write_goes_on at count old new (inr torn) = next_goes_on old new _ _ torn.2

cut_goes_on : (len : ℕ) (old new : State) → CutFailed len old new → GoesOn old new
cut_goes_on len old new (inl same) = same_goes_on old new same
cut_goes_on len old new (inr short) = next_goes_on old new _ _ short.2

pub goes_on : TimeGoesOn
goes_on (Ok u) old new = (λ at bytes is. next_goes_on old new _ _ is, λ len is. next_goes_on old new _ _ is, λ is. next_goes_on old new _ _ is)
goes_on (Err e) old new = (λ at bytes failed. write_goes_on at _ old new failed, λ len failed. cut_goes_on len old new failed, λ same. same_goes_on old new same)

left_at_last : (past : List Image) (now : Image) (bytes : List ℕ) → IsLeftAt (past ++ now ∷ []) (length past) bytes ↔ IsOutcome now bytes
left_at_last [] now bytes = (λ here. here, λ here. here)
left_at_last (image ∷ past) now bytes = left_at_last past now bytes

pub left_now : LeavesNow
left_now disk bytes = left_at_last disk.past disk.now bytes

left_as_before : (images more : List Image) (m : ℕ) (bytes : List ℕ) → m < length images → IsLeftAt images m bytes ↔ IsLeftAt (images ++ more) m bytes
left_as_before [] more m bytes lt = absurd (omega (arith, lt))
left_as_before (image ∷ images) more zero bytes lt = (λ here. here, λ here. here)
left_as_before (image ∷ images) more (suc m) bytes lt = left_as_before images more m bytes (omega (arith, lt))

pub left_before : LeavesBefore
left_before old new m bytes (inl same) le = (subst (λ (images : List Image). IsLeftAt images m bytes) (sym same), subst (λ (images : List Image). IsLeftAt images m bytes) same)
left_before old new m bytes (inr more) le =
    let there = left_as_before (moments old) (new.now ∷ []) m bytes (omega (arith, le, length-append old.past (old.now ∷ []))) in
    (λ left. subst (λ (images : List Image). IsLeftAt images m bytes) (sym more) (there.0 left), λ left. there.1 (subst (λ (images : List Image). IsLeftAt images m bytes) more left))
