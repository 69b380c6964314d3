use Rattle.std.proofs.Common.{◌≡◌, ◌∙◌, sym, ap, refl, arith, ℕ, ◌+◌, ◌-◌, ◌^◌, ◌<◌, ◌≤◌, List, [], ◌∷◌, ◌++◌, length, take, min, length-append}
use Rattle.gtfs_rows.specs.declared.fault.FeedFault.{FeedFault}
use Rattle.file_faults.specs.Lists.{HasFaults}
use Rattle.file_faults.proofs.ListFacts.{no-room, room-left, saturates, take-full, take-room}
use Rattle.file_faults.proofs.list.FaultList.keep.Goals as goal

pub returns-then-len-lt-FAULT_LIMIT : goal.returns-then-len-lt-FAULT_LIMIT
returns-then-len-lt-FAULT_LIMIT c =
    let f = c.args.fault in
    record {
      unread = refl;
      joins = λ (faults : List FeedFault) (has : HasFaults c.args.self.now faults).
          let e : length c.args.self.now.faults.items ≡ length (take 1_000 faults) = ap (length {A = FeedFault}) has.first in
          let room : length (take 1_000 faults) < 1_000 = omega (arith, e, c.len.ensures, c.if-len-lt-FAULT_LIMIT.true) in
          let short : length faults < 1_000 = room-left 1_000 faults room in
          let a : length faults - 1_000 ≡ length (faults ++ f ∷ []) - 1_000 = omega (arith, length-append faults (f ∷ [])) in
          record {
            first = c.in_ok-push.ensures.items ∙ ap (λ (xs : List FeedFault). xs ++ f ∷ []) has.first ∙ sym (take-room 1_000 faults f room);
            more = has.more ∙ ap (λ (n : ℕ). min n (2 ^ 64 - 1)) a;
          };
    }

pub returns : goal.returns
returns c =
    let f = c.args.fault in
    record {
      unread = refl;
      joins = λ (faults : List FeedFault) (has : HasFaults c.args.self.now faults).
          let e : length c.args.self.now.faults.items ≡ length (take 1_000 faults) = ap (length {A = FeedFault}) has.first in
          let full : 1_000 ≤ length (take 1_000 faults) = omega (arith, e, c.len.ensures, c.if-len-lt-FAULT_LIMIT.false) in
          let long : 1_000 ≤ length faults = no-room 1_000 faults full in
          let a : (length faults - 1_000) + 1 ≡ length (faults ++ f ∷ []) - 1_000 = omega (arith, length-append faults (f ∷ [])) in
          record {
            first = has.first ∙ sym (take-full 1_000 faults f full);
            more = c.saturating_add-self.ensures ∙ ap (λ (n : ℕ). min (n + 1) (2 ^ 64 - 1)) has.more ∙ saturates (length faults - 1_000) (2 ^ 64 - 1) ∙ ap (λ (n : ℕ). min n (2 ^ 64 - 1)) a;
          };
    }
