-- What is left of the disk of a file whose questions were replied to.
use Rattle.std.proofs.Common.{◌↔◌, ℕ, Bool, List, Some, Result, IfErr, MatchResult, refl, subst}
use Rattle.std.specs.Io.KnownBytes.{Keeps}
use Rattle.feed_basis.specs.Basis.{BasisData}
use Rattle.printing.specs.Finished.{StreamsData}
use Rattle.printing.specs.Tellings.{Telling}
use Rattle.printing.specs.declared.fault.Voice.{Voice}
use Rattle.faults.specs.declared.fault.Fault.{Fault}
use Rattle.store_building.specs.Replies.{IsServing}
use Rattle.store_terms.specs.Stores.{IsUnopened, OnlyFailing, form_over}
use Rattle.store_building.specs.declared.served.Served.{Served}
use Rattle.streams.specs.Streams.{StreamData}
use Rattle.store_files.specs.Files.{IsNoticed, IsReady}
use Rattle.store_commands.specs.Served.{Dialogue, IsServedOver, IsServingSaid}
use Rattle.store_files.specs.Disks.{DiskView}

-- what is done to a disk that is ready is done to the disk that was opened: between the two it was only looked at
pub served_over : {D : Type 0} (v : DiskView D) (t : Telling) (basis : BasisData) (k : ℕ) (path : List ℕ) (voice : Voice) (dialogue : Dialogue) (seen last : D)
    (is_new : Bool) (old new : StreamsData) (status : ℕ) (noticed_err : StreamData) (served : Result Served Fault)
    → IsReady v (form_over basis k) path seen is_new → v.honest seen ↔ v.honest last → IsNoticed path is_new old.err noticed_err
    → (v.honest seen → MatchResult served
    (IsServing basis k dialogue.tells dialogue.wanted (v.state seen) (v.state last) dialogue.input old.out.contents new.out.contents)
    (IsUnopened (form_over basis k) (v.state seen) (v.state last)))
    → IfErr served (λ _. Keeps old.out.contents new.out.contents)
    → MatchResult served (λ s. IfErr s.built (OnlyFailing (v.failures seen) (v.failures last))) (OnlyFailing (v.failures seen) (v.failures last))
    → IsServingSaid t voice served new.out.has_refused noticed_err new.err status
    → IsServedOver v t basis k path voice dialogue old new status (Some last)
served_over v t basis k path voice dialogue seen last is_new old new status noticed_err served ready honest noticed right kept device said = record {
  first = ready.first;
  last = last;
  is_new = is_new;
  opened = ready.opened;
  may = ready.may;
  given_back = refl;
  honest = (λ h. honest.0 (ready.honest.0 h), λ h. ready.honest.1 (honest.1 h));
  noticed_err = noticed_err;
  noticed = noticed;
  served = served;
  right = λ h. subst (λ s. MatchResult served
      (IsServing basis k dialogue.tells dialogue.wanted s (v.state last) dialogue.input old.out.contents new.out.contents)
      (IsUnopened (form_over basis k) s (v.state last))) (ready.same h) (right (ready.honest.0 h));
  kept = kept;
  device = subst (λ (n : ℕ). MatchResult served (λ s. IfErr s.built (OnlyFailing n (v.failures last))) (OnlyFailing n (v.failures last)))
      ready.counted device;
  said = said;
}
