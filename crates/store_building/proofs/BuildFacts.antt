-- What a build leaves of a store.
use Rattle.std.proofs.Common.{◌≡◌, ◌≤◌, ◌⊎◌, ◌↔◌, ◌++◌, ℕ, List, [], length, append-nil, arith, refl, sym, ◌∙◌, ap, subst, inl, inr, Result, Ok, Err, OnOk, IfOk, IfErr, MatchResult}
use Rattle.std.proofs.lemmas.List.{append_assoc, length-append}
use Rattle.std.proofs.lemmas.List.Elements.{All-nil}
use Rattle.stop_parts.specs.Parts.{IsOf, Share}
use Rattle.disk_model.specs.Disk.{State}
use Rattle.timetable.specs.Table.{stops_of}
use Rattle.pattern_tree.specs.Content.{Content}
use mathlib.Core.List.{IsPrefix}
use Rattle.section_store.specs.Going.{GoesOn, HoldsAll, IsKept}
use Rattle.section_store.specs.GoingLaws.{KeptIsHeld, NothingGoesOn, TrustInTurn}
use Rattle.section_store.specs.Laws.{LosesNothingInTurn}
use Rattle.section_store.specs.Sections.{Form, Stands}
use Rattle.section_store.specs.Store.{Holds}
use Rattle.flusher.specs.declared.end.FlushEnd.{FlushEnd}
use Rattle.flusher.specs.declared.end.FlushEnd.TheVariants.{Drained, DeviceFailed}
use Rattle.recovery.specs.Laws.{OpeningGoesOn}
use Rattle.recovery.specs.Opening.{IsOpening, StandsForSources}
use Rattle.tree_crew.specs.Flushed.{Flushed}
use Rattle.precomputing.specs.Outcome.{IsPrecomputed}
use Rattle.precomputing.specs.declared.outcome.Outcome.{Outcome}
use Rattle.precomputing.specs.declared.outcome.Outcome.TheVariants as outcomes
use Rattle.planner.specs.Desk.{DeskView, IsSound}
use Rattle.faults.specs.declared.fault.Fault.{Fault}
use Rattle.faults.specs.declared.fault.Fault.TheVariants as faults
use Rattle.answer_lines.specs.declared.report.Built.{Built}
use Rattle.answer_lines.specs.declared.report.Report.{Report}
use Rattle.feed_basis.specs.Basis.{BasisData}
use Rattle.store_building.specs.Builds.{AddsOf, CountsLeft, IsBuilding, IsBuilt, IsEndOf, IsReportOf, IsStopped, IsWhole}
use Rattle.store_terms.specs.Counts.{CountsStored, ReportsBuilt}
use Rattle.store_terms.specs.Stores.{OnlyFailing, form_over}
use Rattle.store_terms.proofs.OpeningFacts.{memory_fails}

-- a file that holds trees at rest stands for them
holds_stands : (form : Form) (trees : List Content) (place : ℕ) (list : List ℕ) (disk : State) → Holds form trees place list disk → Stands form disk.read trees
holds_stands form trees place list disk h = inr (record {
  fits = h.rest.begins.fits;
  texts = h.rest.begins.texts;
  gate = h.rest.gate;
  free = h.rest.free;
  are = h.rest.begins.are;
  closed = h.rest.closed;
  of = h.rest.begins.of;
  apart = h.rest.begins.apart;
})

pub kept_stands : (form : Form) (place : ℕ) (list : List ℕ) (disk : State) → IsKept form place list disk → StandsForSources form list disk.read
kept_stands form place list disk h = (h.0, holds_stands form h.0 place list disk h.1, h.1.stored_are)

-- the laws that a build goes on by
pub record Laws : Type 0 where
  pub life : OpeningGoesOn
  pub held : KeptIsHeld
  pub nothing : NothingGoesOn
  pub trust : TrustInTurn
  pub loses : LosesNothingInTurn

-- a store that is opened, and goes on from there
is_building : Laws → (part : Share) (form : Form) (old mid new : State) (place : ℕ) (before list begun : List ℕ)
    → IsOpening form old mid → StandsForSources form before old.read → IsKept form place before mid
    → IsPrefix before list → AddsOf part before (list ++ begun) → length begun ≤ 1 → GoesOn form before (list ++ begun) mid new → HoldsAll form list new
    → IsBuilding part form old new before list (list ++ begun)
is_building laws part form old mid new place before list begun opening stood kept adds own few goes held = record {
  stood = stood;
  life = laws.life form old mid new place before (list ++ begun) opening stood kept
      (adds.0 ++ begun, sym (append_assoc before adds.0 begun) ∙ ap (λ (l : List ℕ). l ++ begun) adds.1) goes;
  loses = laws.loses form old mid new opening.loses goes.loses;
  trusts = laws.trust form old mid new opening.trusts goes.trusts;
  adds = adds;
  done = (begun, refl);
  own = own;
  few = (let e = length-append list begun in omega (arith, e, few));
  held = held;
}

-- the first desk is of that form and sound, and was opened over the old state
pub record Opens {D : Type 0} (honest : D → Type 0) (state : D → State) (form : Form) (old : State) (first : DeskView D) : Type 0 where
  pub same : first.form ≡ form
  pub opening : IsOpening form old (state first.disk)
  pub stood : StandsForSources form first.stored old.read
  pub sound : IsSound honest state first

-- what is said of a build that was opened at the first desk, and stopped at the last
abbrev pub Stopped : {D : Type 0} → Share → (D → State) → Form → State → DeskView D → DeskView D → List ℕ → Type 0
Stopped part state form old first last begun = IsBuilding part form old (state last.disk) first.stored last.stored (last.stored ++ begun)

module _ {D : Type 0} (part : Share) (honest : D → Type 0) (state : D → State) (failures : D → ℕ) (laws : Laws) (form : Form) (old : State)
    (first last : DeskView D) where
  flushed : (end : FlushEnd) → Opens honest state form old first → (f : Flushed part honest state failures end first last) → Stopped part state form old first last f.begun
  flushed end o f =
      is_building laws part form old (state first.disk) (state last.disk) first.place first.stored last.stored f.begun o.opening o.stood
      (subst (λ (x : Form). IsKept x first.place first.stored (state first.disk)) o.same o.sound.kept)
      (f.added, sym f.stored)
      (record {
        more = f.added ++ f.begun;
        is = ap (λ (l : List ℕ). l ++ f.begun) f.stored ∙ append_assoc first.stored f.added f.begun;
        own = f.own;
      })
      f.few
      (subst (λ (x : Form). GoesOn x first.stored (last.stored ++ f.begun) (state first.disk) (state last.disk)) o.same (f.goes o.sound))
      (subst (λ (x : Form). HoldsAll x last.stored (state last.disk)) o.same (f.held o.sound))

  untouched : Opens honest state form old first → last ≡ first → Stopped part state form old first last []
  untouched o is =
      is_building laws part form old (state first.disk) (state last.disk) first.place first.stored last.stored [] o.opening o.stood
      (subst (λ (x : Form). IsKept x first.place first.stored (state first.disk)) o.same o.sound.kept)
      ([], append-nil first.stored ∙ sym (ap (λ (d : DeskView D). d.stored) is))
      (record { more = []; is = ap (λ (d : DeskView D). d.stored ++ []) is; own = All-nil (IsOf part) })
      (omega arith)
      (laws.nothing form first.stored (last.stored ++ []) (state first.disk) (state last.disk) (ap (λ (d : DeskView D). state d.disk) is))
      (subst (λ (d : DeskView D). HoldsAll form d.stored (state d.disk)) (sym is)
      (laws.held form first.place first.stored (state first.disk)
      (subst (λ (x : Form). IsKept x first.place first.stored (state first.disk)) o.same o.sound.kept)))

  -- however a build comes to its end
  pub stopped : (outcome : Outcome) → Opens honest state form old first → IsPrecomputed part honest state failures first last outcome → (begun : List ℕ) × Stopped part state form old first last begun
  stopped outcomes.Done o p = (p.0.begun, flushed Drained o p.0)
  stopped (outcomes.Partial missing) o p = (p.0.begun, flushed Drained o p.0)
  stopped outcomes.DeviceFailed o p = (p.begun, flushed DeviceFailed o p)
  stopped outcomes.NoMemory o p = ([], untouched o p)

  drained : Opens honest state form old first → (f : Flushed part honest state failures Drained first last)
      → IsBuilding part form old (state last.disk) first.stored last.stored last.stored × StandsForSources form last.stored (state last.disk).read
  drained o f = (
    subst (λ storing. IsBuilding part form old (state last.disk) first.stored last.stored storing) (append-nil last.stored)
        (subst (Stopped part state form old first last) (f.none refl) (flushed Drained o f)),
    subst (λ (x : Form). StandsForSources x last.stored (state last.disk).read) (f.form ∙ o.same)
        (kept_stands last.form last.place last.stored (state last.disk) (f.sound o.sound refl).kept),
  )

  -- a build that came to its end has begun nothing that isn't acknowledged, and the file stands for its list
  pub whole : (outcome : Outcome) → IsWhole outcome → Opens honest state form old first → IsPrecomputed part honest state failures first last outcome
      → IsBuilding part form old (state last.disk) first.stored last.stored last.stored × StandsForSources form last.stored (state last.disk).read
  whole outcomes.Done is o p = drained o p.0
  whole (outcomes.Partial missing) is o p = drained o p.0
  whole outcomes.DeviceFailed is o p = absurd is
  whole outcomes.NoMemory is o p = absurd is

module _ {D : Type 0} (part : Share) (honest : D → Type 0) (state : D → State) (failures : D → ℕ) (first last : DeskView D) where
  pub stays_honest : (outcome : Outcome) → IsPrecomputed part honest state failures first last outcome → honest first.disk ↔ honest last.disk
  stays_honest outcomes.Done p = p.0.still_honest
  stays_honest (outcomes.Partial missing) p = p.0.still_honest
  stays_honest outcomes.DeviceFailed p = p.still_honest
  stays_honest outcomes.NoMemory p = subst (λ (d : DeskView D). honest first.disk ↔ honest d.disk) (sym p) (λ h. h, λ h. h)

  same_form : (outcome : Outcome) → IsPrecomputed part honest state failures first last outcome → last.form ≡ first.form
  same_form outcomes.Done p = p.0.form
  same_form (outcomes.Partial missing) p = p.0.form
  same_form outcomes.DeviceFailed p = p.form
  same_form outcomes.NoMemory p = ap (λ (d : DeskView D). d.form) p

  left : (outcome : Outcome) → IsPrecomputed part honest state failures first last outcome
      → CountsLeft part (stops_of last.form.table) last.stored outcome
  left outcomes.Done p = p.1
  left (outcomes.Partial missing) p = p.1.0
  left outcomes.DeviceFailed p = tt
  left outcomes.NoMemory p = tt

  -- what is left is reported of the stops of that form
  pub left_of : (form : Form) (outcome : Outcome) → first.form ≡ form → IsPrecomputed part honest state failures first last outcome
      → CountsLeft part (stops_of form.table) last.stored outcome
  left_of form outcome same p =
      subst (λ (x : Form). CountsLeft part (stops_of x.table) last.stored outcome) (same_form outcome p ∙ same) (left outcome p)

  -- want of memory reports no failed call
  of_memory : (fault : Fault) → fault ≡ faults.Memory → OnlyFailing (failures first.disk) (failures last.disk) fault
  of_memory fault is =
      subst (OnlyFailing (failures first.disk) (failures last.disk)) (sym is) (memory_fails (failures first.disk) (failures last.disk))

  -- a build without a report says that a call failed only if one did
  pub end_fails : (outcome : Outcome) (fault : Fault) → IsEndOf outcome fault → IsPrecomputed part honest state failures first last outcome
      → OnlyFailing (failures first.disk) (failures last.disk) fault
  end_fails outcomes.Done fault is p = of_memory fault is
  end_fails (outcomes.Partial missing) fault is p = of_memory fault is
  end_fails outcomes.DeviceFailed fault is p = λ says. p.failed refl
  end_fails outcomes.NoMemory fault is p = of_memory fault is

pub why_ended : (outcome : Outcome) (fault : Fault) → IsEndOf outcome fault → (fault ≡ faults.Memory) ⊎ (fault ≡ faults.PutFailed)
why_ended outcomes.Done fault is = inl is
why_ended (outcomes.Partial missing) fault is = inl is
why_ended outcomes.DeviceFailed fault is = inr is
why_ended outcomes.NoMemory fault is = inl is

-- both answers of a report, each from its own clause
pub matched : {T E : Type 0} (r : Result T E) (W : Type 0) (C P : T → Type 0) (F Q : E → Type 0)
    → OnOk r W → IfOk r C → IfErr r F → (W → (x : T) → C x → P x) → ((e : E) → F e → Q e) → MatchResult r P Q
matched (Ok x) W C P F Q whole counts ended ok err = ok whole x counts
matched (Err e) W C P F Q whole counts ended ok err = err e ended

-- a refusal said in a weaker way
pub weaker : {T E : Type 0} (r : Result T E) (P : T → Type 0) (Q Q' : E → Type 0) → ((e : E) → Q e → Q' e) → MatchResult r P Q → MatchResult r P Q'
weaker (Ok x) P Q Q' err h = h
weaker (Err e) P Q Q' err h = err e h

-- what is so of a build is so of its report
pub reported : (built : Result Built Fault) (report : Result Report Fault) (P : Built → Type 0) (Q : Fault → Type 0) → IsReportOf built report
    → MatchResult built P Q → MatchResult report (ReportsBuilt P) Q
reported (Ok built) report P Q is h = subst (λ (r : Result Report Fault). MatchResult r (ReportsBuilt P) Q) (sym is) (built, refl, h)
reported (Err fault) report P Q is h = subst (λ (r : Result Report Fault). MatchResult r (ReportsBuilt P) Q) (sym is) h

pub refused : (built : Result Built Fault) (report : Result Report Fault) (Q : Fault → Type 0) → IsReportOf built report
    → IfErr built Q → IfErr report Q
refused (Ok built) report Q is h = subst (λ (r : Result Report Fault). IfErr r Q) (sym is) tt
refused (Err fault) report Q is h = subst (λ (r : Result Report Fault). IfErr r Q) (sym is) h

-- what a report says of the build, which came to its end or was stopped
pub came : {D : Type 0} (part : Share) (honest : D → Type 0) (state : D → State) (failures : D → ℕ) (laws : Laws) (basis : BasisData) (k : ℕ) (old : State)
    (first last : DeskView D) (outcome : Outcome) (report : Result Built Fault) → Opens honest state (form_over basis k) old first
    → IsPrecomputed part honest state failures first last outcome → OnOk report (IsWhole outcome) → IfOk report (CountsStored basis part last.stored)
    → IfErr report (IsEndOf outcome) → MatchResult report (IsBuilt basis part k old (state last.disk)) (IsStopped basis part k old (state last.disk))
came part honest state failures laws basis k old first last outcome report opens p is_whole counts ended =
    let form = form_over basis k in
    let went = stopped part honest state failures laws form old first last outcome opens p in
    matched report (IsWhole outcome) (CountsStored basis part last.stored) (IsBuilt basis part k old (state last.disk)) (IsEndOf outcome)
    (IsStopped basis part k old (state last.disk)) is_whole counts ended
    (λ is report told.
    let w = whole part honest state failures laws form old first last outcome is opens p in
    record { before = first.stored; list = last.stored; building = w.0; stands = w.1; told = told })
    (λ fault is. record {
      before = first.stored;
      acknowledged = last.stored;
      storing = last.stored ++ went.0;
      building = went.1;
      why = why_ended outcome fault is;
    })
