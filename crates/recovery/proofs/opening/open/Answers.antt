use Rattle.std.proofs.Common.{rules, inl, inr, ◌≡◌, List, ℕ, drop, refl, sym, subst}
use Rattle.std.specs.Arc.{arc_value}
use Rattle.disk_model.specs.Disk.{after_sync}
use Rattle.pattern_tree.specs.Content.{Content}
use Rattle.section_store.specs.Sections.{Form, Stands, form_of, IsFresh}
use Rattle.section_store.specs.Store.{Holds}
use Rattle.recovery.specs.Reading.{IsRead, IsSoFar, IsShut, IsRefusal}
use Rattle.recovery.proofs.Excerpts.{read_knows, read_nothing}
use Rattle.recovery.proofs.Openings.{rest_of, shut_stands}
use Rattle.recovery.proofs.Recovering.{looked_opening, begun_opening, fresh_rest}
use Rattle.recovery.proofs.Refusals.{outside_cause, refused_cause, refused_none}
use Rattle.recovery.proofs.opening.open.Goals as goal

-- if the look refused
pub returns-in-Err-clause-refused : goal.returns-in-Err-clause-refused
returns-in-Err-clause-refused g c = λ honest.
    let form = form_of (arc_value c.args.table.now) c.args.rides in
    let same : c.new-form.result ≡ form = search rules in
    let read = (g.D.Disk.state c.args.disk).read in
    refused_none form read c.in-Err.fault (subst (λ (f : Form). IsRefusal f read c.in-Err.fault) same (c.in-Err.ensures.refused honest))

pub returns-in-Err-clause-cause : goal.returns-in-Err-clause-cause
returns-in-Err-clause-cause g c = λ honest.
    let form = form_of (arc_value c.args.table.now) c.args.rides in
    let same : c.new-form.result ≡ form = search rules in
    let read = (g.D.Disk.state c.args.disk).read in
    refused_cause form read c.in-Err.fault (subst (λ (f : Form). IsRefusal f read c.in-Err.fault) same (c.in-Err.ensures.refused honest))

-- if the file is fresh
pub begin-requires : goal.begin-requires
begin-requires g c = λ after.
    let honest = c.look.ensures.honest.1 after in
    let fresh : IsFresh (g.D.Disk.state c.args.disk).read = rw c.in-None.is at (c.in-Ok-look.ensures.fresh honest) in
    fresh_rest (g.D.Disk.state c.args.disk) (g.D.Disk.state c.look.new.disk) (c.in-Ok-look.ensures.synced honest) fresh

pub returns-in-Ok-begin-clause-read : goal.returns-in-Ok-begin-clause-read
returns-in-Ok-begin-clause-read g c =
    let form = form_of (arc_value c.args.table.now) c.args.rides in
    let store = c.in-Ok-begin.store in
    let read = (g.D.Disk.state c.args.disk).read in
    let Known = λ (l : List Content). g.D.Disk.honest c.args.disk → Stands form read l × Holds form l store.place store.stored (g.D.Disk.state store.disk) in
    let same : c.look.new.keeper ≡ c.args.keeper.now = rw c.in-None.is at c.in-Ok-look.ensures.untouched in
    subst (λ (l : List ℕ). IsRead form g.K.Keeper.takes c.args.keeper.now c.look.new.keeper l Known) (sym c.in-Ok-begin.ensures.stored)
    (read_nothing form g.K.Keeper.takes c.args.keeper.now c.look.new.keeper Known same
    (λ honest.
    let fresh : IsFresh read = rw c.in-None.is at (c.in-Ok-look.ensures.fresh honest) in
    (inl (fresh, refl), c.in-Ok-begin.ensures.holds (c.look.ensures.honest.0 honest))))

pub returns-in-None-clause-cause : goal.returns-in-None-clause-cause
returns-in-None-clause-cause g c = λ honest.
    outside_cause (form_of (arc_value c.args.table.now) c.args.rides) (g.D.Disk.state c.args.disk).read c.begin_fault.result c.begin_fault.ensures.outside

-- if a store was found
pub resume-requires-clause-kept : goal.resume-requires-clause-kept
resume-requires-clause-kept g c = λ after.
    let honest = c.look.ensures.honest.1 after in
    let form = c.new-form.result in
    let s = g.D.Disk.state c.args.disk in
    let t = g.D.Disk.state c.look.new.disk in
    let found = c.in-Some.found in
    let place = found.place in
    let stored = found.stored.items in
    let fresh : (IsFresh s.read → ⊥) × IsShut (drop place s.read) = rw c.in-Some.is at (c.in-Ok-look.ensures.fresh honest) in
    let read : IsRead form g.K.Keeper.takes c.args.keeper.now c.look.new.keeper stored (λ (l : List Content). g.D.Disk.honest c.args.disk → IsSoFar form s.read l place) = rw c.in-Some.is at c.in-Ok-look.ensures.found in
    (read.trees, record { rest = rest_of form read.trees place s t (read.known honest) fresh.1 (c.in-Ok-look.ensures.synced honest); stored_are = read.stored_are })

pub returns-clause-read : goal.returns-clause-read
returns-clause-read g c =
    let form = form_of (arc_value c.args.table.now) c.args.rides in
    let same : c.new-form.result ≡ form = search rules in
    let s = g.D.Disk.state c.args.disk in
    let t = g.D.Disk.state c.look.new.disk in
    let found = c.in-Some.found in
    let place = found.place in
    let stored = found.stored.items in
    let store = c.resume.result in
    let Found = λ (f : Form) (l : List Content). g.D.Disk.honest c.args.disk → IsSoFar f s.read l place in
    let seen : IsRead c.new-form.result g.K.Keeper.takes c.args.keeper.now c.look.new.keeper stored (Found c.new-form.result) = rw c.in-Some.is at c.in-Ok-look.ensures.found in
    let read : IsRead form g.K.Keeper.takes c.args.keeper.now c.look.new.keeper stored (Found form) = subst (λ (f : Form). IsRead f g.K.Keeper.takes c.args.keeper.now c.look.new.keeper stored (Found f)) same seen in
    let Known = λ (l : List Content). g.D.Disk.honest c.args.disk → Stands form s.read l × Holds form l store.place store.stored (g.D.Disk.state store.disk) in
    subst (λ (v : List ℕ). IsRead form g.K.Keeper.takes c.args.keeper.now c.look.new.keeper v Known) (sym c.resume.ensures.stored)
    (read_knows form g.K.Keeper.takes c.args.keeper.now c.look.new.keeper stored (Found form) Known read
    (λ honest.
    let fresh : (IsFresh s.read → ⊥) × IsShut (drop place s.read) = rw c.in-Some.is at (c.in-Ok-look.ensures.fresh honest) in
    let so_far = read.known honest in
    let rest = rest_of form read.trees place s t so_far fresh.1 (c.in-Ok-look.ensures.synced honest) in
    let here : Holds form read.trees place stored t = record { rest = rest; stored_are = read.stored_are } in
    let held = subst (λ d. Holds form read.trees store.place store.stored (g.D.Disk.state d)) (sym c.resume.ensures.disk)
    (subst (λ (n : ℕ). Holds form read.trees n store.stored t) (sym c.resume.ensures.place)
    (subst (λ (v : List ℕ). Holds form read.trees place v t) (sym c.resume.ensures.stored) here)) in
    (shut_stands form s.read read.trees place so_far fresh.1, held)))

-- what the opening leaves
pub returns-in_default-clause-opening : goal.returns-in_default-clause-opening
returns-in_default-clause-opening g c = λ honest.
    let s = g.D.Disk.state c.args.disk in
    looked_opening (form_of (arc_value c.args.table.now) c.args.rides) s s (g.met.D.Disk.may_stay c.args.disk honest) c.syncs_lose_nothing.ensures (inl refl)

pub returns-in-Err-clause-opening : goal.returns-in-Err-clause-opening
returns-in-Err-clause-opening g c = λ honest.
    looked_opening (form_of (arc_value c.args.table.now) c.args.rides) (g.D.Disk.state c.args.disk) (g.D.Disk.state c.look.new.disk)
    (g.met.D.Disk.may_stay c.args.disk honest) c.syncs_lose_nothing.ensures (c.in-Err.ensures.stays honest)

pub returns-in-Ok-begin-clause-opening : goal.returns-in-Ok-begin-clause-opening
returns-in-Ok-begin-clause-opening g c = λ honest.
    let s = g.D.Disk.state c.args.disk in
    let fresh : IsFresh s.read = rw c.in-None.is at (c.in-Ok-look.ensures.fresh honest) in
    let there = c.look.ensures.honest.0 honest in
    let made = c.in-Ok-begin.store.disk in
    begun_opening (form_of (arc_value c.args.table.now) c.args.rides) s (g.D.Disk.state c.look.new.disk) (g.met.D.Disk.may_stay c.args.disk honest)
    c.stands_for_one.ensures c.syncs_lose_nothing.ensures c.loses_nothing_in_turn.ensures (c.in-Ok-look.ensures.synced honest) fresh
    (g.D.Disk.state made) (g.met.D.Disk.may_stay made (c.in-Ok-begin.ensures.honest.0 there)) (c.in-Ok-begin.ensures.moments there) (c.in-Ok-begin.ensures.lasting there)

pub returns-in-None-clause-opening : goal.returns-in-None-clause-opening
returns-in-None-clause-opening g c = λ honest.
    let s = g.D.Disk.state c.args.disk in
    let fresh : IsFresh s.read = rw c.in-None.is at (c.in-Ok-look.ensures.fresh honest) in
    let there = c.look.ensures.honest.0 honest in
    let left = c.in-Err-begin.refused.1 in
    begun_opening (form_of (arc_value c.args.table.now) c.args.rides) s (g.D.Disk.state c.look.new.disk) (g.met.D.Disk.may_stay c.args.disk honest)
    c.stands_for_one.ensures c.syncs_lose_nothing.ensures c.loses_nothing_in_turn.ensures (c.in-Ok-look.ensures.synced honest) fresh
    (g.D.Disk.state left) (g.met.D.Disk.may_stay left (c.in-Err-begin.ensures.honest.0 there)) (c.in-Err-begin.ensures.moments there) (c.in-Err-begin.ensures.lasting there)

pub returns-clause-opening : goal.returns-clause-opening
returns-clause-opening g c = λ honest.
    let s = g.D.Disk.state c.args.disk in
    let same : g.D.Disk.state c.resume.result.disk ≡ after_sync s = search rules in
    looked_opening (form_of (arc_value c.args.table.now) c.args.rides) s (g.D.Disk.state c.resume.result.disk)
    (g.met.D.Disk.may_stay c.args.disk honest) c.syncs_lose_nothing.ensures (inr same)
