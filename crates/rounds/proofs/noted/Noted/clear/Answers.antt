use Rattle.std.proofs.Common.{ℕ, ◌≡◌, ◌⊎◌, ◌<◌, List, length, get_or, arith, sym, ap, subst, ◌∙◌}
use Rattle.std.specs.List.{Contains}
use Rattle.rounds.specs.Noted.{no_position}
use Rattle.stop_labels.proofs.Listed.{whole_of}
use Rattle.rounds.proofs.NotedSteps.{noted_nothing, cleared_all}
use Rattle.rounds.proofs.noted.Noted.clear.Goals as goal

pub clear-requires : goal.clear-requires
clear-requires c = λ l has.
    let i = c.self.inside in
    subst (λ (xs : List ℕ). l < length xs) (sym c.deref_mut.ensures.value) (c.self.invariant.within l (subst (λ (xs : List ℕ). Contains xs l) c.deref.ensures.value has))

pub invariant_of-self : goal.invariant_of-self
invariant_of-self c =
    let i = c.self.inside in
    let is = c.self.invariant in
    let now = c.clear.new.earliest in
    let w = whole_of i.earliest.len now i.earliest.items c.deref_mut.result.now c.deref_mut.ensures.value c.deref_mut.ensures.len c.clear.auto.earliest in
    let long : length now ≡ length i.earliest.items = c.clear.auto.earliest ∙ ap (length {A = ℕ}) c.deref_mut.ensures.value in
    let fits = is.room in
    let same = c.clear-2.ensures.capacity in
    let each : (l : ℕ) → (get_or now l 0 ≡ no_position) ⊎ (¬ Contains i.lines.items l × (get_or now l 0 ≡ get_or i.earliest.items l 0)) =
    subst (λ (xs : List ℕ). (l : ℕ) → (get_or now l 0 ≡ no_position) ⊎ (¬ Contains xs l × (get_or now l 0 ≡ get_or i.earliest.items l 0))) c.deref.ensures.value
    (subst (λ (xs : List ℕ). (l : ℕ) → (get_or now l 0 ≡ no_position) ⊎ (¬ Contains c.deref.result.now l × (get_or now l 0 ≡ get_or xs l 0))) c.deref_mut.ensures.value c.clear.ensures) in
    rw w (noted_nothing now _ _ c.clear-2.ensures.items (omega (arith, fits, same, long))
    (λ l h. cleared_all i.earliest.items i.lines.items now _ is each l (omega (arith, h, long))))

pub returns : goal.returns
returns c =
    let i = c.self.inside in
    let w = whole_of i.earliest.len c.clear.new.earliest i.earliest.items c.deref_mut.result.now c.deref_mut.ensures.value c.deref_mut.ensures.len c.clear.auto.earliest in
    ap (length {A = ℕ}) w ∙ (c.clear.auto.earliest ∙ (ap (length {A = ℕ}) c.deref_mut.ensures.value ∙ ap (length {A = ℕ}) c.self.view_is))
