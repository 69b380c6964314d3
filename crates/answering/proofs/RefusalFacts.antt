-- When one leaves, and what a refusal of a question between places says of it.
use Rattle.std.proofs.Common.{Option, ◌≡◌, ℕ, ◌<◌, ◌≤◌, None, Some, arith, sym, ◌∙◌, ap}
use Rattle.std.specs.Option.{unwrap_or}
use Rattle.timetable.specs.Table.{Table}
use Rattle.feed_ids.specs.Names.{stops_at}
use Rattle.pattern_query.specs.Questions as questions
use Rattle.pattern_query.specs.declared.refusal.Refusal.{Refusal}
use Rattle.pattern_query.specs.declared.refusal.Refusal.TheVariants as refusals
use Rattle.questions.specs.declared.question.Question.{Question}
use Rattle.feed_basis.specs.Basis.{BasisData}
use Rattle.answering.specs.Refusals.{IsCovered, IsMissing, IsRefused}

-- a covered moment is one
pub leaves_at : (moment : Option ℕ) (horizon d : ℕ) → d ≡ unwrap_or moment 4_294_967_295 → d ≤ horizon → horizon ≤ 2_851_199 → moment ≡ Some d
leaves_at None horizon d is covered bound = let b : ⊥ = omega (arith, is, covered, bound) in absurd b
leaves_at (Some x) horizon d is covered bound = ap Some (sym is)

some_same : (a b : ℕ) → Some a ≡ Some b → a ≡ b
some_same a b e = cc

-- nor is one covered if that one isn't
pub not_covered : (table : Table) (moment : Option ℕ) (d : ℕ) → d ≡ unwrap_or moment 4_294_967_295 → table.horizon < d → ¬ IsCovered table moment
not_covered table moment d is late covered =
    let at : d ≡ covered.0 = is ∙ ap (λ o. unwrap_or o 4_294_967_295) covered.1 in
    let within = covered.2 in
    let b : ⊥ = omega (arith, at, late, within) in b

-- a refusal of a question between places is one of the question
pub refused : (basis : BasisData) (held : questions.Held) (moment : Option ℕ) (question : Question) (d : ℕ) (refusal : Refusal)
    → d ≡ unwrap_or moment 4_294_967_295 → basis.timetable.horizon ≤ 2_851_199
    → questions.IsRefusal basis.timetable basis.names held question.from.now question.to.now d refusal
    → IsRefused (stops_at basis.names) (IsMissing basis held question) basis.timetable moment question refusal
refused basis held moment question d (refusals.UnknownStop id) is bound h = h
refused basis held moment question d refusals.NotCovered is bound h = ((h.0, h.1), not_covered basis.timetable moment d is h.2)
refused basis held moment question d (refusals.NotStored id) is bound h = (
  ((h.2, h.4), h.0),
  (d, leaves_at moment basis.timetable.horizon d is h.1 bound, h.1),
  (h.2, h.3, h.4, h.5, h.6),
)
