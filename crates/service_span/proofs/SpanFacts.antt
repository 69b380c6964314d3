-- Spans of dates that pass tests.
use Rattle.std.proofs.Common.{◌≡◌, ◌∙◌, ◌⊎◌, inl, inr, sym, ap, arith, Bool, true, ◌||◌, Option, None, Some, ◌≤ℤ◌}
use Rattle.jiff_core.specs.declared.civil.date.Date.{Date}
use Rattle.jiff_core.specs.Date.{epoch_day}
use Rattle.jiff_core.proofs.SignedLemmas.{signed_arith}
use Rattle.service_span.specs.Spans.{IsSpanOf, IsSpanWhere}
use Rattle.service_span.specs.declared.span.Span.{Span}
use Rattle.service_span.proofs.Bools.{or_false, or_left, or_right, or_cases}

-- two tests that agree have one span
pub same_span : (p q : Date → Bool) (span : Option Span) → ((date : Date) → p date ≡ q date) → IsSpanWhere p span → IsSpanWhere q span
same_span p q None same h = λ date. sym (same date) ∙ h date
same_span p q (Some span) same h = record {
  first = sym (same span.first) ∙ h.first;
  last = sym (same span.last) ∙ h.last;
  within = λ date e. h.within date (same date ∙ e);
}

-- if no date passes one of two tests
pub only_second : (p q : Date → Bool) (span : Option Span) → IsSpanWhere p None → IsSpanWhere q span → IsSpanWhere (λ date. p date || q date) span
only_second p q span none h = same_span q (λ date. p date || q date) span (λ date. ap (λ b. b || q date) (sym (none date))) h

pub only_first : (p q : Date → Bool) (span : Option Span) → IsSpanWhere p span → IsSpanWhere q None → IsSpanWhere (λ date. p date || q date) span
only_first p q span h none = same_span p (λ date. p date || q date) span (λ date. sym (or_false (p date)) ∙ ap (λ b. p date || b) (sym (none date))) h

-- an end that is one of two
one_of : (p q : Date → Bool) (a b end : Date) → (end ≡ a) ⊎ (end ≡ b) → p a ≡ true → q b ≡ true → (p end || q end) ≡ true
one_of p q a b end (inl e) h k = or_left (p end) (q end) (ap p e ∙ h)
one_of p q a b end (inr e) h k = or_right (p end) (q end) (ap q e ∙ k)

-- the span of both
pub both : (p q : Date → Bool) (a b : Span) (first last : Date) → IsSpanOf p a → IsSpanOf q b
    → (first ≡ a.first) ⊎ (first ≡ b.first) → epoch_day first ≤ℤ epoch_day a.first → epoch_day first ≤ℤ epoch_day b.first
    → (last ≡ a.last) ⊎ (last ≡ b.last) → epoch_day a.last ≤ℤ epoch_day last → epoch_day b.last ≤ℤ epoch_day last
    → IsSpanOf (λ date. p date || q date) (record { first = first; last = last })
both p q a b first last h k first_is first_a first_b last_is last_a last_b = record {
  first = one_of p q a.first b.first first first_is h.first k.first;
  last = one_of p q a.last b.last last last_is h.last k.last;
  within = λ date e. elim (or_cases (p date) (q date) e) [
    | inl here ↦ let w = h.within date here in omega (arith, signed_arith, w)
    | inr here ↦ let w = k.within date here in omega (arith, signed_arith, w)
  ];
}
