-- Labels beside moments.
use Rattle.std.proofs.Common.{Option, ◌≡◌, ℕ, zero, suc, ◌<◌, replicate, List, [], ◌∷◌, length, Some, None, set, get_or, arith, inl, inr, refl, sym, ◌∙◌, ap, subst}
use Rattle.std.proofs.lemmas.Bool.{cases_eq, cases_lt}
use Rattle.std.proofs.lemmas.List.{get_or_default, get_or_past, get_or-set_same, get_or-set_other, length-set}
use Rattle.stop_labels.specs.Mark.{Mark, at, arrival_of}
use Rattle.stop_labels.specs.Row.{when}
use Rattle.stop_labels.specs.Labels.{kept, with_moments, AreAgreed}

-- the label of a stop
kept_at : (moments : List (Option ℕ)) (labels : List Mark) (p : ℕ) (other : Mark) → length labels ≡ length moments
    → at (with_moments moments labels) p ≡ kept (when moments p) (get_or labels p other)
kept_at [] labels p other e = refl
kept_at (moment ∷ moments) [] p other e = absurd (omega arith)
kept_at (moment ∷ moments) (label ∷ labels) zero other e = refl
kept_at (moment ∷ moments) (label ∷ labels) (suc p) other e = kept_at moments labels p other (omega arith)

pub with_length : (moments : List (Option ℕ)) (labels : List Mark) → length labels ≡ length moments → length (with_moments moments labels) ≡ length moments
with_length [] labels e = refl
with_length (moment ∷ moments) [] e = absurd (omega arith)
with_length (moment ∷ moments) (label ∷ labels) e = (let rest = with_length moments labels (omega arith) in omega (arith, rest))

-- one more label
pub with_put : (moments : List (Option ℕ)) (labels : List Mark) (i a : ℕ) (m : Mark) → length labels ≡ length moments
    → with_moments (set moments i (Some a)) (set labels i m) ≡ set (with_moments moments labels) i (Some m)
with_put [] labels i a m e = refl
with_put (moment ∷ moments) [] i a m e = absurd (omega arith)
with_put (moment ∷ moments) (label ∷ labels) zero a m e = refl
with_put (moment ∷ moments) (label ∷ labels) (suc i) a m e = ap (λ ms. kept moment label ∷ ms) (with_put moments labels i a m (omega arith))

pub agreed_put : (moments : List (Option ℕ)) (labels : List Mark) (i a : ℕ) (m : Mark) → a ≡ m.arrival → i < length moments → AreAgreed moments labels
    → AreAgreed (set moments i (Some a)) (set labels i m)
agreed_put moments labels i a m e in' is =
    let long = with_length moments labels is.size in
    record {
      size = length-set labels i m ∙ (is.size ∙ sym (length-set moments i (Some a)));
      same = λ p. elim (cases_eq p i) [
        | inl here ↦ subst (λ k. when (set moments i (Some a)) k ≡ arrival_of (at (with_moments (set moments i (Some a)) (set labels i m)) k)) (sym here)
            (get_or-set_same moments i (Some a) None in' ∙ (ap (λ b. Some b) e
            ∙ ap arrival_of (sym (ap (λ (ms : List (Option Mark)). at ms i) (with_put moments labels i a m is.size)
            ∙ get_or-set_same (with_moments moments labels) i (Some m) None (omega (arith, long, in'))))))
        | inr ne ↦ get_or-set_other moments i p (Some a) None ne ∙ (is.same p
            ∙ ap arrival_of (sym (ap (λ (ms : List (Option Mark)). at ms p) (with_put moments labels i a m is.size)
            ∙ get_or-set_other (with_moments moments labels) i p (Some m) None ne)))
      ];
    }

-- if there are no moments, there are no labels
pub none_kept : (moments : List (Option ℕ)) (labels : List Mark) → length labels ≡ length moments → ((p : ℕ) → when moments p ≡ None) → (p : ℕ)
    → at (with_moments moments labels) p ≡ None
none_kept moments labels size none p =
    kept_at moments labels p no_mark size ∙ ap (λ moment. kept moment (get_or labels p no_mark)) (none p) where
      no_mark : Mark
      no_mark = record { arrival = 0; path = [] }

pub none_agreed : (moments : List (Option ℕ)) (labels : List Mark) → length labels ≡ length moments → ((p : ℕ) → when moments p ≡ None) → AreAgreed moments labels
none_agreed moments labels size none = record { size = size; same = λ p. none p ∙ sym (ap arrival_of (none_kept moments labels size none p)) }

pub none_with : (n : ℕ) (labels : List Mark) → length labels ≡ n → with_moments (replicate {A = Option ℕ} n None) labels ≡ replicate {A = Option Mark} n None
none_with zero labels e = refl
none_with (suc n) [] e = absurd (omega arith)
none_with (suc n) (label ∷ labels) e = ap (λ ms. None ∷ ms) (none_with n labels (omega arith))

pub no_moment : (n p : ℕ) → when (replicate {A = Option ℕ} n None) p ≡ None
no_moment zero p = refl
no_moment (suc n) zero = refl
no_moment (suc n) (suc p) = no_moment n p

-- if there is a moment, the label is there as it stands
pub some_kept : (moments : List (Option ℕ)) (labels : List Mark) (p a : ℕ) (other : Mark) → length labels ≡ length moments → when moments p ≡ Some a
    → at (with_moments moments labels) p ≡ Some (get_or labels p other)
some_kept moments labels p a other size e = kept_at moments labels p other size ∙ ap (λ moment. kept moment (get_or labels p other)) e

-- a stop with a moment is one of the stops
pub moment_within : (moments : List (Option ℕ)) (p a : ℕ) → when moments p ≡ Some a → p < length moments
moment_within moments p a e = elim (cases_lt p (length moments)) [
  | inl lt ↦ lt
  | inr past ↦ absurd (apart a (sym (get_or_past moments p None past) ∙ e))
] where
  apart : (a : ℕ) → None ≡ Some a → ⊥
  apart a e = cc

-- each stop of the row has a moment's place
pub stop_within : (moments : List (Option ℕ)) (labels : List Mark) (marks : List (Option Mark)) (stop : ℕ) → AreAgreed moments labels
    → with_moments moments labels ≡ marks → stop < length marks → stop < length moments
stop_within moments labels marks stop is same lt =
    let long = with_length moments labels is.size in
    let size = ap (length {A = Option Mark}) same in
    omega (arith, long, size, lt)

-- the moment that lies there
pub moment_read : (moments : List (Option ℕ)) (labels : List Mark) (marks : List (Option Mark)) (stop : ℕ) (moment : Option ℕ) → AreAgreed moments labels
    → with_moments moments labels ≡ marks → stop < length marks → moment ≡ get_or moments stop moment → moment ≡ arrival_of (at marks stop)
moment_read moments labels marks stop moment is same lt read =
    read ∙ (get_or_default moments stop moment None (stop_within moments labels marks stop is same lt)
    ∙ (is.same stop ∙ ap (λ (ms : List (Option Mark)). arrival_of (at ms stop)) same))
