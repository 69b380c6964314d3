-- The first connections of a window, step by step.
use Rattle.std.proofs.Common.{◌≡◌, ℕ, ◌+◌, ◌-◌, ◌<◌, ◌≤◌, List, [], ◌++◌, length, arith, refl, sym, subst₂, inl, inr}
use Rattle.std.specs.List.{AllPairs, Contains}
use Rattle.std.proofs.lemmas.Bool.{cases_lt}
use Rattle.std.proofs.lemmas.List.{length-append, get_or_append_left, get_or-append_right}
use Rattle.std.proofs.lemmas.List.Elements.{All-append, Contains-append_left, Contains-append_right}
use Rattle.timetable.specs.declared.parts.Numbers.{Numbers}
use Rattle.pattern_query.specs.Answer.{numbers}
use Rattle.connections.specs.declared.connection.Connection.{Connection}
use Rattle.connections.specs.declared.connection.Window.{Window}
use Rattle.connections.specs.Connections.{AreConnections, AreConnectionsBefore, Connects, IsBefore, IsConnection}

module _ (Of : ℕ → Numbers → Type 0) (window : Window) where
  -- none departs before the window's first moment
  pub none_before : AreConnectionsBefore Of window window.first []
  none_before = record {
    rising = λ i j d lt in'. absurd (let z : ⊥ = omega (arith, in') in z);
    each = λ i d lt. absurd (let z : ⊥ = omega (arith, lt) in z);
    before = λ i d lt. absurd (let z : ⊥ = omega (arith, lt) in z);
    all = λ d n from to lt connects. absurd (let z : ⊥ = omega (arith, from, lt) in z);
  }

  -- those before a moment, and those of a step from it on
  module _ (next : ℕ) (step : Window) (list more : List Connection) (begins : step.first ≡ next) (some : next ≤ step.last)
      (within : step.last ≤ window.last) (after : window.first ≤ next) (old : AreConnectionsBefore Of window next list)
      (of_step : AreConnections Of step more) where
    both_rise : AllPairs IsBefore (list ++ more)
    both_rise i j d lt in' =
        let long = length-append list more in
        elim (cases_lt j (length list)) [
          | inl both ↦ subst₂ IsBefore (sym (get_or_append_left list more d i (omega (arith, lt, both)))) (sym (get_or_append_left list more d j both))
              (old.rising i j d lt both)
          | inr past ↦
              let end : j - length list < length more = omega (arith, past, in', long) in
              elim (cases_lt i (length list)) [
                | inl here ↦ subst₂ IsBefore (sym (get_or_append_left list more d i here)) (sym (get_or-append_right list more (length list) j d refl past))
                    (inl (let b = old.before i d here in let a = (of_step.each (j - length list) d end).after in omega (arith, a, b, begins)))
                | inr there ↦ subst₂ IsBefore (sym (get_or-append_right list more (length list) i d refl there))
                    (sym (get_or-append_right list more (length list) j d refl past))
                    (of_step.rising (i - length list) (j - length list) d (omega (arith, lt, there, past)) end)
              ]
        ]

    widened : (c : Connection) → IsConnection Of step c → IsConnection Of window c
    widened c is = record {
      after = (let a = is.after in omega (arith, a, begins, after));
      before = (let b = is.before in omega (arith, b, within));
      connects = is.connects;
    }

    found_in : (d : ℕ) (n : Numbers) → window.first ≤ d → d ≤ window.last → d < step.last + 1 → Connects Of d n
        → (c : Connection) × Contains (list ++ more) c × (c.departure ≡ d) × (numbers c.journey ≡ n)
    found_in d n from to lt connects = elim (cases_lt d next) [
      | inl before ↦ (let c = old.all d n from to before connects in (c.0, Contains-append_left list more c.0 c.1, c.2, c.3))
      | inr later ↦ (let c = of_step.all d n (omega (arith, begins, later)) (omega (arith, lt)) connects in (c.0, Contains-append_right list more c.0 c.1, c.2, c.3))
    ]

    pub one_step : AreConnectionsBefore Of window (step.last + 1) (list ++ more)
    one_step = record {
      rising = both_rise;
      each = All-append (IsConnection Of window) list more old.each (λ i d lt. widened _ (of_step.each i d lt));
      before = All-append (λ (c : Connection). c.departure < step.last + 1) list more
          (λ i d lt. let b = old.before i d lt in omega (arith, b, some))
          (λ i d lt. let b = (of_step.each i d lt).before in omega (arith, b));
      all = found_in;
    }
