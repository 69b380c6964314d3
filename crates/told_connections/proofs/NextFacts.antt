-- The first connections of a window, by their number.
use Rattle.std.proofs.Common.{◌≡◌, ◌∙◌, ◌⊎◌, ℕ, ◌<◌, ◌≤◌, Option, None, Some, List, length, take, get_or, arith, ap, sym, subst, subst₂, inl, inr, length-take}
use Rattle.std.specs.List.{All}
use Rattle.std.proofs.lemmas.Bool.{cases_lt}
use Rattle.std.proofs.lemmas.List.{get_or-take, take_all}
use Rattle.std.proofs.lemmas.List.Elements.{All-take, at_from_Contains}
use Rattle.timetable.specs.declared.parts.Numbers.{Numbers}
use Rattle.pattern_query.specs.Answer.{numbers}
use Rattle.connections.specs.Connections.{AreFirst, IsBefore, IsConnection}
use Rattle.connections.specs.declared.connection.Connection.{Connection}
use Rattle.connections.specs.declared.connection.Window.{Window}
use Rattle.told_connections.specs.Next.{AreChosen, AreNext, Chooses, IsListed, enough_of}
use Rattle.told_connections.specs.declared.choosing.TheConstants.{ENOUGH}

-- what comes before one comes before any with its departure and its numbers
before_same : (a e c : Connection) → IsBefore a e → e.departure ≡ c.departure → numbers e.journey ≡ numbers c.journey → IsBefore a c
before_same a e c (inl lt) departs same = inl (omega (arith, lt, departs))
before_same a e c (inr both) departs same =
    let first = both.0 in
    let lt = both.1 in
    let arrives : e.journey.arrival ≡ c.journey.arrival = ap (λ (n : Numbers). n.arrival) same in
    inr (first ∙ departs, omega (arith, lt, arrives))

-- what comes before departs no later
departs_by : (a b : Connection) → IsBefore a b → a.departure ≤ b.departure
departs_by a b (inl lt) = omega (arith, lt)
departs_by a b (inr both) = let same = both.0 in omega (arith, same)

module _ (Of : ℕ → Numbers → Type 0) (window : Window) (n : ℕ) (list : List Connection) (from : ℕ) (are : AreFirst Of window n list from) where
  listed : (c : Connection) → IsConnection Of window c → c.departure < from → IsListed list c
  listed c is lt = are.are.all c.departure (numbers c.journey) is.after is.before lt is.connects

  -- all that are found come before one that departs later
  all_before : (c : Connection) → from ≤ c.departure → All (λ e. IsBefore e c) list
  all_before c later = λ i d lt. inl (let b = are.are.before i d lt in omega (arith, b, later))

  all_told : length list ≤ n → AreNext Of window n list from
  all_told short = record {
    rising = are.are.rising;
    each = are.are.each;
    few = short;
    some = λ within. (let enough = are.some within in omega (arith, enough, short));
    rest = λ c is. elim (cases_lt c.departure from) [ inl lt ↦ inl (listed c is lt) | inr later ↦ inr (later, all_before c later) ];
  }

  module _ (long : n < length list) (new : ℕ) (is_new : (d : Connection) → new ≡ (get_or list n d).departure) where
    many : length (take n list) ≡ n
    many = let l = length-take n list in omega (arith, l, long)

    -- the first one that is left out departs no later than those that follow
    left_from : (k : ℕ) (d : Connection) → n ≤ k → k < length list → new ≤ (get_or list k d).departure
    left_from k d le lt =
        let here = is_new d in
        elim (cases_lt n k) [
          | inl less ↦ (let later = departs_by (get_or list n d) (get_or list k d) (are.are.rising n k d less lt) in omega (arith, here, later))
          | inr same ↦
              let at : k ≡ n = omega (arith, le, same) in
              let there : (get_or list k d).departure ≡ (get_or list n d).departure = ap (λ i. (get_or list i d).departure) at in
              omega (arith, here, there)
        ]

    -- one that was found is reported, or comes after those that are
    found_or_later : (c : Connection) → IsListed list c
        → IsListed (take n list) c ⊎ ((new ≤ c.departure) × All (λ e. IsBefore e c) (take n list))
    found_or_later c l =
        let e = l.0 in
        let k = at_from_Contains list e l.1 in
        let departs = l.2 in
        elim (cases_lt k.0 n) [
          | inl told ↦ inl (e, (k.0, omega (arith, told, many), get_or-take n list k.0 e told ∙ k.2 e), l.2, l.3)
          | inr left ↦ inr (
            (let from = left_from k.0 e left k.1 in
                let here : (get_or list k.0 e).departure ≡ e.departure = ap (λ (x : Connection). x.departure) (k.2 e) in
                omega (arith, from, here, departs)),
            (λ i d lt.
                let few : i < n = omega (arith, lt, many) in
                subst (λ (x : Connection). IsBefore x c) (sym (get_or-take n list i d few))
                (before_same (get_or list i d) e c
                (subst (λ (x : Connection). IsBefore (get_or list i d) x) (k.2 d) (are.are.rising i k.0 d (omega (arith, few, left)) k.1))
                l.2 l.3)),
          )
        ]

    some_told : AreNext Of window n (take n list) new
    some_told = record {
      rising = λ i j d lt in'.
          let few : j < n = omega (arith, in', many) in
          subst₂ IsBefore (sym (get_or-take n list i d (omega (arith, lt, few)))) (sym (get_or-take n list j d few))
          (are.are.rising i j d lt (omega (arith, few, long)));
      each = All-take (IsConnection Of window) n list are.are.each;
      few = omega (arith, many);
      some = λ within. many;
      rest = λ c is. elim (cases_lt c.departure from) [
        | inl lt ↦ found_or_later c (listed c is lt)
        | inr later ↦ inr (
          (let first = is_new c in let b = are.are.before n c long in omega (arith, first, b, later)),
          All-take (λ e. IsBefore e c) n list (all_before c later),
        )
      ];
    }

-- those that are chosen of the connections that are found are the ones that are reported
pub chosen_are : (Of : ℕ → Numbers → Type 0) (window : Window) (asked : Option ℕ) (enough : ℕ) (list : List Connection) (from : ℕ)
    (chosen : List Connection) (new : ℕ) → enough ≡ enough_of asked → AreFirst Of window enough list from → Chooses asked list from chosen new
    → AreChosen Of window asked chosen new
chosen_are Of window None enough list from chosen new so are is =
    subst₂ (λ l m. AreFirst Of window ENOUGH l m) (sym is.items) (sym is.next_is) (subst (λ (n : ℕ). AreFirst Of window n list from) so are)
chosen_are Of window (Some n) enough list from chosen new so are is =
    let first = subst (λ (m : ℕ). AreFirst Of window m list from) so are in
    elim (cases_lt n (length list)) [
      | inl long ↦ subst (λ l. AreNext Of window n l new) (sym is.items) (some_told Of window n list from first long new (λ d. is.next_is.1 d long))
      | inr short ↦ subst₂ (λ l m. AreNext Of window n l m) (sym (is.items ∙ take_all n list short)) (sym (is.next_is.0 short))
          (all_told Of window n list from first short)
    ]

-- they depart by the end of the window
pub departs_early : (Of : ℕ → Numbers → Type 0) (window : Window) (enough : ℕ) (list : List Connection) (next latest : ℕ)
    → AreFirst Of window enough list next → window.last ≤ latest → All (λ c. c.departure ≤ latest) list
departs_early Of window enough list next latest are early = λ i d lt. let b = (are.are.each i d lt).before in omega (arith, b, early)

-- what holds of all that are found holds of those that are chosen
pub chosen_all : (P : Connection → Type 0) (asked : Option ℕ) (list : List Connection) (from : ℕ) (chosen : List Connection) (new : ℕ)
    → Chooses asked list from chosen new → All P list → All P chosen
chosen_all P None list from chosen new is all = subst (λ l. All P l) (sym is.items) all
chosen_all P (Some n) list from chosen new is all = subst (λ l. All P l) (sym is.items) (All-take P n list all)
