-- A list of connections with the departures and the numbers of another, and with journeys that walk least.
use Rattle.std.proofs.Common.{◌≡◌, ◌∙◌, ℕ, ◌<◌, ◌≤◌, Bool, true, false, Option, None, Some, List, [], ◌∷◌, length, get_or, arith, ap, refl, sym, subst, inl, inr}
use Rattle.std.specs.List.{All, AllPairs, AllZip, Contains}
use Rattle.std.proofs.lemmas.List.Elements.{AllZip-get_or, Contains-get_or, at_from_Contains, length_all_zip}
use Rattle.timetable.specs.declared.parts.Numbers.{Numbers}
use Rattle.timetable.specs.Journeys.{Reaches}
use Rattle.timetable.specs.Table.{Table, stops_of}
use Rattle.timetable.specs.declared.parts.TheConstants.{LATEST_MOMENT}
use Rattle.pattern_query.specs.Answer.{numbers, IsJourney}
use Rattle.pattern_query.specs.Leaving.{LeavesLast}
use Rattle.connections.specs.Connections.{AreFirst, Connects, IsBefore, IsConnection, IsLike, IsScanned, LeavesThen, WalksLeastFor}
use Rattle.connections.specs.declared.connection.Connection.{Connection}
use Rattle.connections.specs.declared.connection.Window.{Window}
use Rattle.told_connections.specs.Next.{AreChosen, AreNext, AreWalked}
use Rattle.told_connections.specs.declared.choosing.TheConstants.{ENOUGH}

-- what holds of each in the place of another
all_of : (P Q : Connection → Type 0) (R : Connection → Connection → Type 0) → ((x y : Connection) → P x → R x y → Q y) → (xs ys : List Connection) → AllZip R xs ys
    → All P xs → All Q ys
all_of P Q R f xs ys zip all k d lt =
    let within : k < length xs = omega (arith, lt, length_all_zip R xs ys zip) in
    f (get_or xs k d) (get_or ys k d) (all k d within) (AllZip-get_or R xs ys k d d zip within)

zip_weaker : (R S : Connection → Connection → Type 0) → ((x y : Connection) → R x y → S x y) → (xs ys : List Connection) → AllZip R xs ys → AllZip S xs ys
zip_weaker R S f [] [] zip = tt
zip_weaker R S f [] (y ∷ ys) zip = zip
zip_weaker R S f (x ∷ xs) [] zip = zip
zip_weaker R S f (x ∷ xs) (y ∷ ys) zip = (f x y zip.0, zip_weaker R S f xs ys zip.1)

like_itself : (xs : List Connection) → AllZip IsLike xs xs
like_itself [] = tt
like_itself (x ∷ xs) = ((refl, refl), like_itself xs)

before_like : (a b x y : Connection) → IsLike a x → IsLike b y → IsBefore a b → IsBefore x y
before_like a b x y l m (inl lt) = let p = l.0 in let q = m.0 in inl (omega (arith, lt, p, q))
before_like a b x y l m (inr both) =
    let lt = both.1 in
    let p : x.journey.arrival ≡ a.journey.arrival = ap (λ (n : Numbers). n.arrival) l.1 in
    let q : y.journey.arrival ≡ b.journey.arrival = ap (λ (n : Numbers). n.arrival) m.1 in
    inr (l.0 ∙ both.0 ∙ sym m.0, omega (arith, lt, p, q))

module _ (Of : ℕ → Numbers → Type 0) (window : Window) where
  one_like : (x y : Connection) → IsConnection Of window x → IsLike x y → IsConnection Of window y
  one_like x y is like = record {
    after = subst (λ (d : ℕ). window.first ≤ d) (sym like.0) is.after;
    before = subst (λ (d : ℕ). d ≤ window.last) (sym like.0) is.before;
    connects = subst (λ (n : Numbers). Connects Of y.departure n) (sym like.1) (subst (λ (d : ℕ). Connects Of d (numbers x.journey)) (sym like.0) is.connects);
  }

  module _ (xs ys : List Connection) (like : AllZip IsLike xs ys) where
    as_long : length xs ≡ length ys
    as_long = length_all_zip IsLike xs ys like

    rising_like : AllPairs IsBefore xs → AllPairs IsBefore ys
    rising_like rising = λ i j d lt in'.
        let within : j < length xs = omega (arith, in', as_long) in
        before_like (get_or xs i d) (get_or xs j d) (get_or ys i d) (get_or ys j d)
        (AllZip-get_or IsLike xs ys i d d like (omega (arith, lt, within))) (AllZip-get_or IsLike xs ys j d d like within) (rising i j d lt within)

    found_like : (d : ℕ) (n : Numbers) → (c : Connection) × Contains xs c × (c.departure ≡ d) × (numbers c.journey ≡ n)
        → (c : Connection) × Contains ys c × (c.departure ≡ d) × (numbers c.journey ≡ n)
    found_like d n f =
        let c = f.0 in
        let k = at_from_Contains xs c f.1 in
        let at = AllZip-get_or IsLike xs ys k.0 c c like k.1 in
        let lt = k.1 in (
          get_or ys k.0 c,
          Contains-get_or ys k.0 c (omega (arith, lt, as_long)),
          at.0 ∙ ap (λ (x : Connection). x.departure) (k.2 c) ∙ f.2,
          at.1 ∙ ap (λ (x : Connection). numbers x.journey) (k.2 c) ∙ f.3,
        )

    first_like : (enough next : ℕ) → AreFirst Of window enough xs next → AreFirst Of window enough ys next
    first_like enough next are = record {
      are = record {
        rising = rising_like are.are.rising;
        each = all_of (IsConnection Of window) (IsConnection Of window) IsLike one_like xs ys like are.are.each;
        before = all_of (λ (c : Connection). c.departure < next) (λ (c : Connection). c.departure < next) IsLike
            (λ x y lt l. subst (λ (d : ℕ). d < next) (sym l.0) lt) xs ys like are.are.before;
        all = λ d n after within lt is. found_like d n (are.are.all d n after within lt is);
      };
      some = λ within. (let many = are.some within in omega (arith, many, as_long));
    }

    next_like : (n next : ℕ) → AreNext Of window n xs next → AreNext Of window n ys next
    next_like n next are = record {
      rising = rising_like are.rising;
      each = all_of (IsConnection Of window) (IsConnection Of window) IsLike one_like xs ys like are.each;
      few = (let few = are.few in omega (arith, few, as_long));
      some = λ within. sym as_long ∙ are.some within;
      rest = λ c is. elim (are.rest c is) [
        | inl l ↦ inl (found_like c.departure (numbers c.journey) l)
        | inr r ↦ inr (
          r.0,
          all_of (λ (e : Connection). IsBefore e c) (λ (e : Connection). IsBefore e c) IsLike (λ x y b l. before_like x c y c l (refl, refl) b) xs ys like r.1,
        )
      ];
    }

    -- the same ones are chosen
    pub chosen_like : (asked : Option ℕ) (next : ℕ) → AreChosen Of window asked xs next → AreChosen Of window asked ys next
    chosen_like None next are = first_like ENOUGH next are
    chosen_like (Some n) next are = next_like n next are

-- ---- those that walk least

module _ (table : Table) where
  pub walked_like : (wanted : Bool) (xs ys : List Connection) → AreWalked table wanted xs ys → AllZip IsLike xs ys
  walked_like false xs ys is = subst (AllZip IsLike xs) (sym is) (like_itself xs)
  walked_like true xs ys is = zip_weaker (WalksLeastFor table) IsLike (λ x y w. w.like) xs ys is

  pub walked_early : (latest : ℕ) (wanted : Bool) (xs ys : List Connection) → AreWalked table wanted xs ys → All (λ (c : Connection). c.departure ≤ latest) xs
      → All (λ (c : Connection). c.departure ≤ latest) ys
  walked_early latest wanted xs ys is early = all_of (λ (c : Connection). c.departure ≤ latest) (λ (c : Connection). c.departure ≤ latest) IsLike
      (λ x y le l. subst (λ (d : ℕ). d ≤ latest) (sym l.0) le) xs ys (walked_like wanted xs ys is) early

  module _ (s t : ℕ) where
    abbrev pub IsFrom : Connection → Type 0
    IsFrom c = IsJourney table s t c.departure c.journey

    abbrev pub IsLeast : Connection → Type 0
    IsLeast c = LeavesLast table (IsJourney table s t c.departure) c.journey

    -- what holds of the journeys between its own stops at its departure holds of those from s to t
    between_stops : (P : ℕ → ℕ → ℕ → Type 0) (x y : Connection) → IsFrom x → IsLike x y → P x.journey.from x.journey.to x.departure → P s t y.departure
    between_stops P x y is like of =
        subst (λ (p : ℕ). P p t y.departure) is.starts (subst (λ (q : ℕ). P x.journey.from q y.departure) is.ends
        (subst (λ (d : ℕ). P x.journey.from x.journey.to d) (sym like.0) of))

    pub walked_journeys : (wanted : Bool) (xs ys : List Connection) → AreWalked table wanted xs ys → All IsFrom xs → All IsFrom ys
    walked_journeys false xs ys is all = subst (All IsFrom) (sym is) all
    walked_journeys true xs ys is all = all_of IsFrom IsFrom (WalksLeastFor table)
        (λ x y from w. between_stops (λ p q d. IsJourney table p q d y.journey) x y from w.like w.is) xs ys is all

    pub walked_least : (wanted : Bool) (xs ys : List Connection) → AreWalked table wanted xs ys → All IsFrom xs → wanted ≡ true → All IsLeast ys
    walked_least false xs ys is all e = absurd (let no : ⊥ = cc in no)
    walked_least true xs ys is all e = all_of IsFrom IsLeast (WalksLeastFor table)
        (λ x y from w. between_stops (λ p q d. LeavesLast table (IsJourney table p q d) y.journey) x y from w.like w.least) xs ys is all

    -- connections that the rounds found
    module _ (k : ℕ) (window : Window) (from : s < stops_of table) (early : window.last ≤ LATEST_MOMENT) where
      scanned_one : (c : Connection) → IsFrom c → LeavesThen c → IsConnection (Reaches table 0 k s t) window c → IsScanned table k c
      scanned_one c is then' of = record {
        from = subst (λ (p : ℕ). p < stops_of table) (sym is.starts) from;
        early = (let within = of.before in omega (arith, within, early));
        is = subst (λ (p : ℕ). IsJourney table p c.journey.to c.departure c.journey) (sym is.starts)
            (subst (λ (q : ℕ). IsJourney table s q c.departure c.journey) (sym is.ends) is);
        then = then';
        connects = subst (λ (p : ℕ). Connects (Reaches table 0 k p c.journey.to) c.departure (numbers c.journey)) (sym is.starts)
            (subst (λ (q : ℕ). Connects (Reaches table 0 k s q) c.departure (numbers c.journey)) (sym is.ends) of.connects);
      }

      pub scanned_all : (list : List Connection) → All IsFrom list → All LeavesThen list → All (IsConnection (Reaches table 0 k s t) window) list
          → All (IsScanned table k) list
      scanned_all list journeys then' each = λ i d lt. scanned_one (get_or list i d) (journeys i d lt) (then' i d lt) (each i d lt)
