use Rattle.std.proofs.Common.{◌≡◌, ◌&&◌, ℕ, nat_eq, ap, ap₂}
use Rattle.std.specs.Bool.{Decides}
use Rattle.std.proofs.lemmas.Bool.Decides.{Decides-and, Decides-eqb}
use Rattle.std.proofs.lemmas.Slice.Eq.{slice_eq-Decides}
use Rattle.timetable.specs.declared.parts.Numbers.{Numbers}
use Rattle.auditing.proofs.comparing.are_equal.Goals as goal

-- two numbers of journeys are one if their arrivals and rides are
numbers_decide : (a b : Numbers) → Decides (nat_eq a.arrival b.arrival && nat_eq a.rides b.rides) (a ≡ b)
numbers_decide a b =
    let make : ℕ → ℕ → Numbers = λ arrival rides. record { arrival = arrival; rides = rides } in
    let both = Decides-and (nat_eq a.arrival b.arrival) (nat_eq a.rides b.rides) (Decides-eqb a.arrival b.arrival) (Decides-eqb a.rides b.rides) in (
      λ r. let p = both.0 r in ap₂ make p.0 p.1,
      λ e. both.1 (ap (λ (n : Numbers). n.arrival) e, ap (λ (n : Numbers). n.rides) e),
    )

pub returns : goal.returns
returns c = slice_eq-Decides numbers_decide c.args.one.now c.args.other.now c.eq.result c.eq.ensures
