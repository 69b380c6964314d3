use Rattle.std.proofs.Common.{◌≡◌, ◌&&◌, ℕ, nat_eq, ap, ap₂}
use Rattle.std.specs.Bool.{Decides}
use Rattle.std.proofs.lemmas.Bool.Decides.{Decides-and, Decides-eqb}
use Rattle.std.proofs.lemmas.Slice.Eq.{slice_eq-Decides}
use Rattle.pattern_tree.specs.Forest.{Step}
use Rattle.packed_patterns.proofs.patterns.are_equal.Goals as goal

-- two rides are one if their stops are
steps_decide : (a b : Step) → Decides (nat_eq a.0 b.0 && nat_eq a.1 b.1) (a ≡ b)
steps_decide a b =
    let make : ℕ → ℕ → Step = λ board alight. (board, alight) in
    let both = Decides-and (nat_eq a.0 b.0) (nat_eq a.1 b.1) (Decides-eqb a.0 b.0) (Decides-eqb a.1 b.1) in (
      λ r. let p = both.0 r in ap₂ make p.0 p.1,
      λ e. both.1 (ap (λ (s : Step). s.0) e, ap (λ (s : Step). s.1) e),
    )

pub returns : goal.returns
returns c = slice_eq-Decides steps_decide c.args.one.now c.args.other.now c.eq.result c.eq.ensures
