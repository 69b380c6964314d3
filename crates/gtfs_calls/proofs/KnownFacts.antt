-- What is known of the stops of the trip before.
use Rattle.std.proofs.Common.{ℕ, Option, Some, None, List, Bor, subst, sym}
use Rattle.std.specs.List.{All}
use Rattle.std.specs.Option.{IfSome, option_copied}
use Rattle.std.specs.Slice.{IsItemAt}

-- an element that is lent is one of those that all are so
pub lent-of-all : {X : Type 0} (P : X → Type 0) (xs : List X) (i : ℕ) (lent : Option (Bor X)) → IsItemAt xs i lent → All P xs
    → IfSome (option_copied lent) P
lent-of-all P xs i None at all = tt
lent-of-all P xs i (Some x) at all = subst P (sym at.1) (all i x.now at.3.0)
