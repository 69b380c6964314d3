-- The stops of a finished tree are those of its timetable.
use Rattle.std.proofs.Common.{ℕ, suc, refl, ◌<◌, ◌≤◌, List, [], ◌∷◌, length, subst, arith, All, Contains}
use Rattle.std.proofs.lemmas.List.Elements.{All-head, All-tail}
use Rattle.timetable.specs.Table.{Table, IsTable, stops_of}
use Rattle.timetable.proofs.KnownStops.{journey_known}
use Rattle.pattern_tree.specs.Forest.{Step, Pair}
use Rattle.pattern_tree.specs.Completeness.{Earned}
use Rattle.pattern_tree.specs.Finished.{FinishedTree, IsFinished}
use Rattle.pattern_tree.specs.Within.{PathBelow, PairsBelow, IsWithin}

path_below : (n : ℕ) (path : List Step) → All (λ (step : Step). (step.0 < n) × (step.1 < n)) path → PathBelow n path
path_below n [] each = tt
path_below n (s ∷ q) each =
    let here = All-head (λ (step : Step). (step.0 < n) × (step.1 < n)) s q each in
    (here.0, here.1, path_below n q (All-tail (λ (step : Step). (step.0 < n) × (step.1 < n)) s q each))

-- a path that is earned, and its end
earned_below : (table : Table) (k s : ℕ) (pairs : List Pair) → IsTable table → Earned table k s pairs → (path : List Step) (t : ℕ)
    → Contains pairs (path, t) → PathBelow (stops_of table) path × (t < stops_of table)
earned_below table k s pairs is earned path t in' =
    let e = earned path t in' in
    let legs = e.3.0 in
    let best = e.2.0 in
    let some : 1 ≤ length legs = omega (arith, e.3.2, best.3) in
    let known = journey_known table s e.0 legs t e.1.arrival is some e.3.1 in
    (subst (PathBelow (stops_of table)) e.3.3 (path_below (stops_of table) _ known.0), known.1)

pairs_below : (n : ℕ) (pairs : List Pair) → ((path : List Step) (t : ℕ) → Contains pairs (path, t) → PathBelow n path × (t < n)) → PairsBelow n pairs
pairs_below n [] each = tt
pairs_below n (p ∷ ps) each =
    let here = each p.0 p.1 (0, (let lt : 0 < length (p ∷ ps) = omega arith in lt), refl) in
    (here.0, here.1, pairs_below n ps (λ path t in'. each path t (suc in'.0, (let h = in'.1 in let lt : suc in'.0 < length (p ∷ ps) = omega (arith, h) in lt), in'.2)))

pub within : (f : FinishedTree) → IsTable f.table → IsFinished f → IsWithin (stops_of f.table) f.tree
within f is done = (done.known, pairs_below (stops_of f.table) f.tree.pairs (earned_below f.table f.rides f.tree.source f.tree.pairs is done.is.earned))
