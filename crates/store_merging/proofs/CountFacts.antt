-- Which stops are missing.
use Rattle.std.proofs.Common.{◌≡◌, ◌&&◌, Bool, ℕ, not, sym, ◌∙◌, ap, List}
use Rattle.stop_parts.specs.Parts.{IsOf, whole}
use Rattle.section_store.specs.Sources.{is_among}
use Rattle.precomputing.specs.Missing.{is_missing}

-- of the whole a stop is missing exactly if it isn't stored
pub lacks_is : (stored : List ℕ) (stop : ℕ) (has told : Bool) → IsOf whole stop → has ≡ is_among stop stored → told ≡ not has → told ≡ is_missing whole stored stop
lacks_is stored stop has told own has_is told_is =
    told_is ∙ ap not has_is ∙ sym (ap (λ (b : Bool). b && not (is_among stop stored)) own)
