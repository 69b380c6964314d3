-- What a loop has written that writes a line for each item.
use Rattle.std.proofs.Common.{◌≡◌, ◌+◌, ◌<◌, ◌∙◌, ◌++◌, ◌∷◌, ℕ, List, [], ap, sym, subst, get_or, length, take}
use Rattle.std.proofs.Output.{has_written_append, has_written_of_eq}
use Rattle.std.proofs.lemmas.List.{flat_map_more, take_more}
use Rattle.std.specs.Fmt.{HasWritten}
use Rattle.std.specs.List.{flat_map}
use Rattle.std.specs.declared.fmt.Formatter.{Formatter}

-- one more of the items is written, over which the loop goes as a slice
pub line_more : {W X : Type 0} (took : W → List ℕ → W → Type 0) (f g h : Formatter W) (line : X → List ℕ) (slice items : List X) (k : ℕ) (item none : X)
    → slice ≡ items → k < length slice → item ≡ get_or slice k none
    → HasWritten took f (flat_map line (take k items)) g → HasWritten took g (line item) h → HasWritten took f (flat_map line (take (k + 1) items)) h
line_more took f g h line slice items k item none same within is so_far more =
    let within_items = subst (λ xs. k < length xs) same within in
    let is_item = subst (λ xs. item ≡ get_or xs k none) same is in
    has_written_of_eq took f _ _ h (
    flat_map_more line [] (take k items) item
    ∙ ap (λ x. flat_map line (take k items ++ (x ∷ []))) is_item
    ∙ sym (ap (flat_map line) (take_more items k none within_items))) (has_written_append took f _ g _ h so_far more)
