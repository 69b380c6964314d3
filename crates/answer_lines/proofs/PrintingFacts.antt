-- What writes do to a text that is written piece by piece.
use Rattle.std.proofs.Common.{◌≡◌, ◌∙◌, ℕ, List, [], ◌++◌, ◌-◌, Option, ap, sym, refl, subst, length, take, drop, take-append-drop, append-nil, append_assoc}
use Rattle.std.proofs.Math.Seq.{take-length}
use Rattle.std.proofs.lemmas.List.{length-drop}
use Rattle.std.proofs.KnownBytes.{Appends-nil, Appends-trans, Appends-kept}
use Rattle.std.specs.Io.KnownBytes.{Appends, Keeps}
use Rattle.answer_lines.specs.Printing.{AppendsBeginning, AppendsBut}

pub none_written : (a : Option (List ℕ)) (text : List ℕ) → AppendsBut a a text text
none_written a text = ([], refl, Appends-nil a)

pub more_written : (a b c : Option (List ℕ)) (text rest : List ℕ) (count : ℕ) → AppendsBut a b text rest → Appends b c (take count rest)
    → AppendsBut a c text (drop count rest)
more_written a b c text rest count so_far more = (
  so_far.0 ++ take count rest,
  so_far.1 ∙ ap (λ t. so_far.0 ++ t) (sym (take-append-drop count rest)) ∙ sym (append_assoc so_far.0 (take count rest) (drop count rest)),
  Appends-trans a b c so_far.0 (take count rest) so_far.2 more,
)

pub nothing_more : (a b c : Option (List ℕ)) (text rest : List ℕ) → AppendsBut a b text rest → Keeps b c → AppendsBut a c text rest
nothing_more a b c text rest so_far kept = (so_far.0, so_far.1, Appends-kept a b c so_far.0 so_far.2 kept)

pub all_written : (a b : Option (List ℕ)) (text rest : List ℕ) → rest ≡ [] → AppendsBut a b text rest → Appends a b text
all_written a b text rest none so_far =
    subst (Appends a b) (sym (so_far.1 ∙ ap (λ t. so_far.0 ++ t) none ∙ append-nil so_far.0)) so_far.2

-- bytes that were written whole, if the flush was refused
pub not_flushed : (a b c : Option (List ℕ)) (text : List ℕ) → Appends a b text → Keeps b c → AppendsBeginning a c text
not_flushed a b c text whole kept = ([], (text, sym (append-nil text), Appends-kept a b c text whole kept))

-- what is left after `count` bytes
pub behind : (count : ℕ) (bytes : List ℕ) → take (length bytes - count) (drop count bytes) ≡ drop count bytes
behind count bytes = ap (λ n. take n (drop count bytes)) (sym (length-drop count bytes)) ∙ take-length (drop count bytes)
