-- Texts that are said one after the other.
use Rattle.std.proofs.Common.{◌∙◌, ◌++◌, ℕ, List, Result, Ok, Err, MatchResult, inl, inr}
use Rattle.std.proofs.KnownBytes.{Appends-trans}
use Rattle.streams.specs.Streams.{HasBeginning, HasWhole, IsSaid, StreamData}

pub said_more : (a b : List ℕ) (old mid new : StreamData) → IsSaid a old mid → IsSaid b mid new → IsSaid (a ++ b) old new
said_more a b old mid new (inl first) (inl second) = inl (record {
  added = Appends-trans old.contents mid.contents new.contents a b first.added second.added;
  taken = second.taken ∙ first.taken;
})
said_more a b old mid new (inr refused) (inl second) = inr (second.taken ∙ refused)
said_more a b old mid new first (inr refused) = inr refused

-- bytes that were printed are said
pub said_of : {T E : Type 0} (printed : Result T E) (text : List ℕ) (old new : StreamData)
    → MatchResult printed (λ _. HasWhole text old new) (λ _. HasBeginning text old new) → IsSaid text old new
said_of (Ok x) text old new h = inl h
said_of (Err e) text old new h = inr h.refused
