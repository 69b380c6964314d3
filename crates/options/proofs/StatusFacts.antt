-- The statuses of words at fault.
use Rattle.std.proofs.Common.{◌≡◌, ap, ◌⊎◌, inl, inr, refl}
use Rattle.clap.specs.declared.error.Error.{Error}
use Rattle.clap.specs.Words.{Kinds, HasKind, kind_of}
use Rattle.options.specs.Statuses.{IsFaultStatus, kind_status}

-- the status of an error is that of a fault of the words, unless memory ran out
pub is_status : (kinds : Kinds) (e : Error) → HasKind kinds e → (kind_status (kind_of e) ≡ 7) ⊎ IsFaultStatus kinds (kind_status (kind_of e))
is_status kinds e (inl memory) = inl (ap kind_status memory)
is_status kinds e (inr among) = inr (kind_of e, among, refl)
