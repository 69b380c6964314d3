-- What a file is, by its first bytes.
use Rattle.std.proofs.Common.{◌≡◌, ◌≢◌, ◌⊎◌, ⊎_elim, inl, inr, ℕ, ◌<◌, List, [], ◌∷◌, length, take, get_or, sym, ◌∙◌, arith}
use Rattle.section_store.specs.Beginnings.{CanBegin}
use Rattle.section_store.specs.Sections.{Form, IsFresh, open_gate}
use Rattle.section_store.proofs.FirstBytes.{head_gate, head_long, head_name}
use Rattle.file_kinds.specs.Kinds.{CanOpen, IsNamedAfterGate}

fresh_by_length : (read : List ℕ) → length read < 15 → IsFresh read
fresh_by_length [] short = tt
fresh_by_length (gate ∷ bytes) short = inl (omega (arith, short))

fresh_by_gate : (read : List ℕ) → get_or read 0 0 ≢ open_gate → IsFresh read
fresh_by_gate [] closed = tt
fresh_by_gate (gate ∷ bytes) closed = inr closed

module _ (read head : List ℕ) (is : head ≡ take 15 read) where
  fresh_by : (length head < 15) ⊎ (get_or head 0 0 ≢ open_gate) → IsFresh read
  fresh_by shut =
      ⊎_elim
      (λ short. fresh_by_length read (omega (arith, short, head_long read head is)))
      (λ closed. fresh_by_gate read (λ at_open. closed (head_gate read head is ∙ at_open)))
      shut

  -- a fresh file in which no store may be begun is none in which one may be opened
  pub kept_out : (form : Form) → (length head < 15) ⊎ (get_or head 0 0 ≢ open_gate) → (CanBegin form read → ⊥) → CanOpen form read → ⊥
  kept_out form shut none can =
      ⊎_elim none (λ old. old (fresh_by shut)) can

  pub named_read : IsNamedAfterGate head → IsNamedAfterGate read
  named_read h = (sym (head_name read head is) ∙ h.0, λ at_open. h.1 (head_gate read head is ∙ at_open))

  pub named_head : IsNamedAfterGate read → IsNamedAfterGate head
  named_head h = (head_name read head is ∙ h.0, λ at_open. h.1 (sym (head_gate read head is) ∙ at_open))
