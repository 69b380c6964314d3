use Rattle.std.proofs.Common.{◌≡◌, ◌∙◌, ap, refl, arith, ℕ, ◌<◌, ◌≤◌, true, false, List, length, take, drop, get_or}
use Rattle.std.specs.Prelude.{nat_eq, nat_le}
use Rattle.std.proofs.Math.Nat.{min_comm}
use Rattle.std.proofs.lemmas.Bool.{le-leb, leb-true, ne_eqb}
use Rattle.gtfs_text.specs.Packed.{behind_length, first_length, is_long, long_length}
use Rattle.gtfs_text.proofs.TestFacts.{and_false}
use Rattle.gtfs_text.proofs.DigitFacts.{drop_some, take_some}
use Rattle.gtfs_text.proofs.packed.split_field.Goals as goal
use Rattle.gtfs_text.proofs.packed.split_field.Goals.{then-packed+then-packed-ge9, else-packed, else-packed-via-then-packed+else-packed-ge9, else-packed-via-else-packed}

long-is : (packed : List ℕ) → get_or packed 0 0 ≡ 255 → 9 ≤ length packed → is_long packed ≡ true
long-is packed first long = rw (first, le-leb 9 (length packed) long) refl

too_short : (packed : List ℕ) → length packed < 9 → is_long packed ≡ false
too_short packed short =
    elim (nat_le 9 (length packed)) as (λ t. nat_le 9 (length packed) ≡ t → is_long packed ≡ false) [
      | true ↦ λ e. absurd (omega (arith, leb-true 9 (length packed) e))
      | false ↦ λ e. rw e (and_false (nat_eq (get_or packed 0 0) 255))
    ] refl

other_byte : (packed : List ℕ) → (get_or packed 0 0 ≡ 255 → ⊥) → is_long packed ≡ false
other_byte packed other = rw (ne_eqb (get_or packed 0 0) 255 other) refl

-- a length and what stands behind it are those of a packed record
record IsSplit (packed : List ℕ) (size : ℕ) (rest : List ℕ) : Type 0 where
  first : size ≡ first_length packed
  behind : rest ≡ behind_length packed

by_long : (packed rest : List ℕ) (size : ℕ) → is_long packed ≡ true → size ≡ long_length packed → rest ≡ drop 9 packed → IsSplit packed size rest
by_long packed rest size long first behind = record { first = rw long first; behind = rw long behind }

by_short : (packed rest : List ℕ) (size : ℕ) → is_long packed ≡ false → size ≡ get_or packed 0 0 → rest ≡ drop 1 packed → IsSplit packed size rest
by_short packed rest size short first behind = record { first = rw short first; behind = rw short behind }

split : (c : goal.After-split_at-2) → IsSplit c.args.packed.now c.if-packed.size.0 c.if-packed.size.1.now
split c =
    let packed = c.args.packed.now in
    elim c.if-packed.branch [
      | then-packed+then-packed-ge9 w ↦
          rw w.size-is (by_long packed w.split_at.result.1.now w.long_length.result (long-is packed w.if-packed.true w.if-packed-ge9.true) w.long_length.ensures w.split_at.ensures.back)
      | else-packed w ↦
          let short : is_long packed ≡ false = elim w.else-packed.branch [
            | else-packed-via-then-packed+else-packed-ge9 v ↦ too_short packed v.if-packed-ge9.false
            | else-packed-via-else-packed v ↦ other_byte packed v.if-packed.false
          ] in
          rw w.size-is (by_short packed w.split_at-else-packed.result.1.now (get_or packed 0 0) short refl w.split_at-else-packed.ensures.back)
    ]

pub returns-clause-field : goal.returns-clause-field
returns-clause-field c =
    let is = split c in
    let size = c.if-packed.size.0 in
    let rest = c.if-packed.size.1.now in
    c.split_at-2.ensures.front ∙ ap (λ (n : ℕ). take n rest) (c.min.ensures ∙ min_comm size (length rest)) ∙ take_some size rest
    ∙ ap (λ (n : ℕ). take n rest) is.first ∙ ap (λ (xs : List ℕ). take (first_length c.args.packed.now) xs) is.behind

pub returns-clause-rest : goal.returns-clause-rest
returns-clause-rest c =
    let is = split c in
    let size = c.if-packed.size.0 in
    let rest = c.if-packed.size.1.now in
    c.split_at-2.ensures.back ∙ ap (λ (n : ℕ). drop n rest) (c.min.ensures ∙ min_comm size (length rest)) ∙ drop_some size rest
    ∙ ap (λ (n : ℕ). drop n rest) is.first ∙ ap (λ (xs : List ℕ). drop (first_length c.args.packed.now) xs) is.behind
