-- An id can be read back from what is shown of it.
use Rattle.std.proofs.Common.{◌≡◌, ◌<◌, ◌==◌, ◌+◌, ◌*◌, ◌/◌, ◌%◌, ℕ, Bool, true, false, cond, List, [], ◌∷◌, ◌++◌, refl, sym, ◌∙◌, ap, ap₂, arith, inl, inr, tests, rules}
use Rattle.std.proofs.lemmas.Bool.{cases_lt, cond-true, cond-false, eqb-true, lt-ltb, le-ltb, ne_eqb}
use Rattle.std.proofs.lemmas.Str.{digit_value-digit_char}
use Rattle.std.specs.Char.{is_control, digit_char, digit_value}
use Rattle.std.specs.Char.Escape.{escape_unicode}
use Rattle.std.specs.List.{flat_map}
use Rattle.shown_ids.specs.Shown.{shown_char}

head : List ℕ → ℕ
head [] = 0
head (x ∷ xs) = x

tail : List ℕ → List ℕ
tail [] = []
tail (x ∷ xs) = xs

-- how a character is shown: doubled, by one digit, by two digits, or as it is
data Kind (c : ℕ) (l : List ℕ) : Type 0 where
  doubled : c ≡ 92 → l ≡ 92 ∷ 92 ∷ [] → Kind c l
  short : c < 16 → l ≡ 92 ∷ 117 ∷ 123 ∷ digit_char (c / 1 % 16) ∷ 125 ∷ [] → Kind c l
  long : c < 256 → l ≡ 92 ∷ 117 ∷ 123 ∷ digit_char (c / 16 % 16) ∷ digit_char (c / 1 % 16) ∷ 125 ∷ [] → Kind c l
  plain : (c == 92) ≡ false → l ≡ c ∷ [] → Kind c l

small : (c : ℕ) → is_control c ≡ true → c < 256
small c control = search (tests, rules, arith)

kind : (c : ℕ) → Kind c (shown_char c)
unfolding shown_char
kind c = one (c == 92) refl where
  two : (b : Bool) → is_control c ≡ b → (c == 92) ≡ false → Kind c (shown_char c)
  two true e other =
      let escaped : shown_char c ≡ escape_unicode c = cond-false (c == 92) _ _ other ∙ cond-true (is_control c) _ _ e in
      elim (cases_lt c 16) [
        | inl lt ↦ short lt (escaped ∙ cond-true _ _ _ (lt-ltb c 16 lt))
        | inr ge ↦ long (small c e) (escaped ∙ (cond-false _ _ _ (le-ltb c 16 ge) ∙ cond-true _ _ _ (lt-ltb c 256 (small c e))))
      ]
  two false e other = plain other (cond-false (c == 92) _ _ other ∙ cond-false (is_control c) _ _ e)

  one : (b : Bool) → (c == 92) ≡ b → Kind c (shown_char c)
  one true e = doubled (eqb-true c 92 e) (cond-true (c == 92) _ _ e)
  one false e = two (is_control c) refl e

-- the character that is shown first, and what is shown after it
first : List ℕ → ℕ
first l =
    cond (head l == 92)
    (cond (head (tail l) == 92) 92
    (cond (head (tail (tail (tail (tail l)))) == 125) (digit_value (head (tail (tail (tail l)))))
    (16 * digit_value (head (tail (tail (tail l)))) + digit_value (head (tail (tail (tail (tail l))))))))
    (head l)

behind : List ℕ → List ℕ
behind l =
    cond (head l == 92)
    (cond (head (tail l) == 92) (tail (tail l))
    (cond (head (tail (tail (tail (tail l)))) == 125) (tail (tail (tail (tail (tail l)))))
    (tail (tail (tail (tail (tail (tail l))))))))
    (tail l)

-- no digit is a closing brace
unlike : (d : ℕ) → d < 36 → (digit_char d == 125) ≡ false
unlike d lt = ne_eqb (digit_char d) 125 (λ e. let v = sym (digit_value-digit_char d lt) ∙ ap digit_value e in let b : ⊥ = omega (arith, v, lt) in b)

read : (c : ℕ) (l : List ℕ) (rest : List ℕ) → Kind c l → (first (l ++ rest) ≡ c) × (behind (l ++ rest) ≡ rest)
unfolding first head tail behind
read c l rest (doubled e is) = rw is (sym e, refl)
read c l rest (plain e is) = rw is (cond-false (c == 92) _ _ e, cond-false (c == 92) _ _ e)
read c l rest (short lt is) =
    let digit : digit_value (digit_char (c / 1 % 16)) ≡ c = digit_value-digit_char (c / 1 % 16) (omega arith) ∙ omega (arith, lt) in
    rw is (digit, refl)
read c l rest (long lt is) =
    let high : digit_value (digit_char (c / 16 % 16)) ≡ c / 16 % 16 = digit_value-digit_char (c / 16 % 16) (omega arith) in
    let low : digit_value (digit_char (c / 1 % 16)) ≡ c / 1 % 16 = digit_value-digit_char (c / 1 % 16) (omega arith) in
    let brace : (digit_char (c / 1 % 16) == 125) ≡ false = unlike (c / 1 % 16) (omega arith) in
    rw is (cond-false _ _ _ brace ∙ (ap₂ (λ a b. 16 * a + b) high low ∙ omega (arith, lt)), cond-false _ _ _ brace)

shows : (c : ℕ) (rest : List ℕ) → shown_char c ++ rest ≡ [] → ⊥
shows c rest e = go (shown_char c) (kind c) e where
  go : (l : List ℕ) → Kind c l → l ++ rest ≡ [] → ⊥
  go [] (doubled x is) e = cc
  go [] (short x is) e = cc
  go [] (long x is) e = cc
  go [] (plain x is) e = cc
  go (x ∷ xs) k e = cc

pub same_shown : (xs ys : List ℕ) → flat_map shown_char xs ≡ flat_map shown_char ys → xs ≡ ys
same_shown [] [] e = refl
same_shown [] (d ∷ ds) e = absurd (shows d (flat_map shown_char ds) (sym e))
same_shown (c ∷ cs) [] e = absurd (shows c (flat_map shown_char cs) e)
same_shown (c ∷ cs) (d ∷ ds) e =
    let one = read c (shown_char c) (flat_map shown_char cs) (kind c) in
    let other = read d (shown_char d) (flat_map shown_char ds) (kind d) in
    ap₂ (λ x l. x ∷ l) (sym one.0 ∙ (ap first e ∙ other.0)) (same_shown cs ds (sym one.1 ∙ (ap behind e ∙ other.1)))
