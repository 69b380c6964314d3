use Rattle.std.proofs.Common.{◌≡◌, ◌≤◌, ◌==◌, ℕ, Bool, true, false, not, None, Some, cond, length, rules, sym, ◌∙◌, refl, arith}
use borrow.Author.Tests.{tests}
use lib.Dec.{ltb}
use Rattle.std.proofs.lemmas.Bool.{ltb-false}
use Rattle.std.proofs.lemmas.Iterator.{YieldsList-from_slice}
use Rattle.std.proofs.lemmas.Iterator.Search.{position_from_yields_List}
use Rattle.std.proofs.lemmas.List.Sums.{prefix_len-le-length}
use Rattle.std.specs.List.{position_or_len}
use Rattle.question_lines.proofs.reading.line_len.Goals as goal

len_found : (b : Bool) (place len : ℕ) → Some len ≡ cond b (Some place) None → len ≡ place
len_found true place len is = cc
len_found false place len is = absurd cc

none_found : (b : Bool) (place all : ℕ) → ltb place all ≡ b → place ≤ all → None ≡ cond b (Some place) None → all ≡ place
none_found true place all test within is = absurd cc
none_found false place all test within is = let past = ltb-false place all test in omega arith

pub returns-in-Some-clause-len : goal.returns-in-Some-clause-len
returns-in-Some-clause-len c =
    let bytes = c.args.bytes.now in
    let place = position_or_len (λ b. b == 10) bytes in
    let found = position_from_yields_List (λ b. b == 10) _ _ _ c.position.ensures.ran (YieldsList-from_slice bytes cc) (λ x b q k. search (rules, tests)) in
    len_found (ltb place (length bytes)) place c.in-Some.len (sym c.in-Some.is ∙ found)

pub returns-in-None-clause-len : goal.returns-in-None-clause-len
returns-in-None-clause-len c =
    let bytes = c.args.bytes.now in
    let place = position_or_len (λ b. b == 10) bytes in
    let found = position_from_yields_List (λ b. b == 10) _ _ _ c.position.ensures.ran (YieldsList-from_slice bytes cc) (λ x b q k. search (rules, tests)) in
    none_found (ltb place (length bytes)) place (length bytes) refl (prefix_len-le-length (λ b. not (b == 10)) bytes) (sym c.in-None.is ∙ found)
