use Rattle.std.proofs.Common.{◌≡◌, ◌<◌, ℕ, List, length, get_or, arith, sym, inl, inr}
use Rattle.std.specs.List.{Contains}
use Rattle.std.proofs.lemmas.List.{get_or_default}
use Rattle.stop_labels.proofs.Listed.{seen_all}
use Rattle.rounds.proofs.NotedSteps.{cleared_more}
use Rattle.rounds.proofs.noted.clear.Goals as goal

-- a line of the list is one of the lines
inside : (listed : List ℕ) (many n : ℕ) → ((l : ℕ) → Contains listed l → l < many) → n < length listed → get_or listed n 0 < many
inside listed many n known lt = known (get_or listed n 0) (n, lt, sym (get_or_default listed n 0 (get_or listed n 0) lt))

pub bounds-earliest-line : goal.bounds-earliest-line
bounds-earliest-line c =
    let within = inside c.args.listed.now (length c.args.earliest.now) c.loop-line.line-index c.requires c.loop-line-test.true in
    omega (arith, within)

pub loop-line-preserved : goal.loop-line-preserved
loop-line-preserved c =
    let listed = c.args.listed.now in
    let n = c.loop-line.line-index in
    let line = get_or listed n 0 in
    let is : line ≡ get_or listed n line = get_or_default listed n 0 line c.loop-line-test.true in
    let within = inside listed (length c.args.earliest.now) n c.requires c.loop-line-test.true in
    cleared_more listed c.args.earliest.now c.loop-line.earliest n line c.loop-line-test.true is (omega (arith, within)) c.loop-line.invariant

pub returns : goal.returns
returns c = λ l. elim (c.loop-line.invariant l) [
  | inl done ↦ inl done
  | inr rest ↦ inr (λ has. rest.0 (seen_all c.args.listed.now c.loop-line.line-index l (omega arith) has), rest.1)
]
