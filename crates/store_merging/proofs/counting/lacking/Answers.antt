use Rattle.std.proofs.Common.{rules, ◌≡◌, ◌++◌, [], ◌∷◌, ℕ, sym, ◌∙◌, ap}
use Rattle.stop_parts.specs.Parts.{whole}
use Rattle.precomputing.specs.Missing.{is_missing, missing_of}
use Rattle.precomputing.proofs.MissingFacts.{missing_more, missing_same}
use Rattle.store_merging.proofs.counting.lacking.Goals as goal
use Rattle.store_merging.proofs.counting.lacking.Goals.{then-lacks+in_ok-push, else-lacks}

pub loop-number-preserved : goal.loop-number-preserved
loop-number-preserved g c =
    let n : ℕ = c.loop-number.number in
    let stored = c.args.store.now.stored in
    let was : c.loop-number.lacking.items ≡ missing_of whole n stored = c.loop-number.invariant in
    let stop : c.new-stop.result ≡ n = c.new-stop.ensures in
    let told : c.lacks.result ≡ is_missing whole stored n = c.lacks.ensures ∙ ap (is_missing whole stored) stop in
    elim c.if-lacks.branch [
      | then-lacks+in_ok-push w ↦
          let pushed : w.push.new.self.items ≡ c.loop-number.lacking.items ++ c.new-stop.result ∷ [] = search rules in
          let more = missing_more whole stored n (sym told ∙ w.if-lacks.true) in
          let at_stop : missing_of whole n stored ++ c.new-stop.result ∷ [] ≡ missing_of whole n stored ++ n ∷ [] =
          ap (λ (s : ℕ). missing_of whole n stored ++ s ∷ []) stop in
          let now = w.lacking-is in
          cc
      | else-lacks w ↦
          let more = missing_same whole stored n (sym told ∙ w.if-lacks.false) in
          let now = w.lacking-is in
          cc
    ]
