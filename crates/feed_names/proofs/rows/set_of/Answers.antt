use Rattle.std.proofs.Common.{◌∙◌, sym, ap, ℕ, List, ◌||◌, Bool, get_or, []}
use Rattle.std.specs.Str.{bytes_eq}
use Rattle.std.proofs.lemmas.List.Folds.{list_any_more}
use Rattle.feed_names.proofs.RowFacts.{joined}
use Rattle.feed_names.proofs.rows.set_of.Goals as goal
use denote.Ref.{Bor}

pub loop-id-preserved : goal.loop-id-preserved
loop-id-preserved c = λ q.
    let ids : List (Bor (List ℕ)) = c.args.ids.now in
    let n = c.loop-id.id-index in
    let none : Bor (List ℕ) = record { ref_ptr = (0, 0); now = [] } in
    let key : Bor (List ℕ) = get_or ids n none in
    joined key c.loop-id.set c.insert.new.self c.in_ok-insert.ensures.updates q
    ∙ ap (λ (b : Bool). b || bytes_eq q key.now) (c.loop-id.invariant q)
    ∙ sym (list_any_more (λ (other : Bor (List ℕ)). bytes_eq q other.now) ids n none c.loop-id-test.true)
