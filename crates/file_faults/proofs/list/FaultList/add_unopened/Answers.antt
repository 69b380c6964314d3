use Rattle.std.proofs.Common.{◌∙◌, sym, inl, inr}
use Rattle.file_faults.proofs.ListFacts.{explained-is, on-ok-then}
use Rattle.file_faults.proofs.list.FaultList.add_unopened.Goals as goal

pub returns-then-is_unread : goal.returns-then-is_unread
returns-then-is_unread c = λ first why. on-ok-then c.add_unread.result c.add_unread.ensures (λ unread. inl unread)

pub returns : goal.returns
returns c = λ first why.
    let f = c.args.fault in
    let is = explained-is f.kind first f (sym c.is_memory.ensures ∙ c.if-is_memory.false) (sym c.is_unread.ensures ∙ c.if-is_unread.false) why in
    on-ok-then c.keep.result c.keep.ensures (λ added. inr (is, added))
