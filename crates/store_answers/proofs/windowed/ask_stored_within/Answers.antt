use Rattle.std.proofs.Common.{subst, sym, inl, inr}
use Rattle.pattern_query.specs.Questions.{tree_at}
use Rattle.told_connections.specs.Windows.{IsAskedWithin, IsUnaskedWithin}
use Rattle.store_answers.specs.Windowed.{IsStoredWindow, IsStoredRefusalWithin}
use Rattle.store_terms.specs.Stores.{OnlyFailing}
use Rattle.store_answers.specs.Opened.{Shows}
use Rattle.store_answers.proofs.WindowFacts.{stored_window, unasked_fails, unasked_from}
use Rattle.store_terms.proofs.OpeningFacts.{either, memory_fails, of_refusal}
use Rattle.faults.specs.declared.fault.Fault.TheVariants as faults
use Rattle.store_answers.proofs.windowed.ask_stored_within.Goals.{in-Ok-network, in-Err-network}
use Rattle.store_answers.proofs.windowed.ask_stored_within.Goals as goal

pub returns-in-Err-clause-answered : goal.returns-in-Err-clause-answered
returns-in-Err-clause-answered g c = λ honest. inl (c.in-Err.ensures.opened honest)

pub returns-clause-answered : goal.returns-clause-answered
returns-clause-answered g c = λ honest.
    let basis = c.args.basis.now in
    let k = c.args.rides in
    let question = c.args.question.now in
    let times = c.args.times in
    let old = g.D.Disk.state c.args.disk in
    let new = g.D.Disk.state c.into_disk.result in
    let excerpt = c.in-Ok.excerpt in
    let is : Shows basis k old new question excerpt.stored excerpt.board =
    subst (λ d. Shows basis k old (g.D.Disk.state d) question excerpt.stored excerpt.board) (sym c.into_disk.ensures) (c.in-Ok.ensures.opened honest) in
    elim c.match-network.branch [
      | in-Ok-network w ↦ rw w.answer-is (either w.ask_within-answer.result
          (IsAskedWithin basis (tree_at excerpt.board) c.args.legs times question)
          (IsStoredWindow basis k times question c.args.legs old new)
          (IsUnaskedWithin basis (tree_at excerpt.board) times question)
          (IsStoredRefusalWithin basis k times question old new)
          (λ shown right. stored_window basis k old new question excerpt.stored excerpt.board is times c.args.legs shown c.whole_is_complete.ensures right)
          (λ fault refused. inr (unasked_from basis k old new question excerpt.stored excerpt.board is times fault refused))
          w.ask_within-answer.ensures.answer w.ask_within-answer.ensures.refusal)
      | in-Err-network w ↦ rw w.answer-is (inr (unasked_from basis k old new question excerpt.stored excerpt.board is times faults.Memory (inl tt)))
    ]

pub returns-in-Err-clause-device : goal.returns-in-Err-clause-device
returns-in-Err-clause-device g c = c.in-Err.ensures.device

pub returns-clause-device : goal.returns-clause-device
returns-clause-device g c =
    let basis = c.args.basis.now in
    let board = c.in-Ok.excerpt.board in
    let times = c.args.times in
    let question = c.args.question.now in
    elim c.match-network.branch [
      | in-Ok-network w ↦ rw w.answer-is (of_refusal w.ask_within-answer.result (IsUnaskedWithin basis (tree_at board) times question)
          (OnlyFailing (g.D.Disk.failures c.args.disk) (g.D.Disk.failures c.into_disk.result))
          (λ fault. unasked_fails basis board times question fault
          (g.D.Disk.failures c.args.disk) (g.D.Disk.failures c.into_disk.result)) w.ask_within-answer.ensures.refusal)
      | in-Err-network w ↦ rw w.answer-is (memory_fails (g.D.Disk.failures c.args.disk) (g.D.Disk.failures c.into_disk.result))
    ]
