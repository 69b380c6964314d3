use Rattle.std.proofs.Common.{◌∙◌, ℕ, List, inl, inr, refl, subst, sym}
use Rattle.printing.specs.Finished.{streams_of}
use Rattle.stop_lists.specs.Lists.{IsList}
use Rattle.feed_commands.specs.Matrices.{IsMatrixTold}
use Rattle.feed_commands.proofs.tabling.run_matrix.Goals as goal

pub returns-in-Err : goal.returns-in-Err
returns-in-Err g c = λ from to has_from has_to.
    inl (record { fault = c.in-Err.fault; why = c.in-Err.ensures from has_from; nothing = refl; said = c.say_list_fault.ensures })

pub returns-in-Err-read_file : goal.returns-in-Err-read_file
returns-in-Err-read_file g c = λ from to has_from has_to. inr (inl (
  (c.in-Ok.ensures from has_from).list,
  record {
    fault = c.in-Err-read_file.fault;
    why = c.in-Err-read_file.ensures to has_to;
    nothing = refl;
    said = c.say_list_fault-in-Err-read_file.ensures;
  },
))

pub returns : goal.returns
returns g c = λ from to has_from has_to.
    let first = c.in-Ok.ensures from has_from in
    let second = c.in-Ok-read_file.ensures to has_to in
    let is_first = c.deref.ensures.value ∙ first.same in
    let is_second = c.deref-2.ensures.value ∙ second.same in
    let tabling = c.args.tabling.now in
    let told = λ (a b : List ℕ). IsMatrixTold g.S.Teller.Teller.telling c.args.voice.now tabling.basis.now tabling.rides tabling.question.now a b
    (streams_of c.args.streams.now.out c.args.streams.now.err)
    (streams_of c.print_lists.new.streams.out c.print_lists.new.streams.err) c.print_lists.result in
    subst (λ (b : List ℕ). told from b) is_second
    (subst (λ (a : List ℕ). told a c.deref-2.result.now) is_first
    (c.print_lists.ensures (subst IsList (sym is_first) first.list) (subst IsList (sym is_second) second.list)))
