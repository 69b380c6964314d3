use Rattle.std.proofs.Common.{◌≡◌, ◌∙◌, ◌≤◌, ◌<◌, ◌-◌, List, Result, Err, rules, arith, take, drop, ap, subst, sym}
use Rattle.std.specs.Result.{IsErrAnd}
use Rattle.std.proofs.lemmas.List.{take_all}
use Rattle.std.proofs.lemmas.List.Elements.{All-drop, All-take}
use Rattle.streams.specs.Streams.{StreamData}
use Rattle.timetable.specs.Table.{stops_of}
use Rattle.told_matrix.specs.Batches.{HasLines, HasLinesCut}
use Rattle.told_matrix.specs.declared.place.Place.{Place}
use Rattle.told_matrix.proofs.BatchFacts.{batch_more, cut_more, has_more, none_yet}
use Rattle.told_matrix.proofs.batches.print_batches.Goals as goal

-- the fault of a call is that of its caller
err_is : {T E : Type 0} (r : Result T E) (of fault : E) → IsErrAnd r (λ e. e ≡ of) → r ≡ Err fault → of ≡ fault
err_is {T} {E} r of fault given is = sym (subst (λ (q : Result T E). IsErrAnd q (λ e. e ≡ of)) is given)

pub returns-in_err-stops-clause-memory : goal.returns-in_err-stops-clause-memory
returns-in_err-stops-clause-memory g c = λ is. (0, none_yet c.args.window.now c.args.goals.now c.args.out.now)

pub print_batch-requires-clause-known : goal.print_batch-requires-clause-known
print_batch-requires-clause-known g c κs within =
    let Known = λ (place : Place). place.stop < stops_of c.args.window.now.table.now in
    let origins = c.args.origins.now in
    let done = c.batches.done in
    All-take Known (c.min-end.result - done) (drop done origins) (All-drop Known done origins c.requires.known)

pub returns-in_err-print_batch-clause-refused : goal.returns-in_err-print_batch-clause-refused
returns-in_err-print_batch-clause-refused g c = λ is.
    let w = c.args.window.now in
    let origins = c.args.origins.now in
    let goals = c.args.goals.now in
    let done = c.batches.done in
    let end = c.min-end.result in
    let le : done ≤ end = (let least = c.min-end.ensures in let more = c.saturating_add.ensures in let lt = c.batches-test.true in omega (arith, least, more, lt)) in
    let fault = c.in_err-print_batch.field-0.0 in
    let same = err_is c.from_residual-in_err-print_batch.result fault _ c.from_residual-in_err-print_batch.ensures.1 is in
    let cut = c.print_batch.ensures.refused (c.in_err-print_batch.was ∙ ap (λ e. Err e) same) in (
      end,
      subst (λ (l : List Place). HasLinesCut w l goals c.args.out.now c.print_batch.new.out) (batch_more origins done end le)
          (cut_more w (take done origins) (take (end - done) (drop done origins)) goals c.args.out.now c.batches.out c.print_batch.new.out
          c.batches.invariant.printed cut),
    )

pub returns-in_err-print_batch-clause-memory : goal.returns-in_err-print_batch-clause-memory
returns-in_err-print_batch-clause-memory g c = λ is.
    let done = c.batches.done in
    let fault = c.in_err-print_batch.field-0.0 in
    let same = err_is c.from_residual-in_err-print_batch.result fault _ c.from_residual-in_err-print_batch.ensures.1 is in
    let nothing = c.print_batch.ensures.memory (c.in_err-print_batch.was ∙ ap (λ e. Err e) same) in (
      done,
      subst (λ (new : StreamData). HasLines c.args.window.now (take done c.args.origins.now) c.args.goals.now c.args.out.now new) (sym nothing)
          c.batches.invariant.printed,
    )

pub batches-preserved : goal.batches-preserved
batches-preserved g c =
    let w = c.args.window.now in
    let origins = c.args.origins.now in
    let goals = c.args.goals.now in
    let done = c.batches.done in
    let end = c.min-end.result in
    let le : done ≤ end = (let least = c.min-end.ensures in let more = c.saturating_add.ensures in let lt = c.batches-test.true in omega (arith, least, more, lt)) in
    record {
      bound = search rules;
      printed = subst (λ (l : List Place). HasLines w l goals c.args.out.now c.print_batch.new.out) (batch_more origins done end le)
          (has_more w (take done origins) (take (end - done) (drop done origins)) goals c.args.out.now c.batches.out c.print_batch.new.out
          c.batches.invariant.printed c.in_ok-print_batch.ensures.whole);
    }

pub returns-clause-whole : goal.returns-clause-whole
returns-clause-whole g c =
    subst (λ (l : List Place). HasLines c.args.window.now l c.args.goals.now c.args.out.now c.batches.out)
    (take_all c.batches.done c.args.origins.now c.batches-test.false) c.batches.invariant.printed
