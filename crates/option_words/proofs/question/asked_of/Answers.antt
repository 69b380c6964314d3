use Rattle.std.proofs.Common.{Some, refl}
use Rattle.std.proofs.lemmas.Result.{IfErr-weaker}
use Rattle.clap.specs.Words.{rows_of, found_of}
use Rattle.option_words.specs.Questions.{HasPlaces}
use Rattle.option_words.proofs.FaultFacts.{of_question}
use Rattle.option_words.proofs.question.asked_of.Goals as goal

pub returns-in-Some-clause-places : goal.returns-in-Some-clause-places
returns-in-Some-clause-places c = c.question_of.ensures.places c.args.start.now c.args.goal.now c.in-Some.ensures.places

pub returns-in-Some-clause-fault : goal.returns-in-Some-clause-fault
returns-in-Some-clause-fault c =
    let rows = rows_of (found_of c.args.found.now) in
    IfErr-weaker c.question_of.result _ _ (λ fault lacks.
    of_question (HasPlaces c.args.start.now c.args.goal.now rows) Some (λ question. question) c.args.start.now c.args.goal.now rows c.args.first
    c.in-Some.places c.in-Some.ensures.places (λ question is. is) (λ question. refl) fault lacks) c.question_of.ensures.fault
