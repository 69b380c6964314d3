-- A fault of a part of the words is one of the whole.
use Rattle.std.proofs.Common.{◌≡◌, ◌∙◌, List, Option, Some}
use Rattle.jiff_core.specs.declared.civil.date.Date.{Date}
use Rattle.clap.specs.Words.{Row, Text}
use Rattle.questions.specs.declared.question.Question.{Question}
use Rattle.option_words.specs.Questions.{HasPlaces}
use Rattle.option_words.specs.Questions.{IsAsked}
use Rattle.option_words.specs.Questions.{ArePlaces, IsFaultOf, LacksTimes}
use Rattle.option_words.specs.declared.question.Places.{Places}
use Rattle.option_words.specs.declared.word_fault.WordFault.{WordFault}
use Rattle.option_words.specs.declared.word_fault.WordFault.TheVariants as faults
use Rattle.option_words.proofs.DayFacts.{asked_on, has_places, some_day}

-- what `whole` makes of a part asks what the part asks, and the words give no whole without a part
module _ {X Y : Type 0} (IsPart : X → Type 0) (asked : X → Option Question) (Is : Y → Type 0) (asks : Y → Option Question) (whole : X → Y)
    (of : (x : X) → IsPart x → Is (whole x)) (same : (x : X) → asks (whole x) ≡ asked x) (back : (y : Y) → Is y → (x : X) × IsPart x)
    (rows : List Row) (first : Option Date) where
  asks_too : (x : X) → IsAsked (asked x) → IsAsked (asks (whole x))
  asks_too x is = (is.0, same x ∙ is.1)

  pub of_part : (fault : WordFault) → IsFaultOf IsPart asked rows first fault → IsFaultOf Is asks rows first fault
  of_part faults.NoJob none = λ y is. let part = back y is in none part.0 part.1
  of_part faults.BadDate bad = (whole bad.0, of bad.0 bad.1, asks_too bad.0 bad.2, bad.3)
  of_part faults.BadLastDay bad = (whole bad.0, of bad.0 bad.1, asks_too bad.0 bad.2, bad.3)
  of_part faults.BadTime bad = (whole bad.0, of bad.0 bad.1, asks_too bad.0 bad.2, bad.3)
  of_part faults.BadUntil bad = (whole bad.0, of bad.0 bad.1, asks_too bad.0 bad.2, bad.3)

-- the words of these texts give what `whole` makes of their question, whatever its day and time
pub of_question : {Y : Type 0} (Is : Y → Type 0) (asks : Y → Option Question) (whole : Question → Y) (start goal : Text) (rows : List Row)
    (first : Option Date) (places : Places) → ArePlaces start goal rows places → ((question : Question) → HasPlaces start goal rows question → Is (whole question))
    → ((question : Question) → asks (whole question) ≡ Some question) → (fault : WordFault) → LacksTimes rows first fault
    → IsFaultOf Is asks rows first fault
of_question Is asks whole start goal rows first places are of same faults.NoJob lacks = absurd lacks
of_question Is asks whole start goal rows first places are of same faults.BadDate lacks =
    let question = asked_on places some_day in (whole question, of question (has_places start goal rows places some_day are), (question, same question), lacks)
of_question Is asks whole start goal rows first places are of same faults.BadLastDay lacks =
    let question = asked_on places some_day in (whole question, of question (has_places start goal rows places some_day are), (question, same question), lacks)
of_question Is asks whole start goal rows first places are of same faults.BadTime lacks =
    let question = asked_on places some_day in (whole question, of question (has_places start goal rows places some_day are), (question, same question), lacks)
of_question Is asks whole start goal rows first places are of same faults.BadUntil lacks =
    let question = asked_on places some_day in (whole question, of question (has_places start goal rows places some_day are), (question, same question), lacks)
