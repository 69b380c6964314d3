-- The words of a question, and which fault of its days and times is reported.
use Rattle.std.specs.Prelude.{◌≡◌, ℕ, List, Option, None, Some, IfSome, codes, ◌⊎◌}
use Rattle.jiff_core.specs.declared.civil.date.Date.{Date}
use Rattle.clap.specs.Words.{Row, Text}
use Rattle.options.specs.Values.{HasText}
use Rattle.questions.specs.declared.question.Question.{Question}
use Rattle.option_words.specs.Days.{HasTime, IsNamedDay, HasNoDate, HasNoTime}
use Rattle.option_words.specs.WithinWords.{IsNextOf, IsWithinOf, NamesUntil}
use Rattle.option_words.specs.declared.question.Places.{Places}
use Rattle.option_words.specs.declared.word_fault.WordFault.{WordFault}
use Rattle.option_words.specs.declared.word_fault.WordFault.TheVariants as faults

-- The words of a question, of which the option `start` names the place to leave from and `goal` that to go to, whatever days and times they
-- say. A number of connections is in its range, and a day of the last time is named only beside that time.
pub record HasPlaces (start goal : Text) (rows : List Row) (question : Question) : Type 0 where
  pub from : HasText rows start question.from.now
  pub to : HasText rows goal question.to.now
  pub at : (text : Text) × HasText rows (codes "at") text
  pub next : (number : Option ℕ) × IsNextOf rows number
  pub until : NamesUntil rows

-- the day to leave on: the first covered one, if no other is named, which only `ask` takes
abbrev pub IsDayOf : List Row → Date → Date → Type 0
IsDayOf rows first day = IsNamedDay rows (codes "on") first day

-- the day and the times of a question, if one is asked
abbrev pub AreTimes : List Row → Date → Option Question → Type 0
AreTimes rows first asked =
    IfSome asked (λ question. IsDayOf rows first question.day × HasTime rows (codes "at") question.seconds
    × IsWithinOf rows question.day question.within)

-- a question is asked
abbrev pub IsAsked : Option Question → Type 0
IsAsked asked = (question : Question) × (asked ≡ Some question)

-- the day to leave on is named, and is none
abbrev pub LacksDay : List Row → Type 0
LacksDay rows = HasNoDate rows (codes "on")

-- there is a day to leave on, and the day of the last time is none
abbrev pub LacksLastDay : List Row → Date → Type 0
LacksLastDay rows first = ((day : Date) × IsDayOf rows first day) × HasNoDate rows (codes "until-on")

-- there are both days
pub record HasDays (rows : List Row) (first : Date) : Type 0 where
  pub day : Date
  pub last : Date
  pub is_day : IsDayOf rows first day
  pub is_last : IsNamedDay rows (codes "until-on") day last

-- there are both days, and the time to leave at is none
abbrev pub LacksTime : List Row → Date → Type 0
LacksTime rows first = HasDays rows first × HasNoTime rows (codes "at")

-- there are both days and that time, and the last time to leave at is none
abbrev pub LacksUntil : List Row → Date → Type 0
LacksUntil rows first = (HasDays rows first × ((seconds : ℕ) × HasTime rows (codes "at") seconds)) × HasNoTime rows (codes "until")

-- the texts of a question's words, of which the option `start` names the place to leave from and `goal` that to go to
pub record ArePlaces (start goal : Text) (rows : List Row) (places : Places) : Type 0 where
  pub from : HasText rows start places.from.now
  pub to : HasText rows goal places.to.now
  pub at : HasText rows (codes "at") places.at.now
  pub next : IsNextOf rows places.next
  pub until : NamesUntil rows

abbrev pub LacksPlaces : Text → Text → List Row → Type 0
LacksPlaces start goal rows = (question : Question) → ¬ HasPlaces start goal rows question

-- the day to leave on, if the first covered day is one
abbrev pub IsDayIn : List Row → Option Date → Date → Type 0
IsDayIn rows first day = (one : Date) × (first ≡ Some one) × IsDayOf rows one day

abbrev pub LacksDayIn : List Row → Option Date → Type 0
LacksDayIn rows first = (first ≡ None) ⊎ (((one : Date) × (first ≡ Some one)) × LacksDay rows)

abbrev pub LacksLastDayIn : List Row → Option Date → Type 0
LacksLastDayIn rows first = (one : Date) × (first ≡ Some one) × LacksLastDay rows one

abbrev pub LacksTimeIn : List Row → Option Date → Type 0
LacksTimeIn rows first = (one : Date) × (first ≡ Some one) × LacksTime rows one

abbrev pub LacksUntilIn : List Row → Option Date → Type 0
LacksUntilIn rows first = (one : Date) × (first ≡ Some one) × LacksUntil rows one

-- the day and the times of a question, if the first covered day is one
abbrev pub AreTimesIn : List Row → Option Date → Option Question → Type 0
AreTimesIn rows first asked = (one : Date) → first ≡ Some one → AreTimes rows one asked

-- one of the days of a question is none, or one of its times
abbrev pub LacksTimes : List Row → Option Date → WordFault → Type 0
LacksTimes rows first faults.NoJob = ⊥
LacksTimes rows first faults.BadDate = LacksDayIn rows first
LacksTimes rows first faults.BadLastDay = LacksLastDayIn rows first
LacksTimes rows first faults.BadTime = LacksTimeIn rows first
LacksTimes rows first faults.BadUntil = LacksUntilIn rows first

-- the words give none of these; or they give one that asks a question, but for one of its days or times
abbrev pub IsFaultOf : {X : Type 0} → (X → Type 0) → (X → Option Question) → List Row → Option Date → WordFault → Type 0
IsFaultOf {X} Is asked rows first faults.NoJob = (x : X) → ¬ Is x
IsFaultOf {X} Is asked rows first faults.BadDate = (x : X) × Is x × IsAsked (asked x) × LacksDayIn rows first
IsFaultOf {X} Is asked rows first faults.BadLastDay = (x : X) × Is x × IsAsked (asked x) × LacksLastDayIn rows first
IsFaultOf {X} Is asked rows first faults.BadTime = (x : X) × Is x × IsAsked (asked x) × LacksTimeIn rows first
IsFaultOf {X} Is asked rows first faults.BadUntil = (x : X) × Is x × IsAsked (asked x) × LacksUntilIn rows first
