-- When one may leave, and how many connections are reported.
use Rattle.std.specs.Prelude.{◌≡◌, ℕ, Option, None, Some}
use Rattle.feed_basis.specs.Basis.{BasisData}
use Rattle.questions.specs.declared.question.Question.{Question}
use Rattle.questions.specs.declared.question.Until.{Until}
use Rattle.questions.specs.declared.question.Within.{Within}
use Rattle.service_days.specs.Answers.{IsMoment}
use Rattle.told_connections.specs.declared.times.Times.{Times}

-- the moment of the last time to leave at: without one it is the last covered moment
abbrev pub IsLastMoment : BasisData → Option Until → Option ℕ → Type 0
IsLastMoment basis None moment = moment ≡ Some basis.timetable.horizon
IsLastMoment basis (Some last) moment = IsMoment basis.cover last.day last.seconds moment

-- the times of a question that asks for these connections
pub record AreTimesOf (basis : BasisData) (question : Question) (within : Within) (times : Times) : Type 0 where
  pub moment : IsMoment basis.cover question.day question.seconds times.moment
  pub until : IsLastMoment basis within.until times.until
  pub next : times.next ≡ within.next
