-- What a search over the timetable may find, or which fault it has.
use Rattle.std.specs.Prelude.{◌≡◌, ℕ, Bool, List, Option, None, Some, Result, MatchResult}
use Rattle.questions.specs.declared.question.Question.{Question}
use Rattle.questions.specs.declared.question.Within.{Within}
use Rattle.faults.specs.declared.fault.Fault.{Fault}
use Rattle.feed_basis.specs.Basis.{BasisData}
use Rattle.feed_basis.specs.Ids.{stop_alone}
use Rattle.answer_lines.specs.declared.answer.Answer.{Answer}
use Rattle.answer_lines.specs.declared.report.Report.{Report}
use Rattle.answering.specs.Answers.{ArePoints, IsAnswered}
use Rattle.answering.specs.Refusals.{IsUnanswered, NoneMissing}
use Rattle.connection_lines.specs.declared.connections.Connections.{Connections}
use Rattle.told_reach.specs.Reaches.{IsReach, IsUnreached, ReportsReach}
use Rattle.told_reach.specs.Times.{AreTimes, IsUntimed, ReportsTimes}
use Rattle.told_connections.specs.Times.{AreTimesOf}
use Rattle.told_connections.specs.Windows.{IsAnsweredWithin, IsUnansweredWithin}
use Rattle.told_connections.specs.declared.times.Times.{Times}
use Rattle.service_days.specs.Answers.{IsMoment}
use Rattle.feed_commands.specs.declared.found.Found.{Found}
use Rattle.feed_commands.specs.declared.found.Found.TheVariants as founds

-- an answer to a question is found, which is right
abbrev pub FindsAnswer : (Answer → Type 0) → Found → Type 0
FindsAnswer Right found =
    (question : Question) × (answer : Answer) × (found ≡ founds.Answer question answer) × Right answer

-- connections are found, which are right
abbrev pub FindsConnections : (Connections → Type 0) → Found → Type 0
FindsConnections Right found =
    (question : Question) × (connections : Connections) × (found ≡ founds.Connections question connections) × Right connections

-- a report is found, which is right
abbrev pub FindsReport : (Report → Type 0) → Found → Type 0
FindsReport Right found = (report : Report) × (found ≡ founds.Report report) × Right report

-- a question between stops, over only the timetable
abbrev pub IsStopAnswer : BasisData → Question → (List ℕ → List ℕ → ℕ → Answer → Type 0) → Result Found Fault → Type 0
IsStopAnswer basis question Right found =
    (moment : Option ℕ) × IsMoment basis.cover question.day question.seconds moment
    × MatchResult found (FindsAnswer (IsAnswered (stop_alone basis.names) Right basis.timetable moment question))
    (IsUnanswered (stop_alone basis.names) NoneMissing basis.timetable moment question)

-- a question between stops for connections, over only the timetable
abbrev pub IsWindowAnswer : BasisData → ℕ → Bool → Question → Within → Result Found Fault → Type 0
IsWindowAnswer basis k wanted question within found =
    (times : Times) × AreTimesOf basis question within times
    × MatchResult found (FindsConnections (IsAnsweredWithin basis k wanted times question)) (IsUnansweredWithin basis times question)

-- by rounds: the best arrivals, or the connections if these are asked for
abbrev pub IsScanned : BasisData → ℕ → Bool → Question → Option Within → Result Found Fault → Type 0
IsScanned basis k wanted question None found = IsStopAnswer basis question (ArePoints basis k wanted) found
IsScanned basis k wanted question (Some within) found = IsWindowAnswer basis k wanted question within found

-- where one can be: the stops that one reaches from the question's first place; or how long one is on the way to them, if the question asks
-- for a window
abbrev pub IsReachFound : BasisData → ℕ → Question → Option ℕ → Option Within → Result Found Fault → Type 0
IsReachFound basis k question minutes None found =
    (moment : Option ℕ) × IsMoment basis.cover question.day question.seconds moment
    × MatchResult found (FindsReport (ReportsReach (IsReach basis k question.from.now moment minutes)))
    (IsUnreached basis question.from.now moment)
IsReachFound basis k question minutes (Some within) found =
    (times : Times) × AreTimesOf basis question within times
    × MatchResult found (FindsReport (ReportsTimes (AreTimes basis k question.from.now times.moment times.until minutes)))
    (IsUntimed basis question.from.now times.moment times.until)
