-- What is replied to a line.
use Rattle.std.specs.Prelude.{◌≡◌, ◌⊎◌, ℕ, Bool, List, Option, None, Some, Result, Ok, Err}
use Rattle.std.specs.List.{All, AllZip}
use Rattle.std.specs.Option.{unwrap_or}
use Rattle.service_days.specs.Answers.{IsMoment}
use Rattle.service_days.specs.Cover.{CoverDays}
use Rattle.pattern_query.specs.Answer.{PointData}
use Rattle.board.specs.Ties.{BoardPart}
use Rattle.section_store.specs.Lasting.{IsExact}
use Rattle.pattern_query.specs.Questions.{AreComplete}
use Rattle.planner.specs.Asking.{AreBestBetween, IsAnswered, IsLook, IsUnanswered, held_by}
use Rattle.planner.specs.PlannerView.{PlannerView}
use Rattle.planner.specs.declared.fault.AskFault.{AskFault}
use Rattle.planner.specs.declared.fault.AskFault.TheVariants as asks
use Rattle.faults.specs.declared.fault.Fault.{Fault}
use Rattle.faults.specs.declared.fault.Fault.TheVariants as faults
use Rattle.answer_lines.specs.declared.answer.Answer.{Answer}
use Rattle.answer_lines.specs.declared.answer.Answer.TheVariants as answers
use Rattle.connection_lines.specs.declared.connections.Connections.{Connections}
use Rattle.feed_basis.specs.Basis.{BasisData}
use Rattle.feed_basis.specs.Points.{TellsLeaving}
use Rattle.question_lines.specs.Questions.{IsQuestion, NotQuestion}
use Rattle.questions.specs.declared.question.Question.{Question}
use Rattle.questions.specs.declared.question.Within.{Within}
use Rattle.told_connections.specs.Times.{AreTimesOf}
use Rattle.told_connections.specs.Windows.{IsAskedWithin, IsUnaskedWithin}
use Rattle.told_connections.specs.declared.times.Times.{Times}
use Rattle.reply_lines.specs.declared.reply.Refusal.{Refusal}
use Rattle.reply_lines.specs.declared.reply.Refusal.TheVariants as refusals
use Rattle.reply_lines.specs.declared.reply.Reply.{Reply}
use Rattle.reply_lines.specs.declared.reply.Reply.TheVariants as replies

-- the planner is for the basis's timetable, with its names
pub record IsOver (basis : BasisData) (p : PlannerView) : Type 0 where
  pub table : p.form.table ≡ basis.timetable
  pub names : p.names ≡ basis.names

-- the answer reports these journeys, each from its departure, with their rides and walks if they are wanted
abbrev pub TellsJourneys : BasisData → Bool → List PointData → Answer → Type 0
TellsJourneys basis wanted journeys answers.NoRide = ⊥
TellsJourneys basis wanted journeys (answers.Arrive time) = ⊥
TellsJourneys basis wanted journeys (answers.Points points) = AllZip (TellsLeaving basis wanted) journeys points.items

-- The moment to leave at. A time of a day that isn't covered stands for one that no timetable covers.
abbrev pub depart_of : Option ℕ → ℕ
depart_of moment = unwrap_or moment 4_294_967_295

-- The line is this question, which leaves at this moment and asks for no connections.
pub record IsAsked (cover : CoverDays) (line : List ℕ) (question : Question) (depart : ℕ) : Type 0 where
  pub is : IsQuestion line question
  pub alone : question.within ≡ None
  pub moment : Option ℕ
  pub of_day : IsMoment cover question.day question.seconds moment
  pub leaves : depart ≡ depart_of moment

-- The line is a question, and the answer reports what one look of the reader gives to it. If each tree with which the board was opened is
-- complete, these are exactly the best of all journeys.
pub record IsRightAnswer (p : PlannerView) (basis : BasisData) (wanted : Bool) (line : List ℕ) (old new : BoardPart) (answer : Answer) : Type 0 where
  pub question : Question
  pub depart : ℕ
  pub asked : IsAsked basis.cover line question depart
  pub journeys : List PointData
  pub answered : IsAnswered p old new question.from.now question.to.now depart journeys
  pub exact : All (IsExact p.form) old.origin.opened.list → AreBestBetween p question.from.now question.to.now depart journeys
  pub told : TellsJourneys basis wanted journeys answer

-- the line is a question, which has no answer from one look of the reader, for this cause
pub record IsRightRefusal (p : PlannerView) (cover : CoverDays) (line : List ℕ) (old new : BoardPart) (fault : AskFault) : Type 0 where
  pub question : Question
  pub depart : ℕ
  pub asked : IsAsked cover line question depart
  pub unanswered : IsUnanswered p old new question.from.now question.to.now depart fault

-- the line is this question, which asks for connections within these times
pub record AsksWithin (basis : BasisData) (line : List ℕ) (question : Question) (times : Times) : Type 0 where
  pub is : IsQuestion line question
  pub within : Within
  pub asked : question.within ≡ Some within
  pub times_are : AreTimesOf basis question within times

-- The line is a question, and the connections are those that one look of the reader gives to it. If each tree with which the board was
-- opened is exact, the trees of the first place's stops are complete, so that these are the connections of all journeys.
pub record AreRightConnections (p : PlannerView) (basis : BasisData) (wanted : Bool) (line : List ℕ) (old new : BoardPart)
    (shown : Connections) : Type 0 where
  pub question : Question
  pub times : Times
  pub asked : AsksWithin basis line question times
  pub look : IsLook old new
  pub answered : IsAskedWithin basis (held_by p new) wanted times question shown
  pub exact : All (IsExact p.form) old.origin.opened.list → AreComplete basis.timetable (held_by p new) p.form.rides answered.froms

-- the look was refused, or there are no connections from the trees of one look
abbrev pub IsUnaskedAt : PlannerView → BasisData → Times → Question → BoardPart → BoardPart → AskFault → Type 0
IsUnaskedAt p basis times question old new asks.BoardRefused = new ≡ old
IsUnaskedAt p basis times question old new (asks.Question refusal) =
    IsLook old new × IsUnaskedWithin basis (held_by p new) times question (faults.Question refusal)

-- the line is a question for connections, which has none from one look of the reader, for this cause
pub record IsRightRefusalWithin (p : PlannerView) (basis : BasisData) (line : List ℕ) (old new : BoardPart) (fault : AskFault) : Type 0 where
  pub question : Question
  pub times : Times
  pub asked : AsksWithin basis line question times
  pub unasked : IsUnaskedAt p basis times question old new fault

-- why a planner gives no answer, as it is replied
abbrev pub refused_by : AskFault → Refusal
refused_by asks.BoardRefused = refusals.BoardRefused
refused_by (asks.Question refusal) = refusals.Question refusal

-- the line is a question, for journeys or for connections, which has no answer from one look of the reader, for this cause
abbrev pub IsForCause : PlannerView → BasisData → List ℕ → BoardPart → BoardPart → AskFault → Type 0
IsForCause p basis line old new fault = IsRightRefusal p basis.cover line old new fault ⊎ IsRightRefusalWithin p basis line old new fault

-- only a line that is no question is a bad line; any other has its question's refusal; memory may run out for each
abbrev pub IsRefused : PlannerView → BasisData → List ℕ → BoardPart → BoardPart → Refusal → Type 0
IsRefused p basis line old new refusals.BadLine = NotQuestion line × (new ≡ old)
IsRefused p basis line old new refusals.Memory = IsLook old new
IsRefused p basis line old new refusals.BoardRefused = IsForCause p basis line old new asks.BoardRefused
IsRefused p basis line old new (refusals.Question refusal) = IsForCause p basis line old new (asks.Question refusal)

-- What is replied to a line by one whose reader knew `old` before it and knows `new` now. The rides and walks of journeys are wanted or
-- aren't.
abbrev pub IsReply : PlannerView → BasisData → Bool → List ℕ → BoardPart → BoardPart → Reply → Type 0
IsReply p basis wanted line old new (replies.Answer answer) = IsRightAnswer p basis wanted line old new answer
IsReply p basis wanted line old new (replies.Connections shown) = AreRightConnections p basis wanted line old new shown
IsReply p basis wanted line old new (replies.Refused refusal) = IsRefused p basis line old new refusal

-- the reply reports these journeys, or that memory was refused
abbrev pub IsTold : BasisData → Bool → List PointData → Reply → Type 0
IsTold basis wanted journeys (replies.Answer answer) = TellsJourneys basis wanted journeys answer
IsTold basis wanted journeys (replies.Connections shown) = ⊥
IsTold basis wanted journeys (replies.Refused refusal) = refusal ≡ refusals.Memory

-- the reply to a question for connections, by what was found
abbrev pub reply_of : Result Connections Fault → Reply
reply_of (Ok shown) = replies.Connections shown
reply_of (Err (faults.Question refusal)) = replies.Refused (refusals.Question refusal)
reply_of (Err fault) = replies.Refused refusals.Memory
