-- Replies to questions, as they are asked on one look.
use Rattle.std.proofs.Common.{◌≡◌, ℕ, Bool, List, [], All, Result, Ok, Err, IfOk, IfErr, refl, sym, subst, append-nil, inl, inr}
use Rattle.feed_basis.specs.Basis.{BasisData}
use Rattle.pattern_query.specs.Answer.{PointData}
use Rattle.board.specs.Ties.{BoardPart}
use Rattle.section_store.specs.Lasting.{IsExact}
use Rattle.pattern_query.specs.Questions.{AreComplete}
use Rattle.planner.specs.Asking.{AreBestBetween, IsAnswered, IsLook, IsUnanswered, held_by}
use Rattle.planner.specs.PlannerView.{PlannerView}
use Rattle.planner.specs.declared.fault.AskFault.{AskFault}
use Rattle.planner.specs.declared.fault.AskFault.TheVariants as faults
use Rattle.connection_lines.specs.declared.connections.Connections.{Connections}
use Rattle.faults.specs.declared.fault.Fault.{Fault}
use Rattle.faults.specs.declared.fault.Fault.TheVariants as told
use Rattle.told_connections.specs.Windows.{IsAskedWithin, IsUnaskedWithin}
use Rattle.told_connections.specs.declared.times.Times.{Times}
use Rattle.questions.specs.declared.question.Question.{Question}
use Rattle.serving.specs.Answers.{AsksWithin, IsAsked, IsForCause, IsRefused, IsReply, IsTold, IsUnaskedAt, refused_by, reply_of}
use Rattle.reply_lines.specs.declared.reply.Refusal.TheVariants as refusals
use Rattle.reply_lines.specs.declared.reply.Reply.{Reply}
use Rattle.reply_lines.specs.declared.reply.Reply.TheVariants as replies

module _ (p : PlannerView) (basis : BasisData) (wanted : Bool) (line : List ℕ) (old new : BoardPart) where
  -- what is reported of an answer
  pub told_reply : (question : Question) (depart : ℕ) (journeys : List PointData) → IsAsked basis.cover line question depart
      → IsAnswered p old new question.from.now question.to.now depart journeys
      → (All (IsExact p.form) old.origin.opened.list → AreBestBetween p question.from.now question.to.now depart journeys)
      → (reply : Reply) → IsTold basis wanted journeys reply → IsReply p basis wanted line old new reply
  told_reply question depart journeys is answered exact (replies.Answer answer) told = record {
    question = question;
    depart = depart;
    asked = is;
    journeys = journeys;
    answered = answered;
    exact = exact;
    told = told;
  }
  told_reply question depart journeys is answered exact (replies.Connections shown) none = absurd none
  told_reply question depart journeys is answered exact (replies.Refused refusal) none =
      subst (IsRefused p basis line old new) (sym none) answered.0

  looks_still : new ≡ old → IsLook old new
  looks_still same = subst (IsLook old) (sym same) (record { later = ([], append-nil old.told.list); book = refl; origin = refl })

  looks_unanswered : (from to : List ℕ) (depart : ℕ) (fault : AskFault) → IsUnanswered p old new from to depart fault → IsLook old new
  looks_unanswered from to depart faults.BoardRefused un = looks_still un
  looks_unanswered from to depart (faults.Question fault) un = un.0

  looks_unasked : (times : Times) (question : Question) (fault : AskFault) → IsUnaskedAt p basis times question old new fault → IsLook old new
  looks_unasked times question faults.BoardRefused un = looks_still un
  looks_unasked times question (faults.Question fault) un = un.0

  -- what is replied if the planner gives no answer
  pub refused_reply : (fault : AskFault) → IsForCause p basis line old new fault → IsRefused p basis line old new (refused_by fault)
  refused_reply faults.BoardRefused cause = cause
  refused_reply (faults.Question refusal) cause = cause

  looks_for : (fault : AskFault) → IsForCause p basis line old new fault → IsLook old new
  looks_for fault (inl is) = looks_unanswered is.question.from.now is.question.to.now is.depart fault is.unanswered
  looks_for fault (inr is) = looks_unasked is.times is.question fault is.unasked

  -- the reply by what was found at one look
  pub found_reply : (question : Question) (times : Times) → AsksWithin basis line question times → IsLook old new
      → (All (IsExact p.form) old.origin.opened.list → (froms : List ℕ) → AreComplete basis.timetable (held_by p new) p.form.rides froms)
      → (found : Result Connections Fault) → IfOk found (IsAskedWithin basis (held_by p new) wanted times question)
      → IfErr found (IsUnaskedWithin basis (held_by p new) times question) → IsReply p basis wanted line old new (reply_of found)
  found_reply question times asks look complete (Ok shown) ok err = record {
    question = question;
    times = times;
    asked = asks;
    look = look;
    answered = ok;
    exact = λ right. complete right ok.froms;
  }
  found_reply question times asks look complete (Err (told.Question refusal)) ok err =
      inr (record { question = question; times = times; asked = asks; unasked = (look, err) })
  found_reply question times asks look complete (Err other) ok err = look

  -- whatever was replied, the reader knows what it knew
  pub looks : (reply : Reply) → IsReply p basis wanted line old new reply → IsLook old new
  looks (replies.Answer answer) is = is.answered.0
  looks (replies.Connections shown) is = is.look
  looks (replies.Refused refusals.BadLine) is = looks_still is.1
  looks (replies.Refused refusals.Memory) is = is
  looks (replies.Refused refusals.BoardRefused) is = looks_for faults.BoardRefused is
  looks (replies.Refused (refusals.Question refusal)) is = looks_for (faults.Question refusal) is
