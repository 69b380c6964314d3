-- Lines that are replied to, one after the other.
use Rattle.std.proofs.Common.{◌≡◌, ℕ, List, [], ◌∷◌, ◌++◌, Option, None, Some, IfSome, Result, Ok, Err, OnOk, OnErr, MatchResult, is_err, true, false, inl, inr, refl, sym, ap, ◌∙◌, subst, append_assoc, append-nil}
use Rattle.std.proofs.KnownBytes.{Appends-trans}
use Rattle.std.specs.Io.KnownBytes.{Appends}
use Rattle.std.specs.List.{concat}
use Rattle.std.specs.Str.Lines.{lines}
use Rattle.std.proofs.lemmas.List.Folds.{concat-append}
use Rattle.board.specs.Ties.{BoardPart}
use Rattle.answer_lines.specs.Printing.{AppendsBeginning}
use Rattle.question_lines.specs.Lines.{HasNoLine, IsKept, LosesLine}
use Rattle.questions.specs.declared.question.Question.{Question}
use Rattle.reply_lines.specs.Printed.{no_memory}
use Rattle.reply_lines.specs.Tellings.{Telling}
use Rattle.serving.specs.Tellings.{IsAsking, IsBegun, IsPrinted, IsReplyText}
use Rattle.serving.specs.Runs.{AreAnswered, AreReplies, IsCutOff, IsReplied, IsRight, IsServed, IsServedSoFar}
use Rattle.reply_lines.specs.declared.reply.Reply.{Reply}
use Rattle.serving.specs.declared.serving.End.TheVariants as ends

-- one reply more
replied_more : (Right : IsRight) (lines : List (List ℕ)) (old mid new : BoardPart) (replies : List (List ℕ)) (line reply : List ℕ)
    → AreReplies Right lines old mid replies → Right line mid new reply → AreReplies Right (lines ++ line ∷ []) old new (replies ++ reply ∷ [])
replied_more Right [] old mid new [] line reply are is = (new, subst (λ now. Right line now new reply) are is, refl)
replied_more Right [] old mid new (other ∷ replies) line reply are is = absurd are
replied_more Right (first ∷ lines) old mid new [] line reply are is = absurd are
replied_more Right (first ∷ lines) old mid new (other ∷ replies) line reply are is =
    (are.0, are.1, replied_more Right lines are.0 mid new replies line reply are.2 is)

texts_more : (replies : List (List ℕ)) (reply : List ℕ) → concat (replies ++ reply ∷ []) ≡ concat replies ++ reply
texts_more replies reply = concat-append replies (reply ∷ []) ∙ ap (λ text. concat replies ++ text) (append-nil reply)

begun_more : (a b c : Option (List ℕ)) (front text : List ℕ) → Appends a b front → AppendsBeginning b c text → AppendsBeginning a c (front ++ text)
begun_more a b c front text whole begun = (
  begun.0,
  (
    front ++ begun.1.0,
    ap (λ l. front ++ l) begun.1.1 ∙ sym (append_assoc front begun.1.0 begun.0),
    Appends-trans a b c front begun.1.0 whole begun.1.2,
  ),
)

-- what came of printing the reply to a line, or that memory was refused
pub line_printed : {T E : Type 0} (tells : Telling) (Right : List ℕ → BoardPart → BoardPart → Reply → Type 0) (line : List ℕ) (start last : BoardPart)
    (old new : Option (List ℕ)) (question : Option Question) (reply : Reply) (r : Result T E)
    → IsAsking line question → Right line start last reply → Right line start last no_memory
    → OnOk r (IsPrinted (tells question) reply old new) → OnErr r (IsBegun (tells question) reply old new)
    → MatchResult r (λ _. IsReplied (IsReplyText tells Right) line start last old new) (λ _. IsCutOff (IsReplyText tells Right) line start last old new)
line_printed tells Right line start last old new question reply (Ok x) asks is none ok err =
    elim ok.1 [
      | inl told ↦ (ok.0, (question, reply, asks, is, told), ok.2)
      | inr told ↦ (ok.0, (question, no_memory, asks, none, told), ok.2)
    ]
line_printed tells Right line start last old new question reply (Err e) asks is none ok err =
    elim err.1 [
      | inl told ↦ (err.0, (question, reply, asks, is, told), err.2)
      | inr told ↦ (err.0, (question, no_memory, asks, none, told), err.2)
    ]

pub of_ok : {T E : Type 0} (r : Result T E) (A B : Type 0) → is_err r ≡ false → MatchResult r (λ _. A) (λ _. B) → A
of_ok (Ok x) A B is m = m
of_ok (Err e) A B is m = absurd cc

pub of_err : {T E : Type 0} (r : Result T E) (A B : Type 0) → is_err r ≡ true → MatchResult r (λ _. A) (λ _. B) → B
of_err (Ok x) A B is m = absurd cc
of_err (Err e) A B is m = m

module _ (Right : IsRight) (start : BoardPart) (old : Option (List ℕ)) where
  -- so far it is served
  abbrev pub SoFar : Option (List ℕ) → Option (List ℕ) → BoardPart → Option (List ℕ) → Type 0
  SoFar input left now new = IfSome input (λ bytes. IsServedSoFar Right start bytes old left now new)

  pub served_none : (input : Option (List ℕ)) → Appends old old [] → SoFar input input start old
  served_none None nothing = tt
  served_none (Some bytes) nothing = record {
    front = [];
    rest = bytes;
    left_is = refl;
    all = refl;
    replies = [];
    are = refl;
    written = nothing;
  }

  line_of : (bytes : List ℕ) (left rest_left : Option (List ℕ)) (now : BoardPart) (new : Option (List ℕ)) (kept : List ℕ)
      → (so_far : IsServedSoFar Right start bytes old left now new) → IfSome left (λ input. LosesLine input rest_left kept) → LosesLine so_far.rest rest_left kept
  line_of bytes left rest_left now new kept so_far loses =
      subst (λ (o : Option (List ℕ)). IfSome o (λ input. LosesLine input rest_left kept)) so_far.left_is loses

  front_more : (bytes : List ℕ) (left rest_left : Option (List ℕ)) (now : BoardPart) (new : Option (List ℕ)) (kept : List ℕ)
      → (so_far : IsServedSoFar Right start bytes old left now new) → (lost : LosesLine so_far.rest rest_left kept)
      → lines bytes ≡ (so_far.front ++ lost.line ∷ []) ++ lines lost.rest
  front_more bytes left rest_left now new kept so_far lost =
      so_far.all ∙ ap (λ l. so_far.front ++ l) lost.first ∙ sym (append_assoc so_far.front (lost.line ∷ []) (lines lost.rest))

  -- one line more
  pub served_more : (input left rest_left : Option (List ℕ)) (now next : BoardPart) (mid new : Option (List ℕ)) (kept : List ℕ)
      → SoFar input left now mid → IfSome left (λ bytes. LosesLine bytes rest_left kept)
      → ((text : List ℕ) → IsKept text kept → IsReplied Right text now next mid new) → SoFar input rest_left next new
  served_more None left rest_left now next mid new kept so_far loses replied = tt
  served_more (Some bytes) left rest_left now next mid new kept so_far loses replied =
      let lost = line_of bytes left rest_left now mid kept so_far loses in
      let one = replied lost.line lost.is in
      record {
        front = so_far.front ++ lost.line ∷ [];
        rest = lost.rest;
        left_is = lost.left_is;
        all = front_more bytes left rest_left now mid kept so_far lost;
        replies = so_far.replies ++ one.0 ∷ [];
        are = replied_more Right so_far.front start now next so_far.replies lost.line one.0 so_far.are one.1;
        written = subst (Appends old new) (sym (texts_more so_far.replies one.0))
            (Appends-trans old mid new (concat so_far.replies) one.0 so_far.written one.2);
      }

  answered : (bytes : List ℕ) (left : Option (List ℕ)) (now : BoardPart) (new : Option (List ℕ)) → (so_far : IsServedSoFar Right start bytes old left now new)
      → AreAnswered Right so_far.front start (concat so_far.replies)
  answered bytes left now new so_far = record { last = now; replies = so_far.replies; are = so_far.are; text_is = refl }

  -- the input has no line more
  pub all_served : (input left rest_left : Option (List ℕ)) (now : BoardPart) (new : Option (List ℕ))
      → SoFar input left now new → IfSome left (λ bytes. HasNoLine bytes rest_left) → IfSome input (λ bytes. IsServed Right start bytes old new ends.AllRead)
  all_served None left rest_left now new so_far none = tt
  all_served (Some bytes) left rest_left now new so_far none =
      let ended : HasNoLine so_far.rest rest_left = subst (λ (o : Option (List ℕ)). IfSome o (λ input. HasNoLine input rest_left)) so_far.left_is none in
      let all : lines bytes ≡ so_far.front = so_far.all ∙ ap (λ l. so_far.front ++ l) ended.none ∙ append-nil so_far.front in (
        concat so_far.replies,
        subst (λ l. AreAnswered Right l start (concat so_far.replies)) (sym all) (answered bytes left now new so_far),
        so_far.written,
      )

  -- the input can't be read on
  pub unread_served : (input left : Option (List ℕ)) (now : BoardPart) (new : Option (List ℕ))
      → SoFar input left now new → IfSome input (λ bytes. IsServed Right start bytes old new ends.Unread)
  unread_served None left now new so_far = tt
  unread_served (Some bytes) left now new so_far =
      (so_far.front, concat so_far.replies, (lines so_far.rest, so_far.all), answered bytes left now new so_far, so_far.written)

  -- the output refused the reply to one line more
  pub refused_served : (input left rest_left : Option (List ℕ)) (now next : BoardPart) (mid new : Option (List ℕ)) (kept : List ℕ)
      → SoFar input left now mid → IfSome left (λ bytes. LosesLine bytes rest_left kept)
      → ((text : List ℕ) → IsKept text kept → IsCutOff Right text now next mid new)
      → IfSome input (λ bytes. IsServed Right start bytes old new ends.OutputRefused)
  refused_served None left rest_left now next mid new kept so_far loses cut = tt
  refused_served (Some bytes) left rest_left now next mid new kept so_far loses cut =
      let lost = line_of bytes left rest_left now mid kept so_far loses in
      let one = cut lost.line lost.is in (
        so_far.front ++ lost.line ∷ [],
        concat (so_far.replies ++ one.0 ∷ []),
        (lines lost.rest, front_more bytes left rest_left now mid kept so_far lost),
        record {
          last = next;
          replies = so_far.replies ++ one.0 ∷ [];
          are = replied_more Right so_far.front start now next so_far.replies lost.line one.0 so_far.are one.1;
          text_is = refl;
        },
        subst (AppendsBeginning old new) (sym (texts_more so_far.replies one.0))
            (begun_more old mid new (concat so_far.replies) one.0 so_far.written one.2),
      )
