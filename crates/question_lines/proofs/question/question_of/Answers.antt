use Rattle.std.proofs.Common.{◌≡◌, ◌∙◌, List, ℕ, Option, None, Some, option_map, ap, refl, sym, subst, arith}
use Rattle.jiff_core.specs.declared.civil.date.Date.{Date}
use Rattle.question_lines.specs.Questions.{AreFields, IsWithin, LacksFields, NotQuestion, cut_at_tabs, up_to}
use Rattle.questions.specs.declared.question.Within.{Within}
use Rattle.question_lines.proofs.Tabs.{same_last}
use Rattle.question_lines.proofs.question.question_of.Goals as goal

-- without the fields a line is no question
no_fields : (text line : List ℕ) → text ≡ line → LacksFields text → NotQuestion line
no_fields text line same lacks question is =
    lacks question.from.now question.to.now is.date is.time is.last
    (subst (λ (l : List ℕ). AreFields l question.from.now question.to.now is.date is.time is.last) (sym same) is.fields)

pub returns-in_err-fields : goal.returns-in_err-fields
returns-in_err-fields c = rw c.from_residual.ensures (no_fields c.in-Ok.text.now c.args.line.now c.in-Ok.ensures.cases.0 c.in_err-fields.ensures)

-- a last time is one whatever the day
some_within : (last : Option (List ℕ)) (day other : Date) (within : Option Within) → IsWithin last day within
    → (found : Option Within) × IsWithin last other found
some_within None day other within is = (None, refl)
some_within (Some text) day other within is = (Some (up_to (record { day = other; seconds = is.0 })), (is.0, is.1, refl))

-- nor is it one if its last time is none
no_within : (text line from to date time : List ℕ) (last : Option (List ℕ)) (day : Date) → text ≡ line → AreFields text from to date time last
    → ((within : Option Within) → ¬ IsWithin last day within) → NotQuestion line
no_within text line from to date time last day same fields lacks question is =
    let last_is = (same_last from to date time question.from.now question.to.now is.date is.time last is.last
    (sym fields ∙ (ap cut_at_tabs same ∙ is.fields))).1 in
    let found = some_within last question.day day question.within
    (subst (λ (l : Option (List ℕ)). IsWithin l question.day question.within) (sym last_is) is.within) in
    lacks found.0 found.1

pub returns-in_err-within : goal.returns-in_err-within
returns-in_err-within c =
    let fields = c.in_ok-fields.fields in
    rw c.from_residual-in_err-within.ensures (no_within c.in-Ok.text.now c.args.line.now fields.from.now fields.to.now fields.day.now fields.time.now
    (option_map (λ last. last.now) fields.last) c.in_ok-day.day c.in-Ok.ensures.cases.0 c.in_ok-fields.ensures c.in_err-within.ensures)

pub returns : goal.returns
returns c =
    let fields = c.in_ok-fields.fields in
    let last = option_map (λ last. last.now) fields.last in
    let same : c.in-Ok.text.now ≡ c.args.line.now = c.in-Ok.ensures.cases.0 in
    record {
      short = omega arith;
      is_text = c.in-Ok.ensures.cases.1;
      date = fields.day.now;
      time = fields.time.now;
      last = last;
      fields = subst (λ (l : List ℕ). AreFields l fields.from.now fields.to.now fields.day.now fields.time.now last) same c.in_ok-fields.ensures;
      day = sym c.in_ok-day.ensures;
      seconds = sym c.in_ok-seconds.ensures;
      within = c.in_ok-within.ensures;
    }
