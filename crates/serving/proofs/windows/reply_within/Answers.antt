use Rattle.std.proofs.Common.{◌≡◌, ◌∙◌, List, ℕ, All, IfOk, IfErr, ap, inr, subst, subst₂, sym}
use Rattle.timetable.specs.Table.{Table, stops_of}
use Rattle.pattern_query.specs.Questions.{AreComplete}
use Rattle.section_store.specs.Lasting.{IsExact}
use Rattle.section_store.specs.Sections.{Form}
use Rattle.board.specs.Ties.{BoardPart}
use Rattle.board.specs.Trees.{GoesOn}
use Rattle.board.specs.declared.origin.Origin.{Origin}
use Rattle.planner.specs.Asking.{IsLook, held_after, held_by}
use Rattle.planner.proofs.Exactness.{shown_complete}
use Rattle.told_connections.specs.Windows.{IsAskedWithin, IsUnaskedWithin}
use Rattle.serving.specs.Answers.{AsksWithin, IsReply}
use Rattle.reply_lines.specs.declared.reply.Reply.{Reply}
use Rattle.serving.proofs.ReplyFacts.{found_reply}
use Rattle.serving.proofs.windows.reply_within.Goals as goal

pub returns-in-Err : goal.returns-in-Err
returns-in-Err c = λ line is. inr (record {
  question = c.args.question.now;
  times = c.times_of-times.result;
  asked = record { is = is; within = c.args.within; asked = c.requires.asked; times_are = c.times_of-times.ensures };
  unasked = c.in-Err.ensures.refused;
})

pub returns : goal.returns
returns c = λ line is.
    let p = c.args.planner.now in
    let basis = c.args.basis.now in
    let legs = c.args.legs in
    let old = c.args.reader in
    let view = c.in-Ok.view in
    let question = c.args.question.now in
    let times = c.times_of-times.result in
    let found = c.ask_within-found.result in
    let board = c.in-Ok.ensures.board in
    let own : view.origin.form ≡ p.form = ap (λ (o : Origin). o.form) board.1 ∙ c.requires.own in
    let asks : AsksWithin basis line question times =
    record { is = is; within = c.args.within; asked = c.requires.asked; times_are = c.times_of-times.ensures } in
    let look : IsLook old view = record { later = c.in-Ok.ensures.later; book = board.0; origin = board.1 } in
    let goes = subst (λ (f : Form). GoesOn f view.origin.opened.list view.told.list) own c.told-shown.ensures.goes in
    let complete : All (IsExact p.form) old.origin.opened.list → (froms : List ℕ) → AreComplete basis.timetable (held_by p view) p.form.rides froms =
    λ right froms. subst (λ (table : Table). AreComplete table (held_by p view) p.form.rides froms) c.requires.over.table
    (shown_complete p.form view.origin.opened.list view.told.list froms goes
    (subst (λ (o : Origin). All (IsExact p.form) o.opened.list) (sym board.1) right)) in
    let right = subst (λ (f : Form). IfOk found (IsAskedWithin basis (held_after (stops_of f.table) view.told.list) legs times question)) own
    c.ask_within-found.ensures.answer in
    let wrong = subst (λ (f : Form). IfErr found (IsUnaskedWithin basis (held_after (stops_of f.table) view.told.list) times question)) own
    c.ask_within-found.ensures.refusal in
    subst₂ (λ (new : BoardPart) (reply : Reply). IsReply p basis legs line old new reply) (sym c.leave.ensures) (sym c.reply_of.ensures)
    (found_reply p basis legs line old view question times asks look complete found right wrong)
