use Rattle.std.proofs.Common.{ℕ, ◌≡◌, ◌<◌, List, length, get_or, arith, sym, subst, ◌∙◌}
use Rattle.std.proofs.lemmas.List.{get_or_default}
use Rattle.rounds.proofs.NotedSteps.{line_has_room, note_new, note_again, has_position}
use Rattle.rounds.proofs.noted.Noted.note.Goals as goal
use Rattle.rounds.proofs.noted.Noted.note.Goals.{then-before, else-before}

-- the position that was read
position_read : (earliest : List ℕ) (line before : ℕ) → line < length earliest → before ≡ get_or earliest line before → get_or earliest line 0 ≡ before
position_read earliest line before within is = get_or_default earliest line 0 before within ∙ sym is

pub list-requires : goal.list-requires
list-requires c =
    let i = c.self.inside in
    let within = subst (λ (xs : List ℕ). c.args.at.line < length xs) (sym c.self.view_is) c.requires in
    let read = position_read i.earliest.items c.args.at.line c.index-before.result.now within c.index-before.ensures in
    let none = c.if-before.true in
    let room = line_has_room i.earliest.items i.lines.items _ c.args.at.line c.self.invariant within (read ∙ none) in
    let len = i.lines.ok.0 in
    omega (arith, room, len)

pub invariant_of-self : goal.invariant_of-self
invariant_of-self c =
    let i = c.self.inside in
    let is = c.self.invariant in
    let line = c.args.at.line in
    let position = c.args.at.position in
    let within = subst (λ (xs : List ℕ). c.args.at.line < length xs) (sym c.self.view_is) c.requires in
    let before = c.index-before.result.now in
    let read = position_read i.earliest.items line before within c.index-before.ensures in
    let less = c.if-at-before.true in
    elim c.if-before.branch [
      | then-before w ↦
          let none = w.if-before.true in
          rw (w.self-inside-is, w.list.ensures.items)
          (note_new i.earliest.items i.lines.items _ line is within (read ∙ none) _ position w.list.ensures.room (omega (arith, less, none)))
      | else-before w ↦
          let some = has_position i.earliest.items i.lines.items _ line before is within read w.if-before.false in
          rw w.self-inside-is (note_again i.earliest.items i.lines.items _ line is within position (omega (arith, read, some)) (omega (arith, less, some)))
    ]
