use Rattle.std.proofs.Common.{Option, ◌≡◌, ℕ, List, ◌+◌, sym, ◌∙◌, subst, MatchOption}
use Rattle.std.proofs.lemmas.Bool.{false≢true}
use Rattle.timetable.specs.declared.parts.Numbers.{Numbers}
use Rattle.timetable.specs.Front.{AreFront}
use Rattle.timetable.specs.Journeys.{Reaches}
use Rattle.reaching.specs.Listed.{AreListed}
use Rattle.reaching.specs.Reached.{IsBy, IsSoonest}
use Rattle.reaching.specs.declared.reached.Reached.{Reached}
use Rattle.reaching.proofs.ListFacts.{listed_more, listed_same, too_late}
use Rattle.reaching.proofs.reaching.list_stops.Goals as goal
use Rattle.reaching.proofs.reaching.list_stops.Goals.{in-Some+then-is_by+in_ok-push, in-Some+else-is_by, in_default}

pub loop-number-preserved : goal.loop-number-preserved
loop-number-preserved c =
    let table = c.args.table.now in
    let k = c.args.rides in
    let s = c.args.from in
    let d = c.args.depart in
    let last = c.args.last in
    let n = c.loop-number.number in
    let list = c.loop-number.list.items in
    let inv : AreListed table k s d last n list = c.loop-number.invariant in
    let here : c.new-stop.result ≡ n = c.new-stop.ensures in
    let t = c.new-stop.result in
    let best : AreFront table k s t d c.deref.result.now = subst (λ (ps : List Numbers). AreFront table k s t d ps) (sym c.deref.ensures.0) c.points-front.ensures in
    let found = c.soonest_of.ensures table k s t d best in
    elim c.match-soonest_of.branch [
      | in-Some+then-is_by+in_ok-push w ↦
          let is = subst (λ (o : Option Numbers). MatchOption o ((m : Numbers) → ¬ Reaches table 0 k s t d m) (IsSoonest (Reaches table 0 k s t d))) w.in-Some.is found in
          let reached : Reached = record { stop = t; arrival = w.in-Some.soonest.arrival; rides = w.in-Some.soonest.rides } in
          rw w.list-is (subst (λ (items : List Reached). AreListed table k s d last (n + 1) items) (sym w.in_ok-push.ensures.items)
          (listed_more table k s d last n list reached inv here (w.is_by.ensures.0 w.if-is_by.true, is)))
      | in-Some+else-is_by w ↦
          let is = subst (λ (o : Option Numbers). MatchOption o ((m : Numbers) → ¬ Reaches table 0 k s t d m) (IsSoonest (Reaches table 0 k s t d))) w.in-Some.is found in
          rw w.list-is (listed_same table k s d last n list inv (subst (λ (t : ℕ). (m : Numbers) → IsBy last m.arrival → IsSoonest (Reaches table 0 k s t d) m → ⊥) here
          (too_late table k s d last t w.in-Some.soonest is (λ by. false≢true (sym w.if-is_by.false ∙ w.is_by.ensures.1 by)))))
      | in_default w ↦
          let none = subst (λ (o : Option Numbers). MatchOption o ((m : Numbers) → ¬ Reaches table 0 k s t d m) (IsSoonest (Reaches table 0 k s t d))) w.in_default.is found in
          rw w.list-is (listed_same table k s d last n list inv (subst (λ (t : ℕ). (m : Numbers) → IsBy last m.arrival → IsSoonest (Reaches table 0 k s t d) m → ⊥) here
          (λ m _ soonest. none m soonest.0)))
    ]
