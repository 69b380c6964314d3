-- A content that is complete at each event is complete.
use Rattle.std.proofs.Common.{Option, ◌≡◌, ℕ, ◌+◌, ◌<◌, ◌≤◌, ◌≢◌, List, [], ◌∷◌, length, option_map, unwrap_or, arith, refl, sym, ◌∙◌, ap, subst, inl, inr, Result, Ok, Err}
use Rattle.std.specs.Prelude.{IsErrAnd}
use Rattle.std.specs.List.{Contains, AllPairs}
use Rattle.std.proofs.lemmas.Bool.{cases_eq}
use Rattle.std.proofs.lemmas.List.{length-map}
use Rattle.std.proofs.lemmas.List.Kept.{AllPairs-cons}
use Rattle.std.proofs.lemmas.List.Elements.{All-from_get_or}
use Rattle.timetable.specs.declared.parts.TheConstants.{LATEST_MOMENT}
use Rattle.timetable.specs.declared.parts.Call.{Call}
use Rattle.timetable.specs.declared.parts.Leg.{Leg}
use Rattle.timetable.specs.declared.parts.Numbers.{Numbers}
use Rattle.timetable.specs.Table.{Table, IsTable, stops_of}
use Rattle.timetable.specs.Journeys.{Journey, Reaches, Unbeaten, call_at, departs, foot, from, to}
use Rattle.timetable.proofs.Legs.{there, stop_known_at}
use Rattle.timetable.proofs.Rows.{walk_found, walk_good, foot_other}
use Rattle.timetable.proofs.Taken.{journey_earlier, journey_parts, the_some}
use Rattle.rounds.specs.Events.{IsEvent}
use Rattle.rounds.proofs.EventLaws.{own_event}
use Rattle.rounds.proofs.MarkSteps.{rides_end}
use Rattle.pattern_tree.specs.declared.fault.TreeFault.{TreeFault}
use Rattle.pattern_tree.specs.declared.fault.TreeFault.TheVariants.{TooLarge}
use Rattle.pattern_tree.specs.Forest.{Step, Pair}
use Rattle.pattern_tree.specs.Content.{IsTooLarge, longest}
use Rattle.pattern_tree.specs.Completeness.{Complete, Earned, IsPathOf, TooManyAreEarned}
use Rattle.pattern_tree.proofs.PairFacts.{in_contains}
use Rattle.pattern_tree.specs.Paths.{IsIn}
use Rattle.pattern_building.specs.RoundPairs.{Keeps, CompleteAt}

module _ (table : Table) (s k : ℕ) where
  earlier_reaches : (d e t : ℕ) (n : Numbers) → d ≤ e → Reaches table 1 k s t e n → Reaches table 1 k s t d n
  earlier_reaches d e t n le h =
      let some : 1 ≤ length h.0 = (let a = h.2 in let b = h.3 in omega (arith, a, b)) in
      (h.0, journey_earlier table s d e h.0 t n.arrival le some h.1, h.2, h.3, h.4)

  -- best numbers that are reached at a later departure too, for which the content is complete, have a path there
  pub at_later : (content : List Pair) (d later t : ℕ) (n : Numbers) → d ≤ later → CompleteAt table k s later content → Reaches table 1 k s t later n
      → Unbeaten (Reaches table 1 k s t d) n → (path : List Step) × IsPathOf table s t d n path × Contains content (path, t)
  at_later content d later t n le complete reaches unbeaten =
      let some = reaches.3 in
      let c = complete t n (reaches, λ m reaches beats. unbeaten.1 m (earlier_reaches d later t m le reaches) beats) in
      let p = c.1 in
      let more : 1 ≤ length p.0 = (let a = p.2 in omega (arith, a, some)) in
      (c.0, (p.0, journey_earlier table s d later p.0 t n.arrival le more p.1, p.2, p.3), c.2)

  -- complete at each event is complete
  pub complete_of : (content : List Pair) → ((e : ℕ) → IsEvent table s e → CompleteAt table k s e content) → Complete table k s content
  complete_of content at d t n unbeaten =
      let h = unbeaten.0 in
      let some : 1 ≤ length h.0 = (let a = h.2 in let b = h.3 in omega (arith, a, b)) in
      let own = own_event table s d h.0 t n.arrival some h.1 in
      at_later content d own.0 t n own.2 (at own.0 own.1) (h.0, own.3, h.2, h.3, h.4) unbeaten

  pub complete_kept : (d : ℕ) (old new : List Pair) → Keeps old new → CompleteAt table k s d old → CompleteAt table k s d new
  complete_kept d old new keeps at t n is = let c = at t n is in (c.0, c.1, keeps (c.0, t) c.2)

  -- a path that is earned has at most k rides
  path_short : (content : List Pair) → Earned table k s content → (p : Pair) → Contains content p → length p.0 ≤ k
  path_short content earned p h =
      let e = earned p.0 p.1 h in
      let legs = e.3 in
      let most = e.2.0.4 in
      let same = ap (λ (q : List Step). length q) legs.3 in
      omega (arith, most, same, legs.2, length-map {B = Step} legs.0 (λ leg. (from table leg, to table leg)))

  longest_least : (content : List Pair) → ((p : Pair) → IsIn p content → length p.0 ≤ k) → longest content ≤ k
  longest_least [] each = omega arith
  longest_least (p ∷ ps) each =
      let rest = longest_least ps (λ q i. each q (inr i)) in
      let here = each p (inl refl) in
      omega (arith, rest, here)

  pub short_of : (content : List Pair) → Earned table k s content → longest content ≤ k
  short_of content earned = longest_least content (λ p i. path_short content earned p (in_contains p content i))

  -- earned pairs and one more that is earned, which are too many
  pub too_many : (content : List Pair) (p : Pair) → Earned table k s (p ∷ content) → AllPairs (λ p q. p ≢ q) content → IsTooLarge content p → TooManyAreEarned table k s
  too_many content p earned once large = (
    p ∷ content,
    earned,
    AllPairs-cons (λ p q. p ≢ q) p content (All-from_get_or (λ q. p ≢ q) content p (λ i lt is. large.0 (i, lt, sym is))) once,
    large.1,
  )

-- where a journey of one ride or more ends is a stop of the table
pub end_inside : (table : Table) (s d : ℕ) → IsTable table → (legs : List Leg) (t z : ℕ) → 1 ≤ length legs → Journey table s d legs t z → t < stops_of table
end_inside table s d valid legs t z some j =
    let k = journey_parts table s d legs t z some j in
    let q = (rides_end table s d legs k.0 k.1 valid k.2).0 in
    let w = the_some (foot table k.0 t) (λ w. z ≡ k.1 + w) k.3 in
    elim (cases_eq t k.0) [
      | inl e ↦ subst (λ x. x < stops_of table) (sym e) q
      | inr ne ↦
          let f = walk_found table k.0 t w.0 (sym (foot_other table k.0 t ne) ∙ w.1) in
          subst (λ x. x < stops_of table) f.3 (walk_good table k.0 f.0 f.1 valid q f.2).known
    ]

-- an event is no later than the latest time
pub event_early : (table : Table) (s e : ℕ) → IsTable table → IsEvent table s e → e ≤ LATEST_MOMENT
event_early table s e valid event =
    let leg = event.0 in
    let c = there (call_at table leg.instance leg.board) event.1.boards in
    let known = stop_known_at table leg.instance leg.board c.0 valid c.1 in
    let departure : departs table leg ≡ c.0.departure = ap (λ (o : Option Call). unwrap_or (option_map (λ c. c.departure) o) 0) c.1 in
    let w = the_some (foot table s (from table leg)) (λ w. e + w ≡ departs table leg) event.2 in
    omega (arith, w.2, departure, known.early)

-- a fault that is handed on is the same
pub same_fault : {X : Type 0} (r : Result X TreeFault) (fault : TreeFault) → IsErrAnd r (λ handed. handed ≡ fault) → r ≡ Err TooLarge → fault ≡ TooLarge
same_fault (Ok x) fault h is = absurd h
same_fault (Err handed) fault h is = let same : handed ≡ TooLarge = cc in sym h ∙ same
