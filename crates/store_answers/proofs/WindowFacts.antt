-- Connections from the trees of a store, and refusals for want of one.
use Rattle.std.proofs.Common.{Option, None, Some, ℕ, Bool, List, All, Contains, inl, inr, subst}
use Rattle.std.proofs.lemmas.List.Elements.{All-weaker}
use Rattle.disk_model.specs.Disk.{State}
use Rattle.timetable.specs.declared.parts.Numbers.{Numbers}
use Rattle.pattern_tree.specs.Content.{Content}
use Rattle.pattern_query.specs.Answer.{numbers}
use Rattle.pattern_query.specs.Leaving.{LeavesLast}
use Rattle.pattern_query.specs.Questions.{AskedReaches, IsAskedPoint, tree_at}
use Rattle.feed_ids.specs.Names.{stops_at}
use Rattle.store_excerpt.specs.Laws.{WholeIsComplete}
use Rattle.questions.specs.declared.question.Question.{Question}
use Rattle.connection_lines.specs.declared.connections.Connections.{Connections}
use Rattle.connections.specs.Connections.{AreFirst, Connects, IsConnection, WalksLeast}
use Rattle.connections.specs.declared.connection.Connection.{Connection}
use Rattle.connections.specs.declared.connection.Window.{Window}
use Rattle.faults.specs.declared.fault.Fault.{Fault}
use Rattle.feed_basis.specs.Basis.{BasisData}
use Rattle.store_answers.specs.Asked.{IsStoredPoint, StoredReaches}
use Rattle.store_answers.specs.Opened.{Shows}
use Rattle.store_answers.proofs.AskedFacts.{kept_of, known, stored_in, unanswered_fails, why}
use Rattle.store_answers.proofs.StoredFacts.{in_trees, last_stored, reaches_stored, stored_reaches}
use Rattle.store_terms.specs.Stores.{OnlyFailing, form_over}
use Rattle.told_connections.specs.Next.{AreChosen, AreNext}
use Rattle.told_connections.specs.Windows.{IsAskedWithin, IsUnaskedWithin}
use Rattle.told_connections.specs.declared.choosing.TheConstants.{ENOUGH}
use Rattle.told_connections.specs.declared.times.Times.{Times}
use Rattle.store_answers.specs.Windowed.{IsStoredWindow, IsUnansweredFromWithin}

-- sets with the same numbers have the same connections
module _ (P Q : ℕ → Numbers → Type 0) (to : (d : ℕ) (n : Numbers) → P d n → Q d n) (from : (d : ℕ) (n : Numbers) → Q d n → P d n) where
  connects_same : (d : ℕ) (n : Numbers) → Connects P d n → Connects Q d n
  connects_same d n is = record {
    ridden = is.ridden;
    best = (to d n is.best.0, λ m of. is.best.1 m (from d m of));
    last = λ later m lt some few le of. is.last later m lt some few le (from later m of);
  }

module _ (P Q : ℕ → Numbers → Type 0) (to : (d : ℕ) (n : Numbers) → P d n → Q d n) (from : (d : ℕ) (n : Numbers) → Q d n → P d n)
    (window : Window) where
  connection_same : (c : Connection) → IsConnection P window c → IsConnection Q window c
  connection_same c is = record {
    after = is.after;
    before = is.before;
    connects = connects_same P Q to from c.departure (numbers c.journey) is.connects;
  }

module _ (P Q : ℕ → Numbers → Type 0) (to : (d : ℕ) (n : Numbers) → P d n → Q d n) (from : (d : ℕ) (n : Numbers) → Q d n → P d n) where
  first_same : (window : Window) (enough : ℕ) (list : List Connection) (next : ℕ) → AreFirst P window enough list next → AreFirst Q window enough list next
  first_same window enough list next are = record {
    are = record {
      rising = are.are.rising;
      each = All-weaker (IsConnection P window) (IsConnection Q window) (connection_same P Q to from window) list are.are.each;
      before = are.are.before;
      all = λ d n after before lt is. are.are.all d n after before lt (connects_same Q P from to d n is);
    };
    some = are.some;
  }

-- so the same are the first of them
module _ (P Q : ℕ → Numbers → Type 0) (to : (d : ℕ) (n : Numbers) → P d n → Q d n) (from : (d : ℕ) (n : Numbers) → Q d n → P d n) where
  next_same : (window : Window) (n : ℕ) (list : List Connection) (next : ℕ) → AreNext P window n list next → AreNext Q window n list next
  next_same window n list next are = record {
    rising = are.rising;
    each = All-weaker (IsConnection P window) (IsConnection Q window) (connection_same P Q to from window) list are.each;
    few = are.few;
    some = are.some;
    rest = λ c is. are.rest c (connection_same Q P from to window c is);
  }

  pub chosen_same : (window : Window) (asked : Option ℕ) (list : List Connection) (next : ℕ) → AreChosen P window asked list next
      → AreChosen Q window asked list next
  chosen_same window None list next are = first_same P Q to from window ENOUGH list next are
  chosen_same window (Some n) list next are = next_same window n list next are

-- a question that has no answer reports no failed call
pub unasked_fails : (basis : BasisData) (board : List (Option Content)) (times : Times) (question : Question) (fault : Fault) (before after : ℕ)
    → IsUnaskedWithin basis (tree_at board) times question fault → OnlyFailing before after fault
unasked_fails basis board times question fault before after (inl h) =
    unanswered_fails (stops_at basis.names) _ basis.timetable times.moment question fault before after h
unasked_fails basis board times question fault before after (inr h) =
    unanswered_fails (stops_at basis.names) _ basis.timetable times.until question fault before after h

module _ (basis : BasisData) (k : ℕ) (old new : State) (question : Question) (list : List ℕ) (board : List (Option Content))
    (is : Shows basis k old new question list board) where
  pub stored_window : (times : Times) (legs : Bool) (shown : Connections) → WholeIsComplete
      → IsAskedWithin basis (tree_at board) legs times question shown → IsStoredWindow basis k times question legs old new shown
  stored_window times legs shown complete h =
      let right = h.right in
      let table = basis.timetable in
      let trees = is.whole.trees in
      record {
        trees = trees;
        stands = is.whole.stands;
        answered = record {
          froms = h.froms;
          tos = h.tos;
          first = h.first;
          last = h.last;
          asked = h.asked;
          until_is = h.until_is;
          covered = h.covered;
          right = record {
            stored = subst (λ (l : List ℕ). All (Contains l) h.froms) is.whole.are
                (stored_in basis k old new question list board is h.froms (known basis k old new question list board is h.froms h.asked.leaves)
                (kept_of basis k old new question list board is h.froms h.asked.leaves) right.stored);
            found = right.found;
            next = right.next;
            journeys = All-weaker (λ (c : Connection). IsAskedPoint table (tree_at board) h.froms h.tos c.departure c.journey)
                (λ (c : Connection). IsStoredPoint table trees h.froms h.tos c.departure c.journey)
                (λ c p. in_trees table trees board h.froms h.tos c.departure is.whole.same right.stored c.journey p)
                right.found right.journeys;
            least = All-weaker (WalksLeast table (tree_at board) h.froms h.tos)
                (λ (c : Connection). LeavesLast table (IsStoredPoint table trees h.froms h.tos c.departure) c.journey)
                (λ c last. last_stored table trees board h.froms h.tos c.departure is.whole.same right.stored (form_over basis k) old.read
                is.whole.stands c.journey last)
                right.found right.least;
            right = chosen_same (AskedReaches table (tree_at board) h.froms h.tos) (StoredReaches table trees h.froms h.tos)
                (λ d. reaches_stored table trees board h.froms h.tos d is.whole.same right.stored)
                (λ d. stored_reaches table trees board h.froms h.tos d is.whole.same right.stored (form_over basis k) old.read is.whole.stands)
                _ _ right.found right.next right.right;
            exact = λ whole. right.exact k (complete (form_over basis k) board h.froms (is.whole.whole h.froms whole) right.stored);
            told = right.told;
            rest = right.rest;
            walk = right.walk;
          };
        };
        trusted = is.whole.trusted;
        opening = is.opening;
      }

  pub unasked_from : (times : Times) (fault : Fault) → IsUnaskedWithin basis (tree_at board) times question fault
      → IsUnansweredFromWithin basis k times question old new fault
  unasked_from times fault h = record {
    list = list;
    stands = is.stands;
    why = elim h [
      | inl first ↦ inl (why basis k old new question list board is times.moment fault first)
      | inr last ↦ inr (why basis k old new question list board is times.until fault last)
    ];
    opening = is.opening;
  }
