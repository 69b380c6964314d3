use Rattle.std.proofs.Common.{ℕ, Option, List, refl, sym, ◌∙◌, subst}
use Rattle.stop_labels.specs.Row.{ByThen, when}
use Rattle.rounds.proofs.LayerSteps.{joined_early, scanned_early}
use Rattle.rounds.proofs.layer.ride_on.Goals as goal

pub join-requires-clause-size : goal.join-requires-clause-size
join-requires-clause-size c = c.requires.before.rode ∙ sym c.requires.after.rode

pub ride_lines-requires-clause-marks : goal.ride_lines-requires-clause-marks
ride_lines-requires-clause-marks c = c.join.ensures.same.size ∙ c.requires.after.rode

pub ride_lines-requires-clause-settled : goal.ride_lines-requires-clause-settled
ride_lines-requires-clause-settled c = λ leg ride ready. c.join.ensures.joined.kept _ _ (c.requires.next.served leg ride ready)

pub ride_lines-requires-clause-before : goal.ride_lines-requires-clause-before
ride_lines-requires-clause-before c = λ leg ride ready. c.join.ensures.joined.lower _ _ (c.requires.served leg ride ready)

pub walk_on-requires-clause-starts : goal.walk_on-requires-clause-starts
walk_on-requires-clause-starts c = c.ride_lines.ensures.same.size ∙ (c.join.ensures.same.size ∙ c.requires.after.rode)

pub walk_on-requires-clause-early : goal.walk_on-requires-clause-early
walk_on-requires-clause-early c =
    scanned_early c.args.table.now c.args.before.now.ready.marks c.join.new.row.marks c.ride_lines.new.rode.marks c.requires.valid
    (joined_early c.args.before.now.rode.marks c.args.after.now.rode.marks c.join.new.row.marks c.requires.early c.requires.rode c.join.ensures.joined) c.ride_lines.ensures.scanned

pub walk_on-requires-clause-rest : goal.walk_on-requires-clause-rest
walk_on-requires-clause-rest c =
    λ p q w a then gap. c.requires.walked p q w a (subst (λ (ms : List (Option ℕ)). ByThen (when ms p) a) (c.ride_lines.ensures.same.settled ∙ c.join.ensures.same.settled) then) gap

pub returns-clause-ridden : goal.returns-clause-ridden
returns-clause-ridden c = record {
  rides = (c.join.new.row.marks, c.join.ensures.joined, c.ride_lines.ensures.scanned);
  ends = c.walk_on.ensures.walks;
  rode = record { size = c.ride_lines.ensures.same.size ∙ c.join.ensures.same.size; settled = c.ride_lines.ensures.same.settled ∙ c.join.ensures.same.settled };
  ready = refl;
  ended = c.walk_on.ensures.same;
}
