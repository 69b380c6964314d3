-- Replies that are given while a build goes on.
use Rattle.std.proofs.Common.{◌≡◌, ℕ, Bool, List, Option, Some, None, IfSome, ap, subst}
use Rattle.disk_model.specs.Disk.{State}
use Rattle.board.specs.Ties.{BoardPart}
use Rattle.planner.specs.PlannerView.{PlannerView}
use Rattle.feed_basis.specs.Basis.{BasisData}
use Rattle.serving.specs.Answers.{IsOver, IsReply}
use Rattle.serving.specs.Runs.{IsServed}
use Rattle.reply_lines.specs.Tellings.{Telling}
use Rattle.serving.specs.Tellings.{IsReplyText}
use Rattle.serving.specs.declared.serving.End.{End}
use Rattle.store_building.specs.Replies.{AreReplied, IsOpenedReader}
use Rattle.store_terms.specs.Stores.{form_over}
use Rattle.store_building.specs.Openings.{planner_over}

-- of a known input, if the reader is one of a board that was opened so
pub replied : (basis : BasisData) (k : ℕ) (tells : Telling) (wanted : Bool) (old : State) (input before after : Option (List ℕ)) (end : End) (reader : BoardPart) (p : PlannerView)
    → p ≡ planner_over basis k → IsOpenedReader (form_over basis k) old reader
    → IfSome input (λ bytes. IsServed (IsReplyText tells (IsReply p basis wanted)) reader bytes before after end)
    → IfSome input (λ bytes. AreReplied basis k tells wanted old bytes before after end)
replied basis k tells wanted old None before after end reader p is opened h = h
replied basis k tells wanted old (Some bytes) before after end reader p is opened h = record {
  reader = reader;
  opened = opened;
  served = subst (λ (q : PlannerView). IsServed (IsReplyText tells (IsReply q basis wanted)) reader bytes before after end) is h;
}

-- such a planner is over the basis
pub is_over : (basis : BasisData) (k : ℕ) (p : PlannerView) → p ≡ planner_over basis k → IsOver basis p
is_over basis k p is = record { table = ap (λ (q : PlannerView). q.form.table) is; names = ap (λ (q : PlannerView). q.names) is }
