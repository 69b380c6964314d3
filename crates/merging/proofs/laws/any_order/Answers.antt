use Rattle.merging.proofs.MergeFacts.{any_order_lem}
use Rattle.merging.proofs.laws.any_order.Goals as goal

pub returns : goal.returns
returns c = any_order_lem
