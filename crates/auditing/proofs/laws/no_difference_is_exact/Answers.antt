use Rattle.auditing.proofs.LawFacts.{exact}
use Rattle.auditing.proofs.laws.no_difference_is_exact.Goals as goal

pub returns : goal.returns
returns c = λ tree k same d t within. exact c.args._table.now tree k t within same d
