use Rattle.std.proofs.Common.{arith}
use Rattle.std.proofs.lemmas.Str.Pattern.{split_once_first}
use Rattle.question_lines.proofs.Tabs.{cut_parts}
use Rattle.question_lines.proofs.question.cut.Goals as goal

pub returns : goal.returns
returns c =
    let text = c.args.text.now in
    cut_parts text c.split_once.result (split_once_first 9 text c.split_once.result c.split_once.ensures.cases (omega arith))
