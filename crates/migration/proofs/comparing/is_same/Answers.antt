use Rattle.std.proofs.Common.{rules}
use Rattle.migration.proofs.Fronts.{same_by}
use Rattle.migration.proofs.comparing.is_same.Goals as goal

pub returns : goal.returns
returns c =
    let one = c.in_ok-encode.ensures.ok in
    let two = c.in_ok-encode-2.ensures.ok in
    same_by c.texts_apart.ensures c.one_text.ensures one.text two.text c.deref.result.now c.deref-2.result.now c.args.tree.now c.args.other.now c.same_bytes.result one.is_text two.is_text
    (search rules) (search rules) c.same_bytes.ensures
