use Rattle.std.proofs.Common.{take}
use Rattle.std.specs.List.{AllZip}
use Rattle.feed_names.specs.Texts.{IsNamed}
use Rattle.feed_names.proofs.texts.names_of.Given as goal

abbrev pub invariant-loop-id : goal.invariant-loop-id
invariant-loop-id g l = AllZip (λ id name. IsNamed g.T.NamedRow.tells l.sheet g.T.NamedRow.key id.now name) (take l.id-index l.ids) l.names.items
