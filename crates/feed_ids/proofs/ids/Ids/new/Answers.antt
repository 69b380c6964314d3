use Rattle.std.proofs.Common.{◌∙◌, ap, map}
use Rattle.std.specs.List.{position_from}
use Rattle.std.specs.Str.{bytes_eq}
use Rattle.std.specs.String.{string_bytes}
use Rattle.feed_ids.proofs.ids.Ids.new.Goals as goal

pub invariant_of-result : goal.invariant_of-result
invariant_of-result c = λ id. c.in_ok-numbers.ensures id ∙ ap (λ ids. position_from (bytes_eq id) 0 (map string_bytes ids)) c.deref.ensures.value
