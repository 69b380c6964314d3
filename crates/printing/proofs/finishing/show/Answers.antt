use Rattle.std.proofs.Common.{rules, inr}
use Rattle.streams.proofs.StreamFacts.{said_of}
use Rattle.printing.proofs.finishing.show.Goals as goal

pub returns-then-status-ne0 : goal.returns-then-status-ne0
returns-then-status-ne0 g c = inr (
  search rules,
  record {
    status_is = search rules;
    nothing = search rules;
    said = said_of c.print_bytes.result c.args.text.now c.args.streams.now.err c.print_bytes.new.self c.print_bytes.ensures;
  },
)
