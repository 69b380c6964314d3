use Rattle.feed_commands.proofs.TableFacts.{read_from}
use Rattle.feed_commands.proofs.tabling.read_file.Goals as goal

pub returns-in-Ok : goal.returns-in-Ok
returns-in-Ok g c = λ bytes has.
    read_from (g.S.Reader.Read.remaining c.in-Ok.reader) bytes c.read_list.result (c.in-Ok.ensures bytes has) c.read_list.ensures.content
    c.read_list.ensures.fault
