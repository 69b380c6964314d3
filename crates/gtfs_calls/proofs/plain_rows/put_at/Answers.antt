use Rattle.std.proofs.lemmas.List.Elements.{All-push, All-set}
use Rattle.gtfs_calls.specs.Known.{IsNumbered}
use Rattle.gtfs_calls.proofs.plain_rows.put_at.Goals as goal

pub returns-then-place-len-clause-known : goal.returns-then-place-len-clause-known
returns-then-place-len-clause-known c = λ texts all here.
    All-set (IsNumbered texts) c.args.known.now.items c.args.place c.args.stop here all

pub returns-in_ok-push-clause-known : goal.returns-in_ok-push-clause-known
returns-in_ok-push-clause-known c = λ texts all here.
    rw c.in_ok-push.ensures.items (All-push (IsNumbered texts) c.args.known.now.items c.args.stop all here)
