use Rattle.std.proofs.Common.{◌∙◌, Err, ap, inl, inr, refl}
use Rattle.printing.specs.Finished.{streams_of}
use Rattle.feed_commands.proofs.TableFacts.{unknown_listed}
use Rattle.feed_commands.proofs.tabling.print_table.Goals as goal

pub returns-in-Err : goal.returns-in-Err
returns-in-Err g c = λ from to listed.
    let tabling = c.args.tabling.now in
    let lists = c.args.lists.now in
    let asked = c.args.asked.now in
    let among = unknown_listed tabling.basis.now lists.from.now lists.to.now asked c.in-Err.fault listed c.in-Err.ensures.fault in
    inl (
      c.in-Err.fault,
      c.in-Err.ensures.fault,
      record {
        told = streams_of c.args.streams.now.out c.tell_fault-status.new.err;
        faulted = record {
          status_is = c.tell_fault-status.ensures.status;
          nothing = refl {a = c.args.streams.now.out};
          said = c.tell_fault-status.ensures.said;
        };
        nothing = refl {a = c.args.streams.now.out};
        place = c.say_place.ensures from to among;
      },
    )

pub returns-in-Ok-print_matrix : goal.returns-in-Ok-print_matrix
returns-in-Ok-print_matrix g c = λ from to listed.
    inr (c.in-Ok.matrix, c.in-Ok.ensures.matrix, inl (c.in-Ok-print_matrix.ensures.whole, refl, refl))

pub returns-in-Err-Refused : goal.returns-in-Err-Refused
returns-in-Err-Refused g c = λ from to listed.
    let refused = c.print_matrix.ensures.refused (c.in-Err-Refused.is ∙ ap (λ e. Err e) c.in-Err-Refused.field-0-is) in
    inr (c.in-Ok.matrix, c.in-Ok.ensures.matrix, inr (inl (refused, c.say_unwritten.ensures)))

pub returns : goal.returns
returns g c = λ from to listed.
    let broken = c.print_matrix.ensures.memory (c.in-Err-Memory.is ∙ ap (λ e. Err e) c.in-Err-Memory.field-0-is) in
    inr (c.in-Ok.matrix, c.in-Ok.ensures.matrix, inr (inr (broken, c.say_no_memory.ensures)))
