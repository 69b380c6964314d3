use Rattle.std.proofs.Common.{rules, arith}
use Rattle.section_store.proofs.Fresh.{rest_inside}
use Rattle.section_store.proofs.Stages.{file_of}
use Rattle.section_store.proofs.store.SectionStore.resume.Goals as goal

pub invariant_of-result : goal.invariant_of-result
invariant_of-result g c =
    let state = g.D.Disk.state c.args.disk in
    record {
      written = c.requires.version;
      inside = λ honest. let kept = c.requires.kept honest in omega (arith, rest_inside c.args.form kept.0 c.args.place state kept.1.rest);
      low = search rules;
      set = c.requires.set;
      room = λ none. absurd none;
      file = λ honest. file_of c.args.form c.args.stored.items c.args.place 0 c.default.result state (c.requires.kept honest);
    }
