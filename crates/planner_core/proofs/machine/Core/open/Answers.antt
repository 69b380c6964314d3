use Rattle.std.proofs.Common.{refl, subst}
use Rattle.disk_model.specs.Disk.{State}
use Rattle.disk_model.specs.MemDisk.{state_of}
use Rattle.section_store.specs.Sections.{Form, Stands}
use Rattle.planner_core.specs.Cores.{running_of}
use Rattle.planner_core.specs.Kept.{ShowsKept}
use Rattle.planner_core.specs.Views.{runs}
use Rattle.planner_core.proofs.Kept.{begins_shown}
use Rattle.planner_core.proofs.machine.Core.open.Goals as goal

pub returns-in-Ok-open-clause-opened : goal.returns-in-Ok-open-clause-opened
returns-in-Ok-open-clause-opened c =
    let tools = c.in-Ok.tools in
    let running = running_of c.in-Ok-open.running in
    let is = c.in-Ok-open.ensures.opened in
    let stands : Stands tools.form (state_of c.args.disk).read is.0 = subst (λ (s : State). Stands tools.form s.read is.0) c.fail_at.ensures.state is.1 in
    record {
      form_is = c.in-Ok.ensures.form;
      room_is = c.in-Ok.ensures.room;
      trees = is.0;
      stands = subst (λ (f : Form). Stands f (state_of c.args.disk).read is.0) c.in-Ok.ensures.form stands;
      running = running;
      runs_so = refl;
      begins = is.2;
      acknowledged = is.3;
      shows = subst (λ (f : Form). ShowsKept f is.0 (runs running)) c.in-Ok.ensures.form (begins_shown tools is.0 running is.2);
    }

pub invariant_of-result : goal.invariant_of-result
invariant_of-result c =
    let is = c.in-Ok-open.ensures.opened in
    record { sound = c.in-Ok-open.ensures.sound; kept = is.0; shows = begins_shown c.in-Ok.tools is.0 (running_of c.in-Ok-open.running) is.2 }
