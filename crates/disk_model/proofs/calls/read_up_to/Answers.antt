use Rattle.std.proofs.Common.{rules, ◌≡◌, ◌+◌, ◌++◌, ℕ, length, take, drop, ◌∙◌, sym, subst}
use Rattle.std.specs.Prelude.{is_ok}
use Rattle.disk_model.specs.Disk.{State, Gives}
use Rattle.disk_model.proofs.Stretches.{IsRead, more_read, grown}
use Rattle.disk_model.proofs.calls.read_up_to.Goals as goal

pub loop-preserved : goal.loop-preserved
loop-preserved g c =
    let longer = c.if-is_err.ensures in
    record {
      honest = (λ h. c.read_at.ensures.honest.0 (c.loop.invariant.honest.0 h), λ h. c.loop.invariant.honest.1 (c.read_at.ensures.honest.1 h));
      same = λ h. c.in-Ok.ensures.same (c.loop.invariant.honest.0 h) ∙ c.loop.invariant.same h;
      read = λ h.
          let gives = c.in-Ok.ensures.bytes (c.loop.invariant.honest.0 h) in
          let read = (g.D.Disk.state c.args.disk.now).read in
          let here : Gives read (c.args.pos + length c.loop.out.items) (take c.if-left.ask c.loop.piece) c.read_at.new.buf c.in-Ok.got =
          subst (λ (s : State). Gives s.read (c.args.pos + length c.loop.out.items) (take c.if-left.ask c.loop.piece) c.read_at.new.buf c.in-Ok.got) (c.loop.invariant.same h)
          (subst (λ (n : ℕ). Gives (g.D.Disk.state c.loop.disk).read (c.args.pos + n) (take c.if-left.ask c.loop.piece) c.read_at.new.buf c.in-Ok.got) (let e : c.len-in-loop.result ≡ length c.loop.out.items = search rules in e) gives) in
          let after : c.extend_from_slice.new.self.items ≡ c.loop.out.items ++ take c.in-Ok.got c.read_at.new.buf =
          grown (is_ok c.extend_from_slice.result) c.loop.out.items c.loop.piece c.read_at.new.buf (drop c.if-left.ask c.loop.piece) c.extend_from_slice.new.self.items c.if-left.ask c.in-Ok.got
          longer.negation c.extend_from_slice.ensures.items c.in-Ok.ensures.fits (search rules) in
          subst (IsRead read c.args.pos) (sym after) (more_read read c.args.pos c.loop.out.items (take c.if-left.ask c.loop.piece) c.read_at.new.buf c.in-Ok.got (c.loop.invariant.read h) here);
      failures = c.in-Ok.ensures.counted ∙ c.loop.invariant.failures;
      within = search rules;
      turns = search rules;
    }
