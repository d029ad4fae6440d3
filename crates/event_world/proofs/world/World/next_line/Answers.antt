use Rattle.std.proofs.Common.{◌≡◌, List, length, refl, rules, slice_get, Some, subst, sym}
use Rattle.std.proofs.lemmas.Option.{slice_get_read}
use Rattle.machine_setup.specs.declared.script.Line.{Line}
use Rattle.event_world.proofs.Reading.{line_quiet, line_unmarked, line_waits}
use Rattle.event_world.specs.Shell.{shared_of}
use Rattle.event_world.proofs.world.World.next_line.Goals.{else-line-via-then-line+else-not-quiet, else-line-via-else-line}
use Rattle.event_world.proofs.world.World.next_line.Goals as goal

pub returns-then-not-quiet : goal.returns-then-not-quiet
returns-then-not-quiet g c =
    let inputs = c.self.inside.shell.inputs in
    let at = subst (λ (script : List Line). slice_get script inputs ≡ Some c.in_ok-line.line.now) c.deref.ensures
    (slice_get_read c.deref.result.now (length c.deref.result.now) inputs c.in_ok-line.line.now refl c.in_ok-line.ensures.lookup.3.0 c.in_ok-line.ensures.lookup.1) in
    rw (← c.self.view_is)
    (sym (line_waits c.args.setup.now.script (shared_of c.self.inside.shell) c.in_ok-line.line.now c.quiet.result at (search rules) (rw (← c.self.view_is) at c.quiet.ensures) (search rules)))

pub returns : goal.returns
returns g c =
    let inputs = c.self.inside.shell.inputs in
    let at = subst (λ (script : List Line). slice_get script inputs ≡ Some c.in_ok-line.line.now) c.deref.ensures
    (slice_get_read c.deref.result.now (length c.deref.result.now) inputs c.in_ok-line.line.now refl c.in_ok-line.ensures.lookup.3.0 c.in_ok-line.ensures.lookup.1) in
    elim c.else-line.branch [
      | else-line-via-then-line+else-not-quiet w ↦
          rw (← c.self.view_is)
          (sym (line_quiet c.args.setup.now.script (shared_of c.self.inside.shell) c.in_ok-line.line.now w.quiet.result at (search rules) (rw (← c.self.view_is) at w.quiet.ensures) (search rules)))
      | else-line-via-else-line w ↦ rw (← c.self.view_is) (sym (line_unmarked c.args.setup.now.script (shared_of c.self.inside.shell) c.in_ok-line.line.now at (search rules)))
    ]
