-- An event that is enabled takes the first item of its pool, or gives a line of the script.
use Rattle.std.proofs.Common.{◌∙◌, ◌<◌, ℕ, ap, length, slice_get, subst, sym}
use Rattle.event_world.specs.Fits.{Fits}
use Rattle.event_world.specs.World.{counted_world, with_line}
use Rattle.event_world.proofs.Giving.{enabled_head, enabled_line, is_input, item_happened, line_happened, no_inputs, on_ok, one_input}
use Rattle.event_world.proofs.world.World.happen.Goals as goal

pub act-requires-clause-head : goal.act-requires-clause-head
act-requires-clause-head g c κs lives = enabled_head c.args.setup.now c.args.self.now c.args.event.now c.in-Some.name c.requires.enabled (sym c.pool.ensures ∙ c.in-Some.is)

pub give_line-requires-clause-inputs : goal.give_line-requires-clause-inputs
give_line-requires-clause-inputs g c κs lives = c.requires.inputs (is_input c.args.event.now (sym c.pool.ensures ∙ c.in-None.is))

pub give_line-requires-clause-position : goal.give_line-requires-clause-position
give_line-requires-clause-position g c κs lives =
    subst (λ (n : ℕ). n < length c.args.setup.now.script) (sym c.number.ensures) (enabled_line c.args.setup.now c.args.self.now c.args.event.now c.requires.enabled (sym c.pool.ensures ∙ c.in-None.is))

pub returns-in-Some-clause-ok : goal.returns-in-Some-clause-ok
returns-in-Some-clause-ok g c = on_ok c.act.result c.act.ensures.ok (λ is. is ∙ item_happened g.C.Controller.react c.args.setup.now c.args.event.now c.in-Some.name c.args.self.now (sym c.pool.ensures ∙ c.in-Some.is))

pub returns-in-Some-clause-fits : goal.returns-in-Some-clause-fits
returns-in-Some-clause-fits g c =
    on_ok c.act.result c.act.ensures.fits
    (λ fits. subst (λ (n : ℕ). Fits g.C.Controller.policies c.args.setup.now (counted_world n c.act.new.self)) (sym (no_inputs c.args.event.now c.in-Some.name (sym c.pool.ensures ∙ c.in-Some.is))) fits)

pub returns-in-None-clause-ok : goal.returns-in-None-clause-ok
returns-in-None-clause-ok g c =
    on_ok c.give_line.result c.give_line.ensures.ok
    (λ is. is ∙ ap (λ (n : ℕ). with_line g.C.Controller.react c.args.setup.now.topology (slice_get c.args.setup.now.script n) c.args.self.now) c.number.ensures ∙ line_happened g.C.Controller.react c.args.setup.now c.args.event.now c.args.self.now (sym c.pool.ensures ∙ c.in-None.is))

pub returns-in-None-clause-fits : goal.returns-in-None-clause-fits
returns-in-None-clause-fits g c =
    on_ok c.give_line.result c.give_line.ensures.fits
    (λ fits. subst (λ (n : ℕ). Fits g.C.Controller.policies c.args.setup.now (counted_world n c.give_line.new.self)) (sym (one_input c.args.event.now (sym c.pool.ensures ∙ c.in-None.is))) fits)
