-- A command is taken: there is room for what is told, and the world becomes what it should.
use Rattle.std.proofs.Common.{◌≡◌, ◌∙◌, ℕ, ◌<◌, ◌≤◌, length, ap, arith, sym, refl, subst}
use Rattle.pool_book.specs.Pools.{Named, queues}
use Rattle.switch_core.specs.Step.{Step}
use Rattle.event_world.specs.Shell.{shared_of}
use Rattle.event_world.specs.World.{Situation, taken}
use Rattle.event_world.proofs.Steps.{can_number_told, command_within, commanding, done, fits_taken, on_err, place_within, read_state, room_left, sent_up, takes_command, told, undone}
use Rattle.event_world.proofs.world.World.obey.Goals as goal

pub bounds-deref-at : goal.bounds-deref-at
bounds-deref-at g c =
    let world = c.args.self.now in
    let setup = c.args.setup.now in
    let shell = c.self.inside.shell in
    let inside : Situation g.row.C.Denot = record { shared = shared_of shell; switches = c.self.inside.switches; controllers = c.self.inside.controllers } in
    let same : inside ≡ world = c.self.view_is in
    let within : c.args.s < length world.switches = subst (λ (n : ℕ). c.args.s < n) (sym c.requires.fits.switches) (command_within setup.topology (length setup.controllers) c.args.name c.args.s world.shared c.requires.fits.shared c.requires.name c.requires.item) in
    place_within c.deref.result.now world.switches c.from-at.result c.args.s (cc) c.from-at.ensures within

pub item_mut-requires : goal.item_mut-requires
item_mut-requires g c =
    let world = c.args.self.now in
    let setup = c.args.setup.now in
    let shell = c.self.inside.shell in
    let inside : Situation g.row.C.Denot = record { shared = shared_of shell; switches = c.self.inside.switches; controllers = c.self.inside.controllers } in
    let same : inside ≡ world = c.self.view_is in
    let within : c.args.s < length world.switches = subst (λ (n : ℕ). c.args.s < n) (sym c.requires.fits.switches) (command_within setup.topology (length setup.controllers) c.args.name c.args.s world.shared c.requires.fits.shared c.requires.name c.requires.item) in
    place_within c.self.inside.switches world.switches c.from-at.result c.args.s (ap (λ (w : Situation g.row.C.Denot). w.switches) same) c.from-at.ensures within

pub command-requires : goal.command-requires
command-requires g c =
    let world = c.args.self.now in
    let setup = c.args.setup.now in
    let shell = c.self.inside.shell in
    let inside : Situation g.row.C.Denot = record { shared = shared_of shell; switches = c.self.inside.switches; controllers = c.self.inside.controllers } in
    let same : inside ≡ world = c.self.view_is in
    let it = c.in-Some.item.now in
    let before = c.item_mut.result.now in
    let command = commanding g.C.Controller.policies setup world inside c.args.name c.args.s c.from-at.result c.in-Some.field-0-0 it before (queues c.make_room_up.new.pools) c.requires.fits c.requires.name c.requires.item same c.from-at.ensures c.in_ok-make_room_up.ensures.queues (rw c.in-Some.is at c.head_in.ensures) c.item_mut.ensures.value in
    command.can

pub returns-in_err-outs-in-Some-clause-err : goal.returns-in_err-outs-in-Some-clause-err
returns-in_err-outs-in-Some-clause-err g c =
    let world = c.args.self.now in
    let setup = c.args.setup.now in
    let shell = c.self.inside.shell in
    let inside : Situation g.row.C.Denot = record { shared = shared_of shell; switches = c.self.inside.switches; controllers = c.self.inside.controllers } in
    let same : inside ≡ world = c.self.view_is in
    let kept : record (shared_of shell) { pools = queues c.make_room_up.new.pools } ≡ shared_of shell = ap (λ (pools : Named). record (shared_of shell) { pools = pools }) c.in_ok-make_room_up.ensures.queues in
    on_err c.from_residual-in_err-outs-in-Some.result
    (undone world inside (record (shared_of shell) { pools = queues c.make_room_up.new.pools }) c.from-at.result c.item_mut.result.now c.command.new.switch same kept c.item_mut.ensures.value c.in_err-outs-in-Some.ensures.err)

pub deliver_up-requires-clause-room : goal.deliver_up-requires-clause-room
deliver_up-requires-clause-room g c =
    let world = c.args.self.now in
    let setup = c.args.setup.now in
    let shell = c.self.inside.shell in
    let inside : Situation g.row.C.Denot = record { shared = shared_of shell; switches = c.self.inside.switches; controllers = c.self.inside.controllers } in
    let same : inside ≡ world = c.self.view_is in
    let it = c.in-Some.item.now in
    let before = c.item_mut.result.now in
    let command = commanding g.C.Controller.policies setup world inside c.args.name c.args.s c.from-at.result c.in-Some.field-0-0 it before (queues c.make_room_up.new.pools) c.requires.fits c.requires.name c.requires.item same c.from-at.ensures c.in_ok-make_room_up.ensures.queues (rw c.in-Some.is at c.head_in.ensures) c.item_mut.ensures.value in
    let outs = c.in_ok-outs-in-Some.outs in
    let step : Step = record { state = c.command.new.switch; up = outs.up; out = outs.out } in
    let tells = told c.args.name it before step (record { message = c.a_step_tells_few.ensures.message; notice = c.a_step_tells_few.ensures.notice }) command.command c.in_ok-outs-in-Some.ensures.ok in
    let one = read_state c.deref.result.now c.self.inside.switches c.from-at.result c.index-deref-at.result before (cc) c.index-deref-at.is c.item_mut.ensures.value in
    let table : c.entries.result.now ≡ before.table = cc in
    let long : length c.entries.result.now ≡ length before.table = ap length table in
    let few = tells.0 in
    let most = c.max-most.ensures in
    let enough : length outs.up ≤ c.max-most.result = omega arith in
    room_left c.up_from-up.result c.max-most.result (length outs.up) c.args.name c.make_room_up.new.pools c.take.new.self enough c.in_ok-make_room_up.ensures.room c.take.ensures.queues c.take.ensures.room

pub deliver_up-requires-clause-numbers : goal.deliver_up-requires-clause-numbers
deliver_up-requires-clause-numbers g c =
    let world = c.args.self.now in
    let setup = c.args.setup.now in
    let shell = c.self.inside.shell in
    let inside : Situation g.row.C.Denot = record { shared = shared_of shell; switches = c.self.inside.switches; controllers = c.self.inside.controllers } in
    let same : inside ≡ world = c.self.view_is in
    let few = c.in_ok-outs-in-Some.ensures.few in
    can_number_told setup.topology (length setup.controllers) (length c.in_ok-outs-in-Some.outs.up) c.args.name world.shared (queues shell.pools) (queues c.make_room_up.new.pools) (queues c.take.new.self) c.requires.fits.shared c.requires.events (omega arith)
    (ap (λ (w : Situation g.row.C.Denot). w.shared.pools) same) c.in_ok-make_room_up.ensures.queues c.take.ensures.queues

pub returns-clause-ok : goal.returns-clause-ok
returns-clause-ok g c =
    let world = c.args.self.now in
    let setup = c.args.setup.now in
    let shell = c.self.inside.shell in
    let inside : Situation g.row.C.Denot = record { shared = shared_of shell; switches = c.self.inside.switches; controllers = c.self.inside.controllers } in
    let same : inside ≡ world = c.self.view_is in
    let it = c.in-Some.item.now in
    let before = c.item_mut.result.now in
    let command = commanding g.C.Controller.policies setup world inside c.args.name c.args.s c.from-at.result c.in-Some.field-0-0 it before (queues c.make_room_up.new.pools) c.requires.fits c.requires.name c.requires.item same c.from-at.ensures c.in_ok-make_room_up.ensures.queues (rw c.in-Some.is at c.head_in.ensures) c.item_mut.ensures.value in
    let outs = c.in_ok-outs-in-Some.outs in
    let step : Step = record { state = c.command.new.switch; up = outs.up; out = outs.out } in
    let tells = told c.args.name it before step (record { message = c.a_step_tells_few.ensures.message; notice = c.a_step_tells_few.ensures.notice }) command.command c.in_ok-outs-in-Some.ensures.ok in
    let takes = takes_command c.args.name c.args.s c.in-Some.field-0-0 it before step world.shared world.switches c.requires.name command c.in_ok-outs-in-Some.ensures.ok in
    let sent = sent_up setup.topology c.args.s step (taken c.args.name (shared_of shell)) c.up_from-up.result (queues c.take.new.self) (queues c.deliver_up.new.pools) tells.1 c.up_from-up.ensures c.deliver_up.ensures (c.take.ensures.queues ∙ ap (λ (pools : Named). (taken c.args.name (record (shared_of shell) { pools = pools })).pools) c.in_ok-make_room_up.ensures.queues) in
    done g.C.Controller.react setup.topology c.args.name c.args.s c.from-at.result step world inside (record (shared_of shell) { pools = queues c.deliver_up.new.pools }) c.command.new.switch same c.from-at.ensures takes sent refl

pub returns-clause-fits : goal.returns-clause-fits
returns-clause-fits g c =
    let world = c.args.self.now in
    let setup = c.args.setup.now in
    let shell = c.self.inside.shell in
    let inside : Situation g.row.C.Denot = record { shared = shared_of shell; switches = c.self.inside.switches; controllers = c.self.inside.controllers } in
    let same : inside ≡ world = c.self.view_is in
    let it = c.in-Some.item.now in
    let before = c.item_mut.result.now in
    let command = commanding g.C.Controller.policies setup world inside c.args.name c.args.s c.from-at.result c.in-Some.field-0-0 it before (queues c.make_room_up.new.pools) c.requires.fits c.requires.name c.requires.item same c.from-at.ensures c.in_ok-make_room_up.ensures.queues (rw c.in-Some.is at c.head_in.ensures) c.item_mut.ensures.value in
    let outs = c.in_ok-outs-in-Some.outs in
    let step : Step = record { state = c.command.new.switch; up = outs.up; out = outs.out } in
    let takes = takes_command c.args.name c.args.s c.in-Some.field-0-0 it before step world.shared world.switches c.requires.name command c.in_ok-outs-in-Some.ensures.ok in
    fits_taken g.C.Controller.react g.C.Controller.policies setup c.args.name c.args.s step world _ c.requires.fits
    (record { message = c.a_step_keeps_the_switch.ensures.message; packet = c.a_step_keeps_the_switch.ensures.packet; notice = c.a_step_keeps_the_switch.ensures.notice })
    takes c.in_ok-outs-in-Some.ensures.valid.up c.in_ok-outs-in-Some.ensures.valid.out c.in_ok-outs-in-Some.ensures.few (returns-clause-ok g c)
