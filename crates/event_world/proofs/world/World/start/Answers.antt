use Rattle.std.proofs.Common.{ℕ, ◌≤◌, List, All, arith, length, subst, subst₂, sym}
use Rattle.machine_setup.specs.Setup.{IsPresets}
use Rattle.pool_book.specs.Names.{names}
use Rattle.event_world.proofs.Reading.{few_names, fits_made, start_made}
use Rattle.event_world.proofs.world.World.start.Goals as goal

pub start-requires-clause-few : goal.start-requires-clause-few
start-requires-clause-few g c =
    let topology = c.args.setup.now.topology in
    subst (λ (count : ℕ). length (names topology.ports count (length topology.hosts)) ≤ 4096) (sym c.len-count.ensures) (few_names topology (length c.args.setup.now.controllers) c.requires.network c.requires.few)

pub start-requires-clause-hosts : goal.start-requires-clause-hosts
start-requires-clause-hosts g c = let few = c.requires.network.hosts in omega arith

pub start-requires-clause-switches : goal.start-requires-clause-switches
start-requires-clause-switches g c = let same = c.requires.network.switches.owners in let few = c.requires.network.switches.count in omega arith

pub start_switches-requires-clause-presets : goal.start_switches-requires-clause-presets
start_switches-requires-clause-presets g c = subst₂ IsPresets (sym c.as_slice.ensures) (sym c.as_slice-2.ensures) c.requires.starts

pub start_switches-requires-clause-ports : goal.start_switches-requires-clause-ports
start_switches-requires-clause-ports g c = subst (λ (ports : List ℕ). All (λ count. (1 ≤ count) × (count ≤ 48)) ports) (sym c.as_slice.ensures) c.requires.network.switches.ports

pub start_switches-requires-clause-few : goal.start_switches-requires-clause-few
start_switches-requires-clause-few g c = subst (λ (ports : List ℕ). length ports ≤ 64) (sym c.as_slice.ensures) c.requires.network.switches.count

pub returns-clause-start : goal.returns-clause-start
returns-clause-start g c =
    start_made g.C.Controller.start c.args.setup.now c.len-count.result c.as_slice.result.now c.as_slice-2.result.now c.as_slice-3.result.now _
    c.len-count.ensures c.as_slice.ensures c.as_slice-2.ensures c.as_slice-3.ensures c.in_ok-start.ensures c.in_ok-start_switches.ensures c.in_ok-fresh_controllers.ensures.start

pub returns-clause-fits : goal.returns-clause-fits
returns-clause-fits g c = fits_made g.C.Controller.policies g.C.Controller.start c.args.setup.now _ c.requires (returns-clause-start g c) c.in_ok-fresh_controllers.ensures.policies
