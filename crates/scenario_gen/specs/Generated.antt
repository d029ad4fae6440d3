-- A made-up scenario.
use Rattle.std.specs.Prelude.{ℕ, [], ◌∷◌, replicate, false}
use Rattle.topology.specs.declared.invariant.Invariant.{Invariant}
use Rattle.topology.specs.declared.invariant.Invariant.TheVariants.{LoopFree, NoBlackHole, Forbid}
use Rattle.topology.specs.declared.network.Topology.{Topology}
use Rattle.controller_host.specs.Hosting.{Hosting, hosting_of}
use Rattle.controller_host.specs.declared.app.App.TheVariants as app
use Rattle.route_app.specs.Routing.{router_of}
use Rattle.scenario_gen.specs.Ring.{ring}
use Rattle.scenario_gen.specs.Script.{script_of}
use Rattle.scenario_gen.specs.declared.generated.Generated.{Generated}

-- a controller whose one application routes in a network, and clears no entries to ports that go down
abbrev pub routing_in : Topology → Hosting
routing_in network =
    hosting_of (app.Routing (router_of false (record { links = network.links; hosts = network.hosts })) ∷ [])

-- the scenario of a seed and a number of switches
abbrev pub generated : ℕ → ℕ → Generated
generated seed size = record {
  setup = record {
    topology = ring size;
    presets = replicate size [];
    controllers = routing_in (ring size) ∷ [];
    script = script_of seed size;
    limits = record { max_events = 16384; budget = 16; workers = 1; patience = 0 };
  };
  invariants = LoopFree ∷ NoBlackHole ∷ [];
}

-- an invariant that names no host is one of every network
abbrev pub NamesNoHost : Invariant → Type 0
NamesNoHost LoopFree = Unit {0}
NamesNoHost NoBlackHole = Unit {0}
NamesNoHost (Forbid src dst matches) = ⊥
