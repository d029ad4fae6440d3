-- Walks: what becomes of one packet, with one header, in the forwarding state of a network. What a loop and a black hole are, and
-- the order of walks, is this project's own choice.
use Rattle.std.specs.Prelude.{◌≡◌, ◌≢◌, ◌&&◌, ◌||◌, ◌==◌, ℕ, Bool, true, false, List, [], ◌∷◌, ◌++◌, AllPairs, Contains, Option, Some, None, nat_lt, option_and_then, slice_get, slice_index, ⊤}
use Rattle.std.specs.Option.{option_map_or}
use Rattle.flow_table.specs.Best.{best_entry}
use Rattle.flow_table.specs.Outcome.{outcome}
use Rattle.flow_table.specs.declared.outputs.Output.{Output}
use Rattle.flow_table.specs.declared.outputs.Target.{Target}
use Rattle.flow_table.specs.declared.outputs.Target.TheVariants.{Port, Controller}
use Rattle.topology.specs.Status.{landing}
use Rattle.topology.specs.declared.landing.Landing.{Landing}
use Rattle.topology.specs.declared.landing.Landing.TheVariants.{Wire, Host, Lost}
use Rattle.event_world.specs.declared.net_state.NetState.{NetState}
use Rattle.invariant_check.specs.declared.walk.Finish.{Finish}
use Rattle.invariant_check.specs.declared.walk.Finish.TheVariants.{Repeat, Out, AtHost}
use Rattle.invariant_check.specs.declared.walk.Node.{Node}

-- what the switch of a node sends of the packet: what the actions of its best entry send; nothing where no entry takes it
abbrev pub outputs_at : NetState → Node → List Output
outputs_at net node =
    option_map_or (λ entry. outcome (slice_index net.topology.ports node.s) node.p node.header entry.actions)
    (option_and_then (λ table. best_entry table node.p node.header) (slice_get net.tables node.s)) []

-- where an output of a switch comes to; what goes to the controller comes nowhere
abbrev pub landing_by : NetState → ℕ → Target → Option Landing
landing_by net s (Port p) = Some (landing net.topology net.status s p)
landing_by net s Controller = None

-- By the output at a place of what a node sends, a packet comes to the next node.
pub record GoesOn (net : NetState) (node : Node) (place : ℕ) (next : Node) : Type 0 where
  pub output : Output
  pub here : slice_get (outputs_at net node) place ≡ Some output
  pub wire : landing_by net node.s output.target ≡ Some (Wire next.s next.p)
  pub header : next.header ≡ output.header

-- How an output ends a walk: where a plain one is lost, and at a host.
abbrev pub end_by : ℕ → Target → Bool → Landing → Option Finish
end_by s target plain (Host host) = Some (AtHost host)
end_by s (Port p) true (Lost why) = Some (Out s p)
end_by s target plain other = None

-- By the output at a place of what a node sends, a walk ends.
pub record EndsBy (net : NetState) (node : Node) (place : ℕ) (finish : Finish) : Type 0 where
  pub output : Output
  pub here : slice_get (outputs_at net node) place ≡ Some output
  pub landing : Landing
  pub lands : landing_by net node.s output.target ≡ Some landing
  pub ends : end_by node.s output.target output.plain landing ≡ Some finish

-- nodes, and the places of the outputs by which one comes from each to the next
abbrev pub IsPath : NetState → List Node → List ℕ → Type 0
IsPath net [] places = ⊥
IsPath net (node ∷ []) [] = ⊤
IsPath net (node ∷ []) (place ∷ places) = ⊥
IsPath net (node ∷ next ∷ nodes) [] = ⊥
IsPath net (node ∷ next ∷ nodes) (place ∷ places) = GoesOn net node place next × IsPath net (next ∷ nodes) places

-- no node stands twice
abbrev pub AreDifferent : List Node → Type 0
AreDifferent nodes = AllPairs (λ one other. one ≢ other) nodes

-- The walk comes to a node at which it was before, and to no other one twice.
pub record ComesBack (net : NetState) (nodes : List Node) (places : List ℕ) : Type 0 where
  pub before : List Node
  pub last : Node
  pub all : nodes ≡ before ++ last ∷ []
  pub path : IsPath net nodes places
  pub different : AreDifferent before
  pub again : Contains before last

-- The walk comes to no node twice, and an output of the last one ends it.
pub record ComesToAnEnd (net : NetState) (nodes : List Node) (finish : Finish) (places : List ℕ) : Type 0 where
  pub before : List Node
  pub last : Node
  pub all : nodes ≡ before ++ last ∷ []
  pub taken : List ℕ
  pub place : ℕ
  pub all_places : places ≡ taken ++ place ∷ []
  pub path : IsPath net nodes taken
  pub different : AreDifferent nodes
  pub ends : EndsBy net last place finish

-- A walk, with the places of all outputs that are taken on it, the one that ends it among them.
abbrev pub IsWalk : NetState → List Node → Finish → List ℕ → Type 0
IsWalk net nodes Repeat places = ComesBack net nodes places
IsWalk net nodes finish places = ComesToAnEnd net nodes finish places

-- whether one list of places comes before another: the first place in which they differ decides
abbrev pub comes_before : List ℕ → List ℕ → Bool
comes_before [] [] = false
comes_before [] (y ∷ ys) = true
comes_before (x ∷ xs) [] = false
comes_before (x ∷ xs) (y ∷ ys) = nat_lt x y || (x == y && comes_before xs ys)
