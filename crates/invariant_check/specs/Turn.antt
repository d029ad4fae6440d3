-- How far a search over a class has come, as it is for one header of the class.
use Rattle.std.specs.Prelude.{◌≡◌, ◌<◌, ◌+◌, ◌-◌, ◌*◌, ◌^◌, ℕ, All, IsTrue, List, length, map, reverse, true}
use Rattle.of10_match.specs.declared.header.Header.{Header}
use Rattle.topology.specs.declared.invariant.Invariant.{Invariant}
use Rattle.header_classes.specs.Cell.{in_cell}
use Rattle.header_classes.specs.Rewrite.{IsValidRewrite}
use Rattle.header_classes.specs.declared.interval.Interval.{Interval}
use Rattle.event_world.specs.declared.net_state.NetState.{NetState}
use Rattle.invariant_check.specs.Search.{IsSearch}
use Rattle.invariant_check.specs.Stop.{AreHops, IsStop, node_at}
use Rattle.invariant_check.specs.Verdict.{IsFirstWalk, IsFree, is_forbidden}
use Rattle.invariant_check.specs.Walk.{EndsBy, GoesOn}
use Rattle.invariant_check.specs.declared.class.Class.{Class}
use Rattle.invariant_check.specs.declared.search.Frame.{Frame}
use Rattle.invariant_check.specs.declared.search.Search.{Search}
use Rattle.invariant_check.specs.declared.search.Turn.{Turn}
use Rattle.invariant_check.specs.declared.search.Turn.TheVariants.{On, Over, Found}
use Rattle.invariant_check.specs.declared.walk.Finish.{Finish}
use Rattle.invariant_check.specs.declared.walk.Finish.TheVariants.{Repeat}
use Rattle.invariant_check.specs.declared.walk.Node.{Node}

-- by the output at a place of what a node sends, a walk ends as the invariant forbids
pub record EndsBadly (net : NetState) (invariant : Invariant) (node : Node) (place : ℕ) : Type 0 where
  pub finish : Finish
  pub ends : EndsBy net node place finish
  pub forbidden : is_forbidden invariant finish ≡ true

-- a stop of the network with its hops, which are what each header of a cell finds there
pub record IsFrame (net : NetState) (cell : List Interval) (frame : Frame) : Type 0 where
  pub stop : IsStop net frame.stop
  pub hops : AreHops net cell frame.stop frame.hops.items
  pub sets : All (λ hop. IsValidRewrite hop.sets) frame.hops.items

-- all stops of a search are of the network, with their hops
pub record IsHeld (net : NetState) (cell : List Interval) (search : Search) : Type 0 where
  pub top : IsFrame net cell search.top
  pub below : All (IsFrame net cell) search.below.items
  pub done : All (IsStop net) search.done.items

-- the node of a frame for a header, with the place of the output that is to be tried next
abbrev pub step_at : Header → Frame → Node × ℕ
step_at h frame = (node_at h frame.stop, frame.next)

-- What a search knows of the walks of a header from a node.
abbrev pub SearchAt : NetState → Invariant → Header → Node → Search → Type 0
SearchAt net invariant h from search =
    IsSearch (GoesOn net) (EndsBadly net invariant) (is_forbidden invariant Repeat) from (node_at h search.top.stop) search.top.next
    (reverse (map (step_at h) search.below.items)) (reverse (map (node_at h) search.done.items))

-- What a turn says of the walks of a header from a node: it knows more of them, or there is none that is forbidden, or it found the
-- first one for the header that was looked at.
abbrev pub IsTurn : NetState → Invariant → Header → Node → Header → Search → Turn → Type 0
IsTurn net invariant h from header search On = SearchAt net invariant h from search
IsTurn net invariant h from header search Over = IsFree net invariant from
IsTurn net invariant h from header search (Found walk) = h ≡ header → IsFirstWalk net invariant from walk.nodes walk.finish

-- How much is left to try, at most: stops can be entered as long as there is memory for them, entered ones can be left, and hops can
-- be tried.
abbrev pub weight : Search → ℕ
weight search =
    2 ^ 64 * (2 * (2 ^ 65 - (length search.below.items + length search.done.items)) + length search.below.items) + (length search.top.hops.items - search.top.next)

-- A turn keeps the stops, leaves less to try where it goes on, and knows what it says for each header of the class.
pub record IsTurned (net : NetState) (invariant : Invariant) (class : Class) (old new : Search) (turn : Turn) : Type 0 where
  pub held : turn ≡ On → IsHeld net class.cell new
  pub smaller : turn ≡ On → weight new < weight old
  pub at : (h : Header) (from : Node) → IsTrue (in_cell class.cell h) → SearchAt net invariant h from old → IsTurn net invariant h from class.header new turn

-- the search with one hop more of its last stop tried
abbrev pub skipped : Search → Search
skipped search = record search { top = record { stop = search.top.stop; hops = search.top.hops; next = search.top.next + 1 } }
