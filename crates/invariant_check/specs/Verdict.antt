-- When an invariant is violated, by which host and header, and which walk shows it.
use Rattle.std.specs.Prelude.{◌≡◌, ◌<◌, ◌==◌, ◌⊎◌, ℕ, Bool, true, false, List, Some, slice_get, ⊤}
use Rattle.std.specs.declared.cmp.Ordering.TheVariants.{Less}
use Rattle.of10_match.specs.Header.{IsValidHeader, header_cmp}
use Rattle.of10_match.specs.Match.{takes}
use Rattle.of10_match.specs.declared.header.Header.{Header}
use Rattle.topology.specs.Status.{is_up}
use Rattle.topology.specs.declared.invariant.Invariant.{Invariant}
use Rattle.topology.specs.declared.invariant.Invariant.TheVariants.{LoopFree, NoBlackHole, Forbid}
use Rattle.event_world.specs.declared.net_state.NetState.{NetState}
use Rattle.invariant_check.specs.Walk.{IsWalk, comes_before}
use Rattle.invariant_check.specs.declared.walk.Finish.{Finish}
use Rattle.invariant_check.specs.declared.walk.Finish.TheVariants.{Repeat, Out, AtHost}
use Rattle.invariant_check.specs.declared.walk.Node.{Node}
use Rattle.invariant_check.specs.declared.walk.Verdict.{Verdict}
use Rattle.invariant_check.specs.declared.walk.Verdict.TheVariants.{Holds, Violated}

-- whether the invariant forbids a walk to end so
abbrev pub is_forbidden : Invariant → Finish → Bool
is_forbidden LoopFree Repeat = true
is_forbidden NoBlackHole (Out s p) = true
is_forbidden (Forbid src dst matches) (AtHost host) = host == dst
is_forbidden other finish = false

-- The invariant speaks of packets with a header from a host at a port: Forbid of those alone that its source sends and its match takes.
abbrev pub SpeaksOf : Invariant → ℕ → ℕ → Header → Type 0
SpeaksOf (Forbid src dst matches) host p header = (host ≡ src) × (takes matches p header ≡ true)
SpeaksOf other host p header = ⊤

-- From a node there is a walk with this end, which the invariant forbids.
pub record IsForbiddenWalk (net : NetState) (invariant : Invariant) (from : Node) (nodes : List Node) (finish : Finish) (places : List ℕ) : Type 0 where
  pub begins : slice_get nodes 0 ≡ Some from
  pub walk : IsWalk net nodes finish places
  pub forbidden : is_forbidden invariant finish ≡ true

-- no walk from a node has an end that the invariant forbids
abbrev pub IsFree : NetState → Invariant → Node → Type 0
IsFree net invariant from = (nodes : List Node) (finish : Finish) (places : List ℕ) → ¬ IsForbiddenWalk net invariant from nodes finish places

-- the first walk from a node with an end that the invariant forbids
pub record IsFirstWalk (net : NetState) (invariant : Invariant) (from : Node) (nodes : List Node) (finish : Finish) : Type 0 where
  pub places : List ℕ
  pub walk : IsForbiddenWalk net invariant from nodes finish places
  pub first : (other_nodes : List Node) (other_finish : Finish) (other_places : List ℕ)
      → IsForbiddenWalk net invariant from other_nodes other_finish other_places → comes_before other_places places ≡ false

-- where a packet with a header starts that a host sends: at the host's port, if the switch there is up and the invariant speaks of it
pub record IsStart (net : NetState) (invariant : Invariant) (host : ℕ) (header : Header) (from : Node) : Type 0 where
  pub place : slice_get net.status.place host ≡ Some (from.s, from.p)
  pub header_is : from.header ≡ header
  pub up : is_up net.status.switch_up from.s ≡ true
  pub valid : IsValidHeader header
  pub speaks : SpeaksOf invariant host from.p header

-- no packet with a header from a host violates the invariant
abbrev pub Keeps : NetState → Invariant → ℕ → Header → Type 0
Keeps net invariant host header = (from : Node) → IsStart net invariant host header from → IsFree net invariant from

-- one host and header come before another
abbrev pub IsLess : ℕ → Header → ℕ → Header → Type 0
IsLess host header other_host other_header = (host < other_host) ⊎ ((host ≡ other_host) × (header_cmp header other_header ≡ Less))

-- The verdict on an invariant: it holds where all hosts keep it with all headers; else it is violated, by the least host and its
-- least header that do not keep it, and the first walk from there shows it.
abbrev pub IsVerdict : NetState → Invariant → Verdict → Type 0
IsVerdict net invariant Holds = (host : ℕ) (header : Header) → Keeps net invariant host header
IsVerdict net invariant (Violated host header walk) =
    ((from : Node) × IsStart net invariant host header from × IsFirstWalk net invariant from walk.nodes walk.finish)
    × ((other_host : ℕ) (other_header : Header) → IsLess other_host other_header host header → Keeps net invariant other_host other_header)

-- whether a verdict says that its invariant is violated
abbrev pub is_violated : Verdict → Bool
is_violated Holds = false
is_violated (Violated host header walk) = true
