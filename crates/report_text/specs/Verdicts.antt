-- The lines of verdicts. Each ends with a line feed.
use Rattle.std.specs.Prelude.{ℕ, ◌+◌, List, [], ◌∷◌, ◌++◌, flat_map, codes}
use Rattle.std.specs.Fmt.{decimal}
use Rattle.of10_match.specs.declared.header.Header.{Header}
use Rattle.topology.specs.declared.invariant.Invariant.{Invariant}
use Rattle.topology.specs.declared.invariant.Invariant.TheVariants.{LoopFree, NoBlackHole, Forbid}
use Rattle.invariant_check.specs.declared.walk.Finish.{Finish}
use Rattle.invariant_check.specs.declared.walk.Finish.TheVariants.{Repeat, Out, AtHost}
use Rattle.invariant_check.specs.declared.walk.Node.{Node}
use Rattle.invariant_check.specs.declared.walk.Verdict.{Verdict}
use Rattle.invariant_check.specs.declared.walk.Walk.{Walk}
use Rattle.invariant_check.specs.declared.walk.Verdict.TheVariants.{Holds, Violated}
use Rattle.report_text.specs.Events.{line_feed}

-- the word for an invariant
abbrev pub kind_text : Invariant → List ℕ
kind_text LoopFree = codes "loop"
kind_text NoBlackHole = codes "blackhole"
kind_text (Forbid src dst matches) = codes "forbid"

-- a header: its eleven fields in their order
unfoldable pub header_text : Header → List ℕ
header_text h = codes " header " ++ (decimal h.dl_src ++ (codes "," ++ (decimal h.dl_dst ++ (codes "," ++ (decimal h.dl_vlan ++ (codes ","
    ++ (decimal h.dl_vlan_pcp ++ (codes "," ++ (decimal h.dl_type ++ (codes "," ++ (decimal h.nw_tos ++ (codes ","
    ++ (decimal h.nw_proto ++ (codes "," ++ (decimal h.nw_src ++ (codes "," ++ (decimal h.nw_dst ++ (codes ","
    ++ (decimal h.tp_src ++ (codes "," ++ decimal h.tp_dst))))))))))))))))))))

-- the switch and the port of a node, after a space
abbrev pub node_text : Node → List ℕ
node_text node = codes " " ++ (decimal node.s ++ (codes ":" ++ decimal node.p))

-- how a walk ends; of a loop the last node has told it
abbrev pub finish_text : Finish → List ℕ
finish_text Repeat = []
finish_text (Out s p) = codes " out " ++ (decimal s ++ (codes ":" ++ decimal p))
finish_text (AtHost host) = codes " host " ++ decimal host

-- a walk: the nodes that it comes to, and how it ends
unfoldable pub walk_text : Walk → List ℕ
walk_text walk = codes " walk" ++ (flat_map node_text walk.nodes ++ finish_text walk.finish)

-- the least host and its least header by which an invariant is violated, and the walk that shows it
abbrev pub violated_text : ℕ → Header → Walk → List ℕ
violated_text host header walk = codes " violated host " ++ (decimal host ++ (header_text header ++ walk_text walk))

-- what the verdict is
abbrev pub judged_text : Verdict → List ℕ
judged_text Holds = codes " holds"
judged_text (Violated host header walk) = violated_text host header walk

-- the verdict on the invariant at a place
abbrev pub verdict_line : ℕ → Invariant → Verdict → List ℕ
verdict_line place invariant verdict = codes "verdict " ++ (decimal place ++ (codes " " ++ (kind_text invariant ++ (judged_text verdict ++ line_feed))))

-- the lines of verdicts on invariants, counted from a number on
abbrev pub lines_from : ℕ → List Invariant → List Verdict → List ℕ
lines_from place [] verdicts = []
lines_from place (invariant ∷ invariants) [] = []
lines_from place (invariant ∷ invariants) (verdict ∷ verdicts) = verdict_line place invariant verdict ++ lines_from (place + 1) invariants verdicts

-- verdicts on invariants, in their order
abbrev pub verdicts_text : List Invariant → List Verdict → List ℕ
verdicts_text invariants verdicts = lines_from 0 invariants verdicts
