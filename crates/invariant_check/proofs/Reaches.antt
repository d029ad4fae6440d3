-- Where a hop comes to is where the output comes to that it is for a header.
use Rattle.std.proofs.Common.{◌≡◌, ◌∙◌, ◌+◌, ◌≤◌, ℕ, Bool, true, All, List, [], ◌∷◌, Option, Some, None, IsTrue, cond, length, map, inl, inr, refl, sym, ap, subst, arith}
use Rattle.std.specs.List.{filter_map, slice_get}
use Rattle.std.specs.Option.{option_map}
use Rattle.std.proofs.lemmas.Bool.{cases_Bool}
use Rattle.std.proofs.lemmas.List.{length-map}
use Rattle.std.proofs.lemmas.List.Elements.{All-head, All-tail}
use Rattle.std.proofs.lemmas.Option.{none-some, slice_get-map, slice_get_past}
use Rattle.of10_match.specs.declared.header.Header.{Header}
use Rattle.flow_table.specs.declared.outputs.Output.{Output}
use Rattle.flow_table.specs.declared.outputs.Target.{Target}
use Rattle.flow_table.specs.declared.outputs.Target.TheVariants.{Port, Controller}
use Rattle.topology.specs.Network.{IsPort, ends_of, far_end, is_place, joints}
use Rattle.topology.specs.Status.{host_at, is_up, landing, landing_of}
use Rattle.topology.specs.declared.invariant.Invariant.{Invariant}
use Rattle.topology.specs.declared.landing.Landing.{Landing}
use Rattle.topology.specs.declared.landing.Landing.TheVariants.{Wire, Host, Lost}
use Rattle.topology.specs.declared.status.Status.{Status}
use Rattle.header_classes.specs.Cell.{in_cell}
use Rattle.header_classes.specs.Rewrite.{IsValidRewrite, rewritten}
use Rattle.header_classes.specs.declared.interval.Interval.{Interval}
use Rattle.event_world.specs.declared.net_state.NetState.{NetState}
use Rattle.invariant_check.specs.Network.{IsNet}
use Rattle.invariant_check.specs.Reach.{end_of_some, reach_by, reach_of}
use Rattle.invariant_check.specs.Search.{Tried}
use Rattle.invariant_check.specs.Stop.{AreHops, IsStop, node_at, output_at}
use Rattle.invariant_check.specs.Turn.{EndsBadly}
use Rattle.invariant_check.specs.Verdict.{is_forbidden}
use Rattle.invariant_check.specs.Walk.{EndsBy, GoesOn, end_by, landing_by, outputs_at}
use Rattle.invariant_check.specs.declared.reach.Reach.TheVariants.{Onward, End, Nothing}
use Rattle.invariant_check.specs.declared.stop.Hop.{Hop}
use Rattle.invariant_check.specs.declared.stop.Stop.{Stop}
use Rattle.invariant_check.specs.declared.walk.Finish.{Finish}
use Rattle.invariant_check.specs.declared.walk.Node.{Node}

-- ---- a wire leads to a port

-- what lies at the other end of a link is a port
joints_ports : (ports : List ℕ) (first : ℕ) (links : List (ℕ × ℕ × ℕ × ℕ)) (s p : ℕ) (far : ℕ × ℕ × ℕ) → All (IsPort ports) (ends_of links)
    → slice_get (filter_map (λ joint. cond (is_place s p joint.0) (Some joint.1) None) (joints first links)) 0 ≡ Some far → IsPort ports (far.1, far.2)
joints_ports ports first [] s p far all e = absurd (none-some far e)
joints_ports ports first (ends ∷ links) s p far all e =
    let one = All-head (IsPort ports) (ends.0, ends.1) ((ends.2, ends.3) ∷ ends_of links) all in
    let later = All-tail (IsPort ports) (ends.0, ends.1) ((ends.2, ends.3) ∷ ends_of links) all in
    let other = All-head (IsPort ports) (ends.2, ends.3) (ends_of links) later in
    elim (cases_Bool (is_place s p (ends.0, ends.1))) [
      | inl here ↦ let is : ◌≡◌ {A = Option (ℕ × ℕ × ℕ)} (Some (first, ends.2, ends.3)) (Some far) = rw here at e in subst (λ (f : ℕ × ℕ × ℕ). IsPort ports (f.1, f.2)) (let same : ◌≡◌ {A = ℕ × ℕ × ℕ} (first, ends.2, ends.3) far = cc in same) other
      | inr not_here ↦
          let second = rw not_here at e in
          elim (cases_Bool (is_place s p (ends.2, ends.3))) [
            | inl there ↦ let is : ◌≡◌ {A = Option (ℕ × ℕ × ℕ)} (Some (first, ends.0, ends.1)) (Some far) = rw there at second in subst (λ (f : ℕ × ℕ × ℕ). IsPort ports (f.1, f.2)) (let same : ◌≡◌ {A = ℕ × ℕ × ℕ} (first, ends.0, ends.1) far = cc in same) one
            | inr not_there ↦ joints_ports ports (first + 1) links s p far (All-tail (IsPort ports) (ends.2, ends.3) (ends_of links) later) (rw not_there at second)
          ]
    ]

landing_port : (ports : List ℕ) (status : Status) (far : Option (ℕ × ℕ × ℕ)) (host : Option ℕ) (s p : ℕ) → ((f : ℕ × ℕ × ℕ) → far ≡ Some f → IsPort ports (f.1, f.2))
    → landing_of status far host ≡ Wire s p → IsPort ports (s, p)
landing_port ports status None None s p port e = absurd cc
landing_port ports status None (Some h) s p port e = absurd cc
landing_port ports status (Some f) host s p port e = elim (cases_Bool (is_up status.link_up f.0)) [
  | inl up ↦
      let second = rw up at e in
      elim (cases_Bool (is_up status.switch_up f.1)) [
        | inl on ↦
            let is : Wire f.1 f.2 ≡ Wire s p = rw on at second in
            let at : f.1 ≡ s = cc in
            let by : f.2 ≡ p = cc in
            subst (λ (k : ℕ). IsPort ports (s, k)) by (subst (λ (k : ℕ). IsPort ports (k, f.2)) at (port f refl))
        | inr off ↦ absurd (let lost = rw off at second in cc lost)
      ]
  | inr down ↦ absurd (let lost = rw down at e in cc lost)
]

wire_port : (net : NetState) (s : ℕ) (target : Target) (far p : ℕ) → IsNet net → landing_by net s target ≡ Some (Wire far p) → IsPort net.topology.ports (far, p)
wire_port net s Controller far p valid e = absurd cc
wire_port net s (Port out) far p valid e =
    let is : landing net.topology net.status s out ≡ Wire far p = cc in
    landing_port net.topology.ports net.status (far_end net.topology s out) (host_at net.status s out) far p
    (λ f found. joints_ports net.topology.ports 0 net.topology.links s out f valid.status.ends found) is

-- ---- what a reach says

some_end : (invariant : Invariant) (o : Option Finish) (finish : Finish) → end_of_some invariant o ≡ End finish → (o ≡ Some finish) × (is_forbidden invariant finish ≡ true)
some_end invariant None finish e = absurd cc
some_end invariant (Some f) finish e = elim (cases_Bool (is_forbidden invariant f)) [
  | inl is ↦ let at : End f ≡ End finish = rw is at e in let same : f ≡ finish = cc in (ap Some same, subst (λ (g : Finish). is_forbidden invariant g ≡ true) same is)
  | inr not ↦ absurd (let at = rw not at e in cc at)
]

no_onward : (invariant : Invariant) (o : Option Finish) (stop : Stop) → end_of_some invariant o ≡ Onward stop → ⊥
no_onward invariant None stop e = cc
no_onward invariant (Some f) stop e = elim (cases_Bool (is_forbidden invariant f)) [ inl is ↦ let at = rw is at e in cc at | inr not ↦ let at = rw not at e in cc at ]

reach_end : (invariant : Invariant) (s : ℕ) (hop : Hop) (o : Option Landing) (finish : Finish) → reach_by invariant s hop o ≡ End finish
    → (landing : Landing) × (o ≡ Some landing) × (end_by s hop.target hop.plain landing ≡ Some finish) × (is_forbidden invariant finish ≡ true)
reach_end invariant s hop None finish e = absurd cc
reach_end invariant s hop (Some (Wire far p)) finish e = absurd cc
reach_end invariant s hop (Some (Host host)) finish e = let parts = some_end invariant _ finish e in (Host host, refl, parts.0, parts.1)
reach_end invariant s hop (Some (Lost why)) finish e = let parts = some_end invariant _ finish e in (Lost why, refl, parts.0, parts.1)

reach_onward : (invariant : Invariant) (s : ℕ) (hop : Hop) (o : Option Landing) (stop : Stop) → reach_by invariant s hop o ≡ Onward stop → (o ≡ Some (Wire stop.s stop.p)) × (stop.sets ≡ hop.sets)
reach_onward invariant s hop None stop e = absurd cc
reach_onward invariant s hop (Some (Wire far p)) stop e =
    let is : ◌≡◌ {A = Stop} (record { s = far; p = p; sets = hop.sets }) stop = cc in
    (ap (λ (t : Stop). Some (Wire t.s t.p)) is, sym (ap (λ (t : Stop). t.sets) is))
reach_onward invariant s hop (Some (Host host)) stop e = absurd (no_onward invariant (end_by s hop.target hop.plain (Host host)) stop e)
reach_onward invariant s hop (Some (Lost why)) stop e = absurd (no_onward invariant (end_by s hop.target hop.plain (Lost why)) stop e)

-- an end that is forbidden is reached
ends_reached : (invariant : Invariant) (s : ℕ) (hop : Hop) (landing : Landing) (finish : Finish) → end_by s hop.target hop.plain landing ≡ Some finish → is_forbidden invariant finish ≡ true
    → reach_by invariant s hop (Some landing) ≡ End finish
ends_reached invariant s hop (Wire far p) finish e forbidden = absurd cc
ends_reached invariant s hop (Host host) finish e forbidden = ap (end_of_some invariant) e ∙ rw forbidden refl
ends_reached invariant s hop (Lost why) finish e forbidden = ap (end_of_some invariant) e ∙ rw forbidden refl

-- ---- for a header

module _ (net : NetState) (invariant : Invariant) (cell : List Interval) (stop : Stop) (hops : List Hop) (n : ℕ) (hop : Hop) (are : AreHops net cell stop hops) (here : slice_get hops n ≡ Some hop) where
  output_here : (h : Header) → IsTrue (in_cell cell h) → slice_get (outputs_at net (node_at h stop)) n ≡ Some (output_at h hop)
  output_here h inside = ap (λ (os : List Output). slice_get os n) (are h inside) ∙ slice_get-map (output_at h) hops n ∙ ap (option_map (output_at h)) here

  pub ends_here : (finish : Finish) → reach_of net invariant stop.s hop ≡ End finish → (h : Header) → IsTrue (in_cell cell h)
      → EndsBy net (node_at h stop) n finish × (is_forbidden invariant finish ≡ true)
  ends_here finish e h inside =
      let parts = reach_end invariant stop.s hop (landing_by net stop.s hop.target) finish e in
      (record { output = output_at h hop; here = output_here h inside; landing = parts.0; lands = parts.1; ends = parts.2 }, parts.3)

  pub goes_here : (next : Stop) → reach_of net invariant stop.s hop ≡ Onward next → (h : Header) → IsTrue (in_cell cell h) → GoesOn net (node_at h stop) n (node_at h next)
  goes_here next e h inside =
      let parts = reach_onward invariant stop.s hop (landing_by net stop.s hop.target) next e in
      record { output = output_at h hop; here = output_here h inside; wire = parts.0; header = ap (λ (sets : _). rewritten sets h) parts.1 }

  pub stop_here : (next : Stop) → reach_of net invariant stop.s hop ≡ Onward next → IsNet net → IsValidRewrite hop.sets → IsStop net next
  stop_here next e valid sets =
      let parts = reach_onward invariant stop.s hop (landing_by net stop.s hop.target) next e in
      record { place = wire_port net stop.s hop.target next.s next.p valid parts.0; sets = subst IsValidRewrite (sym parts.1) sets }

  pub nothing_here : reach_of net invariant stop.s hop ≡ Nothing → (h : Header) → IsTrue (in_cell cell h) → (loop : Bool) (all finished : List Node)
      → Tried (GoesOn net) (EndsBadly net invariant) loop all finished (node_at h stop) n
  nothing_here e h inside loop all finished = record {
    free = λ bad.
        let output : bad.ends.output ≡ output_at h hop = cc (bad.ends.here, output_here h inside) in
        let lands = subst (λ (o : Output). landing_by net stop.s o.target ≡ Some bad.ends.landing) output bad.ends.lands in
        let ends = subst (λ (o : Output). end_by stop.s o.target o.plain bad.ends.landing ≡ Some bad.finish) output bad.ends.ends in
        let reached = ends_reached invariant stop.s hop bad.ends.landing bad.finish ends bad.forbidden in
        let at : reach_of net invariant stop.s hop ≡ End bad.finish = ap (reach_by invariant stop.s hop) lands ∙ reached in
        let clash : Nothing ≡ End bad.finish = sym e ∙ at in
        cc clash;
    leads = λ y g.
        let output : g.output ≡ output_at h hop = cc (g.here, output_here h inside) in
        let lands = subst (λ (o : Output). landing_by net stop.s o.target ≡ Some (Wire y.s y.p)) output g.wire in
        let at : reach_of net invariant stop.s hop ≡ Onward (record { s = y.s; p = y.p; sets = hop.sets }) = ap (reach_by invariant stop.s hop) lands in
        let clash : Nothing ≡ Onward (record { s = y.s; p = y.p; sets = hop.sets }) = sym e ∙ at in
        absurd (cc clash);
  }

-- past the last hop there is no output
pub none_past : (net : NetState) (invariant : Invariant) (cell : List Interval) (stop : Stop) (hops : List Hop) (n q : ℕ) → AreHops net cell stop hops → length hops ≤ n → n ≤ q
    → (h : Header) → IsTrue (in_cell cell h) → (EndsBadly net invariant (node_at h stop) q → ⊥) × ((z : Node) → GoesOn net (node_at h stop) q z → ⊥)
none_past net invariant cell stop hops n q are all past h inside =
    let none : slice_get (outputs_at net (node_at h stop)) q ≡ None =
    ap (λ (os : List Output). slice_get os q) (are h inside) ∙ slice_get_past (map (output_at h) hops) q (rw length-map (omega arith)) in
    (λ bad. none-some bad.ends.output (sym none ∙ bad.ends.here), λ z g. none-some g.output (sym none ∙ g.here))
