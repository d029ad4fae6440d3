-- What an action sends does not hang on the header, but for the header of what is sent.
use Rattle.std.proofs.Common.{◌≡◌, ◌∙◌, ◌+◌, ◌<◌, ◌||◌, ◌++◌, ℕ, suc, Bool, true, false, List, [], ◌∷◌, Option, Some, None, IsTrue, cond, drop, get_or, length, map, refl, sym, ap, subst, append_assoc, append-nil, arith}
use Rattle.std.specs.Bool.{◌==◌}
use Rattle.std.specs.List.{slice_get, slice_index}
use Rattle.std.specs.Option.{option_and_then, option_map_or}
use Rattle.std.proofs.Math.Seq.{drop-cons}
use Rattle.std.proofs.lemmas.List.{map-append}
use Rattle.of10_match.specs.declared.header.Header.{Header}
use Rattle.of10_messages.specs.declared.action.Action.{Action}
use Rattle.of10_messages.specs.declared.action.Action.TheVariants as action
use Rattle.flow_table.specs.Best.{best_place}
use Rattle.flow_table.specs.Outcome.{after_action, is_port, outcome, outputs_of, outputs_to, ports_but}
use Rattle.flow_table.specs.declared.entry.Entry.{Entry}
use Rattle.flow_table.specs.declared.outputs.Output.{Output}
use Rattle.header_classes.specs.Cell.{in_cell}
use Rattle.header_classes.specs.declared.interval.Interval.{Interval}
use Rattle.event_world.specs.declared.net_state.NetState.{NetState}
use Rattle.header_classes.specs.Rewrite.{rewritten}
use Rattle.header_classes.specs.declared.rewrite.Rewrite.{Rewrite}
use Rattle.invariant_check.specs.Stop.{AreHops, hop_of, output_at}
use Rattle.invariant_check.specs.declared.stop.Stop.{Stop}
use Rattle.invariant_check.specs.declared.stop.Hop.{Hop}

-- an output with another header
with_header : Header → Output → Output
with_header h output = record { target = output.target; header = h; plain = output.plain }

either_way : {A B : Type 0} (f : A → B) (b : Bool) (x y : List A) (v w : List B) → map f x ≡ v → map f y ≡ w → map f (cond b x y) ≡ cond b v w
either_way f true x y v w p q = p
either_way f false x y v w p q = q

each_port : (h any : Header) (g k : ℕ → Output) → ((n : ℕ) → with_header h (g n) ≡ k n) → (ns : List ℕ) → map (with_header h) (map g ns) ≡ map k ns
each_port h any g k is [] = refl
each_port h any g k is (n ∷ ns) = cc (is n, each_port h any g k is ns)

to_port : (ports in_port : ℕ) (any h : Header) (port : ℕ) → map (with_header h) (outputs_to ports in_port any port) ≡ outputs_to ports in_port h port
unfolding with_header
to_port ports in_port any h port =
    let f = with_header h in
    either_way f (port == 65528) _ _ _ _ (either_way f (is_port ports in_port) _ _ _ _ refl refl)
    (either_way f (port == 65531 || port == 65532) _ _ _ _ (each_port h any _ _ (λ n. refl) (ports_but ports in_port))
    (either_way f (port == 65533) _ _ _ _ refl
    (either_way f (port == 65529) _ _ _ _ refl
    (either_way f (port == in_port) _ _ _ _ refl refl))))

by_action : (ports in_port : ℕ) (any h : Header) (a : Action) → map (with_header h) (outputs_of ports in_port any a) ≡ outputs_of ports in_port h a
by_action ports in_port any h (action.Output port max_len) = to_port ports in_port any h port
by_action ports in_port any h _ = refl

-- as hops, and for a header
as_hops : (sets : Rewrite) (h : Header) (outputs : List Output) → map (output_at h) (map (hop_of sets) outputs) ≡ map (with_header (rewritten sets h)) outputs
unfolding with_header
as_hops sets h [] = refl
as_hops sets h (o ∷ outputs) = ap (λ (os : List Output). with_header (rewritten sets h) o ∷ os) (as_hops sets h outputs)

-- the hops after one action more
pub next_hops : (ports in_port : ℕ) (any h : Header) (sets new : Rewrite) (actions : List Action) (n : ℕ) (a : Action) (so_far after : List Hop) (sent all : List Output)
    → n < length actions → a ≡ get_or actions n a → sent ≡ outcome ports in_port any (a ∷ []) → after ≡ so_far ++ map (hop_of sets) sent
    → rewritten new h ≡ after_action (rewritten sets h) a
    → map (output_at h) so_far ++ outcome ports in_port (rewritten sets h) (drop n actions) ≡ all
    → map (output_at h) after ++ outcome ports in_port (rewritten new h) (drop (n + 1) actions) ≡ all
next_hops ports in_port any h sets new actions n a so_far after sent all within is are put act before =
    let next : suc n ≡ n + 1 = omega arith in
    let first : drop n actions ≡ a ∷ drop (n + 1) actions = subst (λ (m : ℕ). drop n actions ≡ a ∷ drop m actions) next
    (subst (λ (x : Action). drop n actions ≡ x ∷ drop (suc n) actions) (sym is) (drop-cons actions n a within)) in
    let sent_is : sent ≡ outputs_of ports in_port any a = are ∙ append-nil (outputs_of ports in_port any a) in
    let more : map (output_at h) (map (hop_of sets) sent) ≡ outputs_of ports in_port (rewritten sets h) a =
    as_hops sets h sent ∙ ap (map (with_header (rewritten sets h))) sent_is ∙ by_action ports in_port any (rewritten sets h) a in
    let both : map (output_at h) after ≡ map (output_at h) so_far ++ outputs_of ports in_port (rewritten sets h) a =
    ap (map (output_at h)) put ∙ map-append (output_at h) so_far (map (hop_of sets) sent) ∙ ap (λ (os : List Output). map (output_at h) so_far ++ os) more in
    rw (both, act) (append_assoc (map (output_at h) so_far) (outputs_of ports in_port (rewritten sets h) a) (outcome ports in_port (after_action (rewritten sets h) a) (drop (n + 1) actions))
    ∙ rw first at before)

-- ---- the hops of a stop

-- where a table has a best entry, what it sends is what its actions send
pub hit : (net : NetState) (cell : List Interval) (stop : Stop) (table : List Entry) (place : ℕ) (entry : Entry) (ports : ℕ) (actions : List Action) (hops : List Hop)
    → ports ≡ slice_index net.topology.ports stop.s → slice_get net.tables stop.s ≡ Some table → slice_get table place ≡ Some entry → actions ≡ entry.actions
    → ((h : Header) → IsTrue (in_cell cell h) → best_place table stop.p (rewritten stop.sets h) ≡ Some place)
    → ((h : Header) → outcome ports stop.p (rewritten stop.sets h) actions ≡ map (output_at h) hops) → AreHops net cell stop hops
hit net cell stop table place entry ports actions hops at here there acts best are h inside =
    let hdr = rewritten stop.sets h in
    let sends : Entry → List Output = λ e. outcome (slice_index net.topology.ports stop.s) stop.p hdr e.actions in
    ap (λ (o : Option (List Entry)). option_map_or sends (option_and_then (λ (t : List Entry). option_and_then (slice_get t) (best_place t stop.p hdr)) o) []) here
    ∙ ap (λ (o : Option ℕ). option_map_or sends (option_and_then (slice_get table) o) []) (best h inside)
    ∙ ap (λ (o : Option Entry). option_map_or sends o []) there
    ∙ ap (λ (n : ℕ). outcome n stop.p hdr entry.actions) (sym at)
    ∙ ap (outcome ports stop.p hdr) (sym acts)
    ∙ are h

-- where it has none, nothing is sent
pub missed : (net : NetState) (cell : List Interval) (stop : Stop) (table : List Entry) (hops : List Hop) → slice_get net.tables stop.s ≡ Some table
    → ((h : Header) → [] ≡ map (output_at h) hops)
    → ((h : Header) → IsTrue (in_cell cell h) → best_place table stop.p (rewritten stop.sets h) ≡ None) → AreHops net cell stop hops
missed net cell stop table hops here none best h inside =
    let hdr = rewritten stop.sets h in
    let sends : Entry → List Output = λ e. outcome (slice_index net.topology.ports stop.s) stop.p hdr e.actions in
    ap (λ (o : Option (List Entry)). option_map_or sends (option_and_then (λ (t : List Entry). option_and_then (slice_get t) (best_place t stop.p hdr)) o) []) here
    ∙ ap (λ (o : Option ℕ). option_map_or sends (option_and_then (slice_get table) o) []) (best h inside)
    ∙ none h
