-- What the table has, or that a switch is at the end of no link.
use Rattle.std.proofs.Common.{◌≡◌, ◌<◌, ℕ, List, Option, Some, None, Contains, get_or, length, subst, sym}
use Rattle.route_app.specs.Paths.{IsNextHop, exits_of}
use Rattle.route_app.specs.Routing.{Router, usable}
use Rattle.route_app.specs.Table.{ways}
use Rattle.route_app.specs.declared.reach.Reach.{Reach}
use Rattle.route_app.proofs.Named.{hop_found, hop_kept, none_from, none_to, port_of}
use Rattle.route_app.proofs.routing.Routing.look_up.Goals as goal

pub returns-in_err-first : goal.returns-in_err-first
returns-in_err-first c =
    let r = c.self.inside in
    let before : Router = record { clear_on_down = r.clear_on_down; map = r.map; down = r.down } in
    subst (IsNextHop (exits_of (usable c.args.self.now)) c.args.from c.args.to) (sym c.from_residual.ensures)
    (hop_kept c.args.from c.args.to None before c.args.self.now c.self.view_is
    (none_from r.map.links r.wires r.switches r.down r.rows c.args.from c.args.to c.self.invariant c.requires (subst (λ (xs : List ℕ). ¬ Contains xs c.args.from) c.as_slice.ensures c.in_err-first.ensures)))

pub returns-in_err-last : goal.returns-in_err-last
returns-in_err-last c =
    let r = c.self.inside in
    let before : Router = record { clear_on_down = r.clear_on_down; map = r.map; down = r.down } in
    subst (IsNextHop (exits_of (usable c.args.self.now)) c.args.from c.args.to) (sym c.from_residual-in_err-last.ensures)
    (hop_kept c.args.from c.args.to None before c.args.self.now c.self.view_is
    (none_to r.map.links r.wires r.switches r.down r.rows c.args.from c.args.to c.self.invariant c.requires (subst (λ (xs : List ℕ). ¬ Contains xs c.args.to) c.as_slice-2.ensures c.in_err-last.ensures)))

pub returns-in-None : goal.returns-in-None
returns-in-None c =
    let r = c.self.inside in
    let before : Router = record { clear_on_down = r.clear_on_down; map = r.map; down = r.down } in
    hop_kept c.args.from c.args.to None before c.args.self.now c.self.view_is
    (subst (λ (o : Option Reach). IsNextHop (ways r.map.links r.down) c.args.from c.args.to (port_of o)) (sym c.in-None.ensures)
    (hop_found r.map.links r.wires r.switches r.down r.rows c.args.from c.args.to c.in_ok-first.first c.in_ok-last.last c.self.invariant c.requires
    (subst (λ (xs : List ℕ). (c.in_ok-first.first < length xs) × (get_or xs c.in_ok-first.first 0 ≡ c.args.from)) c.as_slice.ensures c.in_ok-first.ensures)
    (subst (λ (xs : List ℕ). (c.in_ok-last.last < length xs) × (get_or xs c.in_ok-last.last 0 ≡ c.args.to)) c.as_slice-2.ensures c.in_ok-last.ensures)))

pub returns-in-Some : goal.returns-in-Some
returns-in-Some c =
    let r = c.self.inside in
    let before : Router = record { clear_on_down = r.clear_on_down; map = r.map; down = r.down } in
    hop_kept c.args.from c.args.to (Some c.in-Some.reach.port) before c.args.self.now c.self.view_is
    (subst (λ (o : Option Reach). IsNextHop (ways r.map.links r.down) c.args.from c.args.to (port_of o)) (sym c.in-Some.ensures)
    (hop_found r.map.links r.wires r.switches r.down r.rows c.args.from c.args.to c.in_ok-first.first c.in_ok-last.last c.self.invariant c.requires
    (subst (λ (xs : List ℕ). (c.in_ok-first.first < length xs) × (get_or xs c.in_ok-first.first 0 ≡ c.args.from)) c.as_slice.ensures c.in_ok-first.ensures)
    (subst (λ (xs : List ℕ). (c.in_ok-last.last < length xs) × (get_or xs c.in_ok-last.last 0 ≡ c.args.to)) c.as_slice-2.ensures c.in_ok-last.ensures)))
