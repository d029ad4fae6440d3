-- Where a hop comes to.
use Rattle.std.specs.Prelude.{ℕ, Option, Some, None, if◌then◌else◌}
use Rattle.topology.specs.declared.invariant.Invariant.{Invariant}
use Rattle.topology.specs.declared.landing.Landing.{Landing}
use Rattle.topology.specs.declared.landing.Landing.TheVariants.{Wire}
use Rattle.event_world.specs.declared.net_state.NetState.{NetState}
use Rattle.invariant_check.specs.Verdict.{is_forbidden}
use Rattle.invariant_check.specs.Walk.{end_by, landing_by}
use Rattle.invariant_check.specs.declared.reach.Reach.{Reach}
use Rattle.invariant_check.specs.declared.reach.Reach.TheVariants.{Onward, End, Nothing}
use Rattle.invariant_check.specs.declared.stop.Hop.{Hop}
use Rattle.invariant_check.specs.declared.walk.Finish.{Finish}

-- an end, if it is forbidden
abbrev pub end_of : Invariant → Finish → Reach
end_of invariant finish = if is_forbidden invariant finish then End finish else Nothing

abbrev pub end_of_some : Invariant → Option Finish → Reach
end_of_some invariant None = Nothing
end_of_some invariant (Some finish) = end_of invariant finish

-- where a hop comes to that lands so
abbrev pub reach_by : Invariant → ℕ → Hop → Option Landing → Reach
reach_by invariant s hop None = Nothing
reach_by invariant s hop (Some (Wire far p)) = Onward (record { s = far; p = p; sets = hop.sets })
reach_by invariant s hop (Some landing) = end_of_some invariant (end_by s hop.target hop.plain landing)

-- where a hop from a switch comes to
abbrev pub reach_of : NetState → Invariant → ℕ → Hop → Reach
reach_of net invariant s hop = reach_by invariant s hop (landing_by net s hop.target)
