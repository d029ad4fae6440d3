-- How many bytes actions have at least.
use Rattle.std.proofs.Common.{◌*◌, ◌≤◌, List, [], ◌∷◌, All, length, arith}
use Rattle.std.proofs.lemmas.List.Elements.{All-head, All-tail}
use Rattle.std.proofs.lemmas.List.Sums.{sum_by-cons}
use Rattle.of10_messages.specs.Lengths.{action_len, actions_len}
use Rattle.of10_messages.specs.Valid.{IsValidAction}
use Rattle.of10_messages.specs.declared.action.Action.{Action}
use Rattle.of10_messages.specs.declared.action.Action.TheVariants as action

-- an action has at least 8 bytes
least_action : (a : Action) → IsValidAction a → 8 ≤ action_len a
least_action (action.Other kind body) valid = omega (arith, valid.padded)
least_action (action.Output port max_len) valid = omega arith
least_action (action.SetVlanVid vlan) valid = omega arith
least_action (action.SetVlanPcp pcp) valid = omega arith
least_action action.StripVlan valid = omega arith
least_action (action.SetDlSrc address) valid = omega arith
least_action (action.SetDlDst address) valid = omega arith
least_action (action.SetNwSrc address) valid = omega arith
least_action (action.SetNwDst address) valid = omega arith
least_action (action.SetNwTos tos) valid = omega arith
least_action (action.SetTpSrc port) valid = omega arith
least_action (action.SetTpDst port) valid = omega arith

-- so many actions have at least 8 times as many bytes
pub least_actions : (actions : List Action) → All IsValidAction actions → 8 * length actions ≤ actions_len actions
least_actions [] valid = omega arith
least_actions (a ∷ actions) valid =
    let one = least_action a (All-head IsValidAction a actions valid) in
    let rest = least_actions actions (All-tail IsValidAction a actions valid) in
    omega (arith, one, rest, sum_by-cons action_len a actions)
