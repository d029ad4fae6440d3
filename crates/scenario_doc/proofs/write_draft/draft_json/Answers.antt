use Rattle.std.proofs.Common.{ap}
use Rattle.serde_json.specs.View.{members_view, view}
use Rattle.serde_json.proofs.Views.{view-Object}
use Rattle.scenario_doc.proofs.WrittenMembers.{draft_written}
use Rattle.scenario_doc.proofs.write_draft.draft_json.Goals as goal

pub returns : goal.returns
returns c = rw (view-Object c.put-11.new.map) (draft_written (record { topology = c.args.topology.now; presets = c.args.presets.now; plans = c.args.plans.now; script = c.args.script.now; limits = c.args.limits.now; invariants = c.args.invariants.now })
    (view c.from.result) (view c.in_ok-plans.plans) (view c.in_ok-hosts.hosts) (view c.in_ok-invariants.invariants) (view c.in_ok-links.links) (view c.from-2.result) (view c.from-3.result) (view c.in_ok-script.script) (view c.from-4.result) (view c.in_ok-switches.switches) (view c.from-5.result)
    (members_view c.new-members.result.entries) (members_view c.put.new.map.entries) (members_view c.put-2.new.map.entries) (members_view c.put-3.new.map.entries) (members_view c.put-4.new.map.entries) (members_view c.put-5.new.map.entries) (members_view c.put-6.new.map.entries) (members_view c.put-7.new.map.entries) (members_view c.put-8.new.map.entries) (members_view c.put-9.new.map.entries) (members_view c.put-10.new.map.entries) (members_view c.put-11.new.map.entries)
    c.from.ensures (rw c.as_slice.ensures at (c.in_ok-plans.ensures {u = tt})) (rw c.as_slice-2.ensures at (c.in_ok-hosts.ensures {u = tt})) (rw c.as_slice-3.ensures at (c.in_ok-invariants.ensures {u = tt})) (rw c.as_slice-4.ensures at (c.in_ok-links.ensures {u = tt})) c.from-2.ensures c.from-3.ensures (rw c.as_slice-5.ensures at (c.in_ok-script.ensures {u = tt})) c.from-4.ensures (rw (c.as_slice-6.ensures, c.as_slice-7.ensures, c.as_slice-8.ensures) at (c.in_ok-switches.ensures {u = tt})) c.from-5.ensures
    (ap members_view c.new-members.ensures.empty) (c.in_ok-put.ensures {u = tt}).ok (c.in_ok-put-2.ensures {u = tt}).ok (c.in_ok-put-3.ensures {u = tt}).ok (c.in_ok-put-4.ensures {u = tt}).ok (c.in_ok-put-5.ensures {u = tt}).ok (c.in_ok-put-6.ensures {u = tt}).ok (c.in_ok-put-7.ensures {u = tt}).ok (c.in_ok-put-8.ensures {u = tt}).ok (c.in_ok-put-9.ensures {u = tt}).ok (c.in_ok-put-10.ensures {u = tt}).ok (c.in_ok-put-11.ensures {u = tt}).ok)
