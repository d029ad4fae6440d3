use Rattle.std.proofs.Common.{All}
use Rattle.scenario_doc.proofs.Columns.{wide_columns}
use Rattle.scenario_doc.proofs.draft.DraftFormForm.read.Goals as goal

pub returns-clause-holds : goal.returns-clause-holds
returns-clause-holds c = let wide = wide_columns c.in_ok-switches.switches _ _ _ c.in_ok-columns.ensures.ports c.in_ok-columns.ensures.owner c.in_ok-columns.ensures.presets c.in_ok-switches.ensures.holds.0 c.in_ok-switches.ensures.holds.1 in record {
  few_switches = wide.few;
  ports = wide.ports;
  owners = wide.owners;
  lists = wide.lists;
  presets = wide.presets;
  few_links = c.in_ok-links.ensures.holds;
  few_hosts = c.in_ok-hosts.ensures.holds.0;
  hosts = c.in_ok-hosts.ensures.holds.1;
  few_plans = c.in_ok-plans.ensures.holds.0;
  plans = c.in_ok-plans.ensures.holds.1;
  few_lines = c.in_ok-script.ensures.holds.0;
  lines = c.in_ok-script.ensures.holds.1;
  limits = record { max_events = c.in_ok-max_events.ensures.range; budget = c.in_ok-budget.ensures.range.1; workers = c.in_ok-workers.ensures.range; patience = c.in_ok-patience.ensures.range.1 };
  few_invariants = c.in_ok-invariants.ensures.holds.0;
  invariants = c.in_ok-invariants.ensures.holds.1;
}
