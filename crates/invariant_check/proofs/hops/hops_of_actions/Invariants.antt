-- What the actions so far send, and what those that are left send, is what all send, for each header.
use Rattle.std.proofs.Common.{◌≡◌, ◌++◌, All, drop, map}
use Rattle.of10_match.specs.declared.header.Header.{Header}
use Rattle.flow_table.specs.Outcome.{outcome}
use Rattle.header_classes.specs.Rewrite.{IsValidRewrite, rewritten}
use Rattle.invariant_check.specs.Stop.{output_at}
use Rattle.invariant_check.proofs.hops.hops_of_actions.Given as goal

abbrev pub invariant-loop-action : goal.invariant-loop-action
invariant-loop-action l = record {
  all : (h : Header) → map (output_at h) l.hops ++ outcome l.ports l.stop.p (rewritten l.sets h) (drop l.action-index l.actions) ≡ outcome l.ports l.stop.p (rewritten l.stop.sets h) l.actions;
  valid : IsValidRewrite l.sets;
  each : All (λ hop. IsValidRewrite hop.sets) l.hops;
}
