-- The entries that are counted stand in the table.
use Rattle.std.proofs.Common.{◌∙◌, ◌<◌, ℕ, length, rules}
use Rattle.std.proofs.lemmas.List.Elements.{All-same}
use Rattle.switch_core.proofs.Stays.{hits_within}
use Rattle.switch_core.proofs.state.State.plan_actions.Goals as goal

pub returns-clause-fits : goal.returns-clause-fits
returns-clause-fits c =
    let s = c.args.self.now in
    let counts = c.planned.result.counts in
    record {
      hits = All-same (λ (place : ℕ). place < length s.table) counts.hits _ (c.planned.ensures.hits ∙ c.of.ensures ∙ c.in_ok-hits.ensures.hits)
          (hits_within s c.args.in_port c.as_slice.result.now);
      next_xid = search rules;
    }
