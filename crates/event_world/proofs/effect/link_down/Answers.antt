-- A link is cut in the status after it went down.
use Rattle.std.proofs.Common.{◌≡◌, ℕ, Bool, List, ◌++◌, ap, ◌∙◌, filter, map, true, false, Option, slice_get, slice_set}
use Rattle.of10_messages.specs.declared.notice.Notice.TheVariants.{Port}
use Rattle.pool_book.specs.declared.name.PoolName.TheVariants.{Pkt}
use Rattle.topology.specs.Status.{is_up}
use Rattle.topology.specs.declared.status.Status.{Status}
use Rattle.event_world.specs.Inputs.{no_effect, tells}
use Rattle.event_world.specs.declared.effect.Effect.{Effect}
use Rattle.event_world.proofs.Effects.{both_ends}
use Rattle.event_world.proofs.effect.link_down.Goals as goal

abbrev cut_at : Effect → Option (ℕ × ℕ × ℕ × ℕ) → Effect
cut_at change ends = record {
  status = change.status;
  flushes = change.flushes ++ map (λ (end : ℕ × ℕ). Pkt end.0 end.1) (both_ends ends);
  mail = change.mail ++ map (λ (end : ℕ × ℕ). tells end.0 (Port end.1 true)) (filter (λ (end : ℕ × ℕ). is_up change.status.switch_up end.0) (both_ends ends));
}

pub returns : goal.returns
returns c =
    let after : Status = record c.in_ok-after.after { link_up = c.replace.new.self } in
    let same : after ≡ record c.args.status.now { link_up = slice_set c.args.status.now.link_up c.args.link false } =
    ap (λ (links : List Bool). record c.in_ok-after.after { link_up = links }) c.replace.ensures
    ∙ ap (λ (at : ℕ). record c.in_ok-after.after { link_up = slice_set c.in_ok-after.after.link_up at false }) c.from.ensures
    ∙ ap (λ (status : Status). record status { link_up = slice_set status.link_up c.args.link false }) c.in_ok-after.ensures in
    c.in_ok-cut_ends.ensures
    ∙ ap (λ (change : Effect). cut_at change c.ends_of.result) c.to-change.ensures
    ∙ ap (cut_at (no_effect after)) c.ends_of.ensures
    ∙ ap (λ (status : Status). cut_at (no_effect status) (slice_get c.args.topology.now.links c.args.link)) same
