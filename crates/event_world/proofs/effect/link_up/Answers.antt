-- The ends of a link are told in the status after it came up.
use Rattle.std.proofs.Common.{◌≡◌, ℕ, Bool, List, [], ◌++◌, ap, ◌∙◌, map, true, false, Option, slice_get, slice_set, if◌then◌else◌}
use Rattle.std.specs.Prelude.{not}
use Rattle.std.specs.List.{list_any}
use Rattle.of10_messages.specs.declared.notice.Notice.TheVariants.{Port}
use Rattle.topology.specs.Status.{is_up}
use Rattle.topology.specs.declared.status.Status.{Status}
use Rattle.event_world.specs.Inputs.{no_effect, tells}
use Rattle.event_world.specs.declared.effect.Effect.{Effect}
use Rattle.event_world.proofs.Effects.{both_ends}
use Rattle.event_world.proofs.effect.link_up.Goals as goal

abbrev joined_at : Effect → Option (ℕ × ℕ × ℕ × ℕ) → Effect
joined_at change ends = record change {
  mail = change.mail ++ (if list_any (λ (end : ℕ × ℕ). not (is_up change.status.switch_up end.0)) (both_ends ends) then []
      else map (λ (end : ℕ × ℕ). tells end.0 (Port end.1 false)) (both_ends ends));
}

pub returns : goal.returns
returns c =
    let after : Status = record c.in_ok-after.after { link_up = c.replace.new.self } in
    let same : after ≡ record c.args.status.now { link_up = slice_set c.args.status.now.link_up c.args.link true } =
    ap (λ (links : List Bool). record c.in_ok-after.after { link_up = links }) c.replace.ensures
    ∙ ap (λ (at : ℕ). record c.in_ok-after.after { link_up = slice_set c.in_ok-after.after.link_up at true }) c.from.ensures
    ∙ ap (λ (status : Status). record status { link_up = slice_set status.link_up c.args.link true }) c.in_ok-after.ensures in
    c.in_ok-join_ends.ensures
    ∙ ap (λ (change : Effect). joined_at change c.ends_of.result) c.to-change.ensures
    ∙ ap (joined_at (no_effect after)) c.ends_of.ensures
    ∙ ap (λ (status : Status). joined_at (no_effect status) (slice_get c.args.topology.now.links c.args.link)) same
