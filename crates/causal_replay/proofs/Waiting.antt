-- Waiting for an entry.
use Rattle.std.proofs.Common.{◌≡◌, ◌∙◌, ℕ, ◌<◌, List, [], ◌∷◌, ◌++◌, length, Some, ap, arith, inl, inr, refl, subst, sym}
use Rattle.std.proofs.lemmas.List.{append-nil, append_assoc, length-append, map-append}
use Rattle.std.proofs.lemmas.List.Sums.{fold-append}
use Rattle.controller_api.specs.Reaction.{Reaction}
use Rattle.controller_api.specs.declared.item.UpItem.{UpItem}
use Rattle.machine_setup.specs.declared.setup.Setup.{Setup}
use Rattle.event_world.specs.Fits.{Fits}
use Rattle.event_world.specs.World.{Situation, first_event, next}
use Rattle.event_world.specs.declared.event.Event.{Event}
use Rattle.event_machine.specs.declared.trace.Entry.{Entry}
use Rattle.event_machine.proofs.Histories.{next_events, next_inputs}
use Rattle.causal_replay.specs.Going.{Waits}
use Rattle.causal_replay.specs.Replay.{HasExpected, IsWait, after, as_extra, events_of}
use Rattle.causal_replay.specs.declared.replayed.Taken.{Taken}
use Rattle.causal_replay.specs.declared.replayed.Why.TheVariants.{Extra}
use Rattle.causal_replay.proofs.Enabled.{IsInternal}
use Rattle.causal_replay.proofs.Pushed.{front_of_front, front_of_last, pushed}

module _ {C : Type 0} (react : C → UpItem → Reaction C) where
  -- the world after one event more
  pub after_more : (setup : Setup C) (world : Situation C) (events : List Event) (event : Event) → after react setup world (events ++ event ∷ []) ≡ next react setup (after react setup world events) event
  after_more setup world events event = fold-append (next react setup) world events (event ∷ [])

  -- the world after steps and then others
  pub after_on : (setup : Setup C) (world : Situation C) (steps more : List Taken) → after react setup world (events_of (steps ++ more)) ≡ after react setup (after react setup world (events_of steps)) (events_of more)
  after_on setup world steps more = ap (after react setup world) (map-append (λ (one : Taken). one.event) steps more) ∙ fold-append (next react setup) world (events_of steps) (events_of more)

  -- a wait goes on by the first event that is enabled
  wait_more : (setup : Setup C) (world : Situation C) (entry : Entry) (extra : List Event) (event : Event) → IsWait react setup world entry extra → length extra < setup.limits.budget
      → (¬ HasExpected (after react setup world extra).shared entry) → first_event (after react setup world extra).shared ≡ Some event → IsWait react setup world entry (extra ++ event ∷ [])
  wait_more setup world entry extra event known room unmet is = record {
    few = omega (arith, length-append extra (event ∷ []));
    each = λ at other there. elim (pushed extra event at other there) [
      | inl (here, below) ↦ subst (λ (front : List Event). (¬ HasExpected (after react setup world front).shared entry) × (first_event (after react setup world front).shared ≡ Some other)) (sym (front_of_front extra event at below)) (known.each at other here)
      | inr (e, same) ↦ subst (λ (front : List Event). (¬ HasExpected (after react setup world front).shared entry) × (first_event (after react setup world front).shared ≡ Some other)) (sym (front_of_last extra event at e)) (unmet, is ∙ ap Some same)
    ];
  }

  module _ (policies : C → ℕ) where
    -- before the first extra event
    pub waits_none : (setup : Setup C) (entry : Entry) (run : List Taken) (world : Situation C) → Fits policies setup world → Waits react policies setup entry [] run run world world
    waits_none setup entry run world fits = record {
      wait = record { few = omega arith; each = λ at other there. absurd cc };
      run = sym (append-nil run);
      world = refl;
      fits = fits;
      events = omega arith;
      inputs = refl;
    }

    -- one extra event more
    pub waits_more : (setup : Setup C) (entry : Entry) (extra : List Event) (event : Event) (run run' run'' : List Taken) (world world' world'' : Situation C) → Waits react policies setup entry extra run run' world world' → length extra < setup.limits.budget
        → (¬ HasExpected world'.shared entry) → first_event world'.shared ≡ Some event → IsInternal setup world' event
        → run'' ≡ run' ++ record { event = event; why = Extra } ∷ [] → world'' ≡ next react setup world' event → Fits policies setup world''
        → Waits react policies setup entry (extra ++ event ∷ []) run run'' world world''
    waits_more setup entry extra event run run' run'' world world' world'' known room unmet is internal longer goes fits =
        let last : List Taken = record { event = event; why = Extra } ∷ [] in
        record {
          wait = wait_more setup world entry extra event known.wait room (subst (λ (w : Situation C). ¬ HasExpected w.shared entry) known.world unmet) (ap (λ (w : Situation C). first_event w.shared) (sym known.world) ∙ is);
          run = longer ∙ ap (λ (front : List Taken). front ++ last) known.run ∙ append_assoc run (as_extra extra) last
              ∙ ap (λ (more : List Taken). run ++ more) (sym (map-append (λ (event : Event). record { event = event; why = Extra }) extra (event ∷ [])));
          world = goes ∙ ap (λ (w : Situation C). next react setup w event) known.world ∙ sym (after_more setup world extra event);
          fits = fits;
          events = ap (λ (w : Situation C). w.shared.events) goes ∙ next_events react setup world' event ∙ omega (arith, known.events, length-append extra (event ∷ []));
          inputs = ap (λ (w : Situation C). w.shared.inputs) goes ∙ next_inputs react setup world' event ∙ omega (arith, known.inputs, internal.counts);
        }
