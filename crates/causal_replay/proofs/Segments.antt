-- One entry of a replay.
use Rattle.std.proofs.Common.{◌≡◌, ◌≢◌, ◌∙◌, ℕ, Bool, true, false, List, [], ◌∷◌, ◌++◌, slice_get, Some, None, ap, arith, refl, subst, sym}
use Rattle.std.proofs.lemmas.List.{append-nil, append_assoc}
use Rattle.controller_api.specs.Reaction.{Reaction}
use Rattle.controller_api.specs.declared.item.UpItem.{UpItem}
use Rattle.machine_setup.specs.Setup.{IsValidSetup}
use Rattle.machine_setup.specs.declared.setup.Setup.{Setup}
use Rattle.event_world.specs.Answers.{IsInputEvent}
use Rattle.event_world.specs.Fits.{Fits}
use Rattle.event_world.specs.World.{Situation, next}
use Rattle.event_world.specs.declared.event.Event.{Event}
use Rattle.event_world.specs.declared.event.Event.TheVariants.{In, Ctl, Pkt, Note, App, Admin, Recv}
use Rattle.event_machine.specs.declared.trace.Entry.{Entry}
use Rattle.event_machine.proofs.Histories.{next_events, next_inputs}
use Rattle.causal_replay.specs.Going.{Awaits, EndsWait, GoesOn}
use Rattle.causal_replay.specs.Replay.{IsExpected, Kept, Met, Missed, Skipped, after, as_extra, events_of}
use Rattle.causal_replay.specs.declared.replayed.Taken.{Taken}
use Rattle.causal_replay.specs.declared.replayed.Why.TheVariants.{Expected, Input}
use Rattle.causal_replay.proofs.Enabled.{expected_enabled}
use Rattle.causal_replay.proofs.Waiting.{after_more}

-- the events of a run that begins with extra ones
pub events_on : (extra : List Event) (more : List Taken) → events_of (as_extra extra ++ more) ≡ extra ++ events_of more
events_on [] more = refl
events_on (event ∷ extra) more = ap (λ (rest : List Event). event ∷ rest) (events_on extra more)

pub events_of_extra : (extra : List Event) → events_of (as_extra extra) ≡ extra
events_of_extra [] = refl
events_of_extra (event ∷ extra) = ap (λ (rest : List Event). event ∷ rest) (events_of_extra extra)

-- what is not an input at any position is no input
pub no_input : (event : Event) → ((position : ℕ) → event ≢ In position) → ¬ IsInputEvent event
no_input (In position) never = λ yes'. never position refl
no_input (Ctl s item) never = λ no. no
no_input (Pkt s p item) never = λ no. no
no_input (Note s item) never = λ no. no
no_input (App c s item) never = λ no. no
no_input (Admin c item) never = λ no. no
no_input (Recv h item) never = λ no. no

module _ {C : Type 0} (react : C → UpItem → Reaction C) (policies : C → ℕ) where
  -- an input that is kept
  pub go_kept : (setup : Setup C) (keep : List Bool) (at position : ℕ) (entry : Entry) (run run' : List Taken) (absent absent' : List ℕ) (world world' : Situation C) → entry.event ≡ In position → slice_get keep position ≡ Some true
      → run' ≡ run ++ record { event = entry.event; why = Input } ∷ [] → absent' ≡ absent → world' ≡ next react setup world entry.event → Fits policies setup world'
      → GoesOn react policies setup keep at entry run run' absent absent' world world'
  go_kept setup keep at position entry run run' absent absent' world world' is kept longer same goes fits =
      let events = ap (λ (w : Situation C). w.shared.events) goes ∙ next_events react setup world entry.event in
      let inputs = ap (λ (w : Situation C). w.shared.inputs) goes ∙ next_inputs react setup world entry.event in
      record {
        segment = Kept position;
        is_segment = (is, kept);
        run = longer ∙ ap (λ (event : Event). run ++ record { event = event; why = Input } ∷ []) is;
        absent = same ∙ sym (append-nil absent);
        world = goes ∙ ap (λ (event : Event). next react setup world event) is;
        fits = fits;
        events = omega arith;
        inputs = omega arith;
      }

  -- an input that is skipped
  pub go_skipped : (setup : Setup C) (keep : List Bool) (at position : ℕ) (entry : Entry) (run : List Taken) (absent : List ℕ) (world : Situation C) → entry.event ≡ In position → slice_get keep position ≡ Some false → Fits policies setup world
      → GoesOn react policies setup keep at entry run run absent absent world world
  go_skipped setup keep at position entry run absent world is skipped fits = record {
    segment = Skipped;
    is_segment = (position, is, skipped);
    run = sym (append-nil run);
    absent = sym (append-nil absent);
    world = refl;
    fits = fits;
    events = omega arith;
    inputs = omega arith;
  }

  -- an entry whose event came
  pub go_met : (setup : Setup C) (keep : List Bool) (at : ℕ) (entry : Entry) (event : Event) (run run' run'' : List Taken) (absent absent' : List ℕ) (world world' world'' : Situation C) → IsValidSetup setup
      → Awaits react policies setup entry run run' world world' (Some event)
      → run'' ≡ run' ++ record { event = event; why = Expected at } ∷ [] → absent' ≡ absent → world'' ≡ next react setup world' event → Fits policies setup world''
      → GoesOn react policies setup keep at entry run run'' absent absent' world world''
  go_met setup keep at entry event run run' run'' absent absent' world world' world'' valid awaits longer same goes fits =
      let last : List Taken = record { event = event; why = Expected at } ∷ [] in
      let extra : List Event = awaits.extra in
      let waits = awaits.waits in
      let few = waits.wait.few in
      let most = valid.bounds.budget in
      let counts = (expected_enabled setup world' entry event awaits.ends).counts in
      let events = ap (λ (w : Situation C). w.shared.events) goes ∙ next_events react setup world' event in
      let inputs = ap (λ (w : Situation C). w.shared.inputs) goes ∙ next_inputs react setup world' event in
      record {
        segment = Met at extra event;
        is_segment = (refl, record { wait = waits.wait; expected = subst (λ (w : Situation C). IsExpected w.shared entry event) waits.world awaits.ends });
        run = longer ∙ ap (λ (front : List Taken). front ++ last) waits.run ∙ append_assoc run (as_extra extra) last;
        absent = same ∙ sym (append-nil absent);
        world = goes ∙ ap (λ (w : Situation C). next react setup w event) waits.world ∙ sym (after_more react setup world extra event) ∙ ap (λ (all : List Event). after react setup world all) (sym (events_on extra last));
        fits = fits;
        events = omega (arith, waits.events);
        inputs = omega (arith, waits.inputs);
      }

  -- an entry that is absent
  pub go_missed : (setup : Setup C) (keep : List Bool) (at : ℕ) (entry : Entry) (run run' : List Taken) (absent absent' : List ℕ) (world world' : Situation C) → IsValidSetup setup
      → ((position : ℕ) → entry.event ≢ In position) → Awaits react policies setup entry run run' world world' None
      → absent' ≡ absent ++ at ∷ []
      → GoesOn react policies setup keep at entry run run' absent absent' world world'
  go_missed setup keep at entry run run' absent absent' world world' valid never awaits longer =
      let extra : List Event = awaits.extra in
      let waits = awaits.waits in
      let few = waits.wait.few in
      let most = valid.bounds.budget in
      let ends = subst (λ (w : Situation C). EndsWait setup w entry extra None) waits.world awaits.ends in
      record {
        segment = Missed at extra;
        is_segment = (refl, record { internal = no_input entry.event never; wait = waits.wait; unmet = ends.0; spent = ends.1 });
        run = waits.run;
        absent = longer;
        world = waits.world ∙ ap (λ (all : List Event). after react setup world all) (sym (events_of_extra extra));
        fits = waits.fits;
        events = omega (arith, waits.events);
        inputs = omega (arith, waits.inputs);
      }
