-- What a replay has come to before an entry.
use Rattle.std.proofs.Common.{◌≡◌, ◌∙◌, ℕ, ◌+◌, ◌*◌, ◌<◌, ◌≤◌, ◌^◌, Bool, List, [], ◌∷◌, ◌++◌, length, slice_get, Some, ap, arith, inl, inr, refl, subst, sym}
use Rattle.std.proofs.lemmas.List.{append-nil, length-append}
use Rattle.std.proofs.lemmas.List.Concat.{flat_map-append}
use Rattle.std.proofs.lemmas.Option.{same_Some, slice_get_within}
use Rattle.controller_api.specs.Reaction.{Reaction}
use Rattle.controller_api.specs.declared.item.UpItem.{UpItem}
use Rattle.machine_setup.specs.Setup.{IsValidSetup}
use Rattle.machine_setup.specs.declared.setup.Setup.{Setup}
use Rattle.event_world.specs.Fits.{Fits}
use Rattle.event_world.specs.World.{Situation, start}
use Rattle.event_world.specs.declared.event.Event.{Event}
use Rattle.event_machine.specs.Legal.{IsLegalEvent, IsSoundTo, world_before}
use Rattle.event_machine.specs.declared.trace.Entry.{Entry}
use Rattle.event_machine.proofs.Histories.{next_inputs, world_more}
use Rattle.causal_replay.specs.Going.{GoesOn, IsReady}
use Rattle.causal_replay.specs.Replay.{AreSegments, IsReplay, IsSegment, Segment, absent_in, absent_of, after, events_of, joined, steps_of, world_at}
use Rattle.causal_replay.specs.declared.replayed.Taken.{Taken}
use Rattle.causal_replay.proofs.Enabled.{line_of_input}
use Rattle.causal_replay.proofs.Pushed.{front_of_front, front_of_last, pushed}
use Rattle.causal_replay.proofs.Waiting.{after_on}

-- segments with one more
pub joined_more : (segments : List Segment) (segment : Segment) → joined (segments ++ segment ∷ []) ≡ joined segments ++ steps_of segment
joined_more segments segment = flat_map-append steps_of segments (segment ∷ []) ∙ ap (λ (last : List Taken). joined segments ++ last) (append-nil (steps_of segment))

pub absent_more : (segments : List Segment) (segment : Segment) → absent_in (segments ++ segment ∷ []) ≡ absent_in segments ++ absent_of segment
absent_more segments segment = flat_map-append absent_of segments (segment ∷ []) ∙ ap (λ (last : List ℕ). absent_in segments ++ last) (append-nil (absent_of segment))

module _ {C : Type 0} (react : C → UpItem → Reaction C) (first : C → C) where
  -- What is known before the entry at a place: the segments of the earlier ones, and that there were few enough events and no more
  -- inputs than in the history.
  pub record Reached (policies : C → ℕ) (setup : Setup C) (entries : List Entry) (keep : List Bool) (at : ℕ) (run : List Taken) (absent : List ℕ) (world : Situation C) : Type 0 where
    pub segments : List Segment
    pub count : length segments ≡ at
    pub each : AreSegments react first setup entries keep segments
    pub run_is : run ≡ joined segments
    pub absent_is : absent ≡ absent_in segments
    pub world_is : world ≡ world_at react first setup run
    pub fits : Fits policies setup world
    pub events : world.shared.events ≤ at * 65
    pub inputs : world.shared.inputs ≤ (world_before react first setup entries at).shared.inputs

  -- before the first entry
  pub reached_none : (policies : C → ℕ) (setup : Setup C) (entries : List Entry) (keep : List Bool) (run : List Taken) (absent : List ℕ) (world : Situation C) → run ≡ [] → absent ≡ [] → world ≡ start first setup → Fits policies setup world
      → Reached policies setup entries keep 0 run absent world
  reached_none policies setup entries keep run absent world no_run no_absent is fits =
      let events : world.shared.events ≡ 0 = ap (λ (w : Situation C). w.shared.events) is in
      let inputs : world.shared.inputs ≡ 0 = ap (λ (w : Situation C). w.shared.inputs) is in
      record {
        segments = [];
        count = refl;
        each = λ at entry segment here there. absurd cc;
        run_is = no_run;
        absent_is = no_absent;
        world_is = is ∙ ap (world_at react first setup) (sym no_run);
        fits = fits;
        events = omega arith;
        inputs = omega arith;
      }

  -- one entry more
  pub each_more : (setup : Setup C) (entries : List Entry) (keep : List Bool) (at : ℕ) (entry : Entry) (segments : List Segment) (segment : Segment) → AreSegments react first setup entries keep segments → length segments ≡ at → slice_get entries at ≡ Some entry
      → IsSegment react setup keep at (world_at react first setup (joined segments)) entry segment → AreSegments react first setup entries keep (segments ++ segment ∷ [])
  each_more setup entries keep at entry segments segment each count here is = λ k other x there at_k. elim (pushed segments segment k x at_k) [
    | inl (found, below) ↦ subst (λ (front : List Segment). IsSegment react setup keep k (world_at react first setup (joined front)) other x) (sym (front_of_front segments segment k below)) (each k other x there found)
    | inr (e, same) ↦
        let place : k ≡ at = e ∙ count in
        let equal : entry ≡ other = same_Some entry other (sym here ∙ ap (slice_get entries) (sym place) ∙ there) in
        subst (λ (front : List Segment). IsSegment react setup keep k (world_at react first setup (joined front)) other x) (sym (front_of_last segments segment k e))
        (subst (λ (n : ℕ). IsSegment react setup keep n (world_at react first setup (joined segments)) other x) (sym place)
        (subst (λ (y : Entry). IsSegment react setup keep at (world_at react first setup (joined segments)) y x) equal
        (subst (λ (z : Segment). IsSegment react setup keep at (world_at react first setup (joined segments)) entry z) same is)))
  ]

  pub reached_more : (policies : C → ℕ) (setup : Setup C) (entries : List Entry) (keep : List Bool) (at : ℕ) (entry : Entry) (run run' : List Taken) (absent absent' : List ℕ) (world world' : Situation C) → slice_get entries at ≡ Some entry
      → Reached policies setup entries keep at run absent world → GoesOn react policies setup keep at entry run run' absent absent' world world' → Reached policies setup entries keep (at + 1) run' absent' world'
  reached_more policies setup entries keep at entry run run' absent absent' world world' here known goes =
      let worlds : world ≡ world_at react first setup (joined known.segments) = known.world_is ∙ ap (world_at react first setup) known.run_is in
      let legal : Situation C = world_before react first setup entries at in
      let counts = ap (λ (w : Situation C). w.shared.inputs) (world_more react first setup entries at entry here) ∙ next_inputs react setup legal entry.event in
      record {
        segments = known.segments ++ goes.segment ∷ [];
        count = length-append known.segments (goes.segment ∷ []) ∙ ap (λ n. n + 1) known.count;
        each = each_more setup entries keep at entry known.segments goes.segment known.each known.count here (subst (λ (w : Situation C). IsSegment react setup keep at w entry goes.segment) worlds goes.is_segment);
        run_is = goes.run ∙ ap (λ (front : List Taken). front ++ steps_of goes.segment) known.run_is ∙ sym (joined_more known.segments goes.segment);
        absent_is = goes.absent ∙ ap (λ (front : List ℕ). front ++ absent_of goes.segment) known.absent_is ∙ sym (absent_more known.segments goes.segment);
        world_is = goes.world ∙ ap (λ (w : Situation C). after react setup w (events_of (steps_of goes.segment))) known.world_is ∙ sym (after_on react setup (start first setup) run (steps_of goes.segment)) ∙ ap (world_at react first setup) (sym goes.run);
        fits = goes.fits;
        events = omega (arith, known.events, goes.events);
        inputs = omega (arith, known.inputs, goes.inputs, counts);
      }

  -- Where an input of a legal run comes, the script has its line, and there were few enough inputs.
  pub reached_ready : (policies : C → ℕ) (setup : Setup C) (entries : List Entry) (keep : List Bool) (at : ℕ) (entry : Entry) (run : List Taken) (absent : List ℕ) (world : Situation C) → IsValidSetup setup → IsSoundTo react first setup entries (length entries)
      → slice_get entries at ≡ Some entry → Reached policies setup entries keep at run absent world → IsReady setup world entry.event
  reached_ready policies setup entries keep at entry run absent world valid sound here known = λ position is.
      let legal : Situation C = world_before react first setup entries at in
      let line = line_of_input setup legal position entry.item (subst (λ (event : Event). IsLegalEvent setup legal event entry.item) is (sound at entry (slice_get_within entries at entry here) here).0.1) in
      (line.1, omega (arith, valid.lines, known.inputs, line.0, line.1))

  -- few enough events happened
  pub reached_few : (policies : C → ℕ) (setup : Setup C) (entries : List Entry) (keep : List Bool) (at : ℕ) (entry : Entry) (run : List Taken) (absent : List ℕ) (world : Situation C) → IsValidSetup setup → IsSoundTo react first setup entries (length entries)
      → slice_get entries at ≡ Some entry → Reached policies setup entries keep at run absent world → (at < 16384) × (world.shared.events < 2 ^ 30)
  reached_few policies setup entries keep at entry run absent world valid sound here known =
      let below = (sound at entry (slice_get_within entries at entry here) here).0.0 in
      let most = valid.bounds.max_events.1 in
      let few : at < 16384 = omega arith in
      (few, omega (arith, known.events))

  -- after the last entry
  pub reached_all : (policies : C → ℕ) (setup : Setup C) (entries : List Entry) (keep : List Bool) (at : ℕ) (run : List Taken) (absent : List ℕ) (world : Situation C) → length entries ≡ at → Reached policies setup entries keep at run absent world
      → IsReplay react first setup entries keep run absent world
  reached_all policies setup entries keep at run absent world all known = record {
    segments = known.segments;
    count = known.count ∙ sym all;
    each = known.each;
    run_is = known.run_is;
    absent_is = known.absent_is;
    world_is = known.world_is;
  }
