-- A replay takes legal steps.
use Rattle.std.proofs.Common.{◌≡◌, ◌∙◌, ℕ, ◌+◌, ◌<◌, ◌⊎◌, zero, suc, Bool, List, [], ◌∷◌, ◌++◌, length, take, slice_get, Some, None, option_map, ap, arith, inl, inr, refl, subst, sym}
use Rattle.std.specs.List.{All, AllPairs}
use Rattle.std.proofs.lemmas.List.{append-nil, length-map, take-append-le, take-map, take_all}
use Rattle.std.proofs.lemmas.List.Elements.{All-nil, All-push, All-weaker, filter_map-append}
use Rattle.std.proofs.lemmas.List.Quantifiers.{all_pairs_push}
use Rattle.std.proofs.lemmas.Option.{same_Some, slice_get-map, slice_get_cases, slice_get_within}
use Rattle.std.proofs.Math.Seq.{take-append-add}
use Rattle.controller_api.specs.Reaction.{Reaction}
use Rattle.controller_api.specs.declared.item.UpItem.{UpItem}
use Rattle.machine_setup.specs.declared.setup.Setup.{Setup}
use Rattle.pool_book.specs.Blocks.{which_part}
use Rattle.event_world.specs.Answers.{IsInputEvent}
use Rattle.event_world.specs.Events.{input_count}
use Rattle.event_world.specs.World.{IsEnabled, Situation, start}
use Rattle.event_world.specs.declared.event.Event.{Event}
use Rattle.event_world.specs.declared.event.Event.TheVariants.{In, Ctl, Pkt, Note, App, Admin, Recv}
use Rattle.event_machine.specs.Legal.{IsLegalEvent, IsSoundTo, world_before}
use Rattle.event_machine.specs.declared.trace.Entry.{Entry}
use Rattle.event_machine.proofs.FirstEvents.{HasPools}
use Rattle.event_machine.proofs.Histories.{along, next_inputs, world_more}
use Rattle.causal_replay.specs.Replay.{IsReplay, IsSegment, IsWait, Kept, Met, Missed, Segment, Skipped, after, as_extra, events_of, joined, steps_of, world_at}
use Rattle.causal_replay.specs.Steps.{AreLegalSteps, input_positions, position_of}
use Rattle.causal_replay.specs.declared.replayed.Taken.{Taken}
use Rattle.causal_replay.specs.declared.replayed.Why.TheVariants.{Expected, Extra, Input}
use Rattle.causal_replay.proofs.Enabled.{IsInternal, expected_enabled, first_internal, line_of_input}
use Rattle.causal_replay.proofs.PoolNames.{pools_after, pools_at_start}
use Rattle.causal_replay.proofs.Pushed.{taken_on}
use Rattle.causal_replay.proofs.Reached.{joined_more}
use Rattle.causal_replay.proofs.Segments.{events_of_extra}
use Rattle.causal_replay.proofs.Waiting.{after_on}

-- ---- positions of inputs

no_position : (event : Event) → (¬ IsInputEvent event) → position_of event ≡ None
no_position (In position) internal = absurd (internal tt)
no_position (Ctl s n) internal = refl
no_position (Pkt s p n) internal = refl
no_position (Note s n) internal = refl
no_position (App c s n) internal = refl
no_position (Admin c n) internal = refl
no_position (Recv h n) internal = refl

-- an extra event with its reason
abbrev extra_of : Event → Taken
extra_of event = record { event = event; why = Extra }

-- extra events that are no inputs have no positions
no_positions : (extra : List Event) → ((at : ℕ) (event : Event) → slice_get extra at ≡ Some event → ¬ IsInputEvent event) → input_positions (as_extra extra) ≡ []
no_positions [] internal = refl
no_positions (event ∷ extra) internal = rw (no_position event (internal 0 event refl)) (no_positions extra (λ at other there. internal (suc at) other there))

-- the inputs of steps and then of others
positions_on : (steps more : List Taken) → input_positions (steps ++ more) ≡ input_positions steps ++ input_positions more
positions_on steps more = filter_map-append (λ (step : Taken). position_of step.event) steps more

-- an input goes on an ascending list where it is past all of it
ascends_on : (positions : List ℕ) (last : ℕ) → AllPairs (λ one other. one < other) positions → All (λ position. position < last) positions → AllPairs (λ one other. one < other) (positions ++ last ∷ [])
ascends_on positions last ascending below = all_pairs_push (λ (one other : ℕ). one < other) positions last ascending below

module _ {C : Type 0} (react : C → UpItem → Reaction C) where
  -- ---- steps that can happen

  -- from a world on, each of the steps can happen in the world to which the earlier ones lead
  abbrev CanFollow : Setup C → Situation C → List Taken → Type 0
  CanFollow setup world steps = (at : ℕ) (step : Taken) → slice_get steps at ≡ Some step → IsEnabled setup (after react setup world (events_of (take at steps))) step.event

  none_follows : (setup : Setup C) (world : Situation C) → CanFollow setup world []
  none_follows setup world at step there = absurd cc

  one_follows : (setup : Setup C) (world : Situation C) (step : Taken) → IsEnabled setup world step.event → CanFollow setup world (step ∷ [])
  one_follows setup world step enabled zero other there = subst (λ (x : Taken). IsEnabled setup world x.event) (same_Some step other there) enabled
  one_follows setup world step enabled (suc at) other there = absurd cc

  -- steps and then others
  follows_on : (setup : Setup C) (world : Situation C) (steps more : List Taken) → CanFollow setup world steps → CanFollow setup (after react setup world (events_of steps)) more → CanFollow setup world (steps ++ more)
  follows_on setup world steps more front back = λ at step there. elim (which_part steps more (length steps) at step refl there) [
    | inl here ↦
        let below = slice_get_within steps at step here in
        let same : take at (steps ++ more) ≡ take at steps = take-append-le at steps more (omega arith) in
        subst (λ (early : List Taken). IsEnabled setup (after react setup world (events_of early)) step.event) (sym same) (front at step here)
    | inr (k, e, here) ↦
        let same : take at (steps ++ more) ≡ steps ++ take k more = ap (λ (n : ℕ). take n (steps ++ more)) e ∙ take-append-add steps more k in
        subst (λ (w : Situation C). IsEnabled setup w step.event) (sym (ap (λ (early : List Taken). after react setup world (events_of early)) same ∙ after_on react setup world steps (take k more))) (back k step here)
  ]

  -- ---- one segment

  -- each event of a wait takes the first item of its pool
  wait_internal : (setup : Setup C) (world : Situation C) (entry : Entry) (extra : List Event) → HasPools setup world → IsWait react setup world entry extra
      → (at : ℕ) (event : Event) → slice_get extra at ≡ Some event → IsInternal setup (after react setup world (take at extra)) event
  wait_internal setup world entry extra all wait at event here =
      first_internal setup (after react setup world (take at extra)) event (pools_after react setup world (take at extra) all) (wait.each at event here).1

  -- before an extra event stand the earlier ones
  extra_front : (extra : List Event) (at : ℕ) → events_of (take at (as_extra extra)) ≡ take at extra
  extra_front extra at = ap events_of (take-map extra_of at extra) ∙ events_of_extra (take at extra)

  wait_follows : (setup : Setup C) (world : Situation C) (entry : Entry) (extra : List Event) → HasPools setup world → IsWait react setup world entry extra → CanFollow setup world (as_extra extra)
  wait_follows setup world entry extra all wait = λ at step there. elim (slice_get_cases extra at).1 [
    | inl (event, below, here, read) ↦
        let is : extra_of event ≡ step = same_Some (extra_of event) step (sym (slice_get-map extra_of extra at ∙ ap (option_map extra_of) here) ∙ there) in
        subst (λ (x : Taken). IsEnabled setup (after react setup world (events_of (take at (as_extra extra)))) x.event) is
        (subst (λ (early : List Event). IsEnabled setup (after react setup world early) event) (sym (extra_front extra at)) (wait_internal setup world entry extra all wait at event here).enabled)
    | inr (past, none) ↦
        let below = slice_get_within (as_extra extra) at step there in
        let size = length-map extra extra_of in
        absurd (omega arith)
  ]

  -- the steps of a segment can happen one after the other
  segment_follows : (setup : Setup C) (keep : List Bool) (at : ℕ) (world : Situation C) (entry : Entry) (segment : Segment) → HasPools setup world → ((position : ℕ) → entry.event ≡ In position → position < length setup.script)
      → IsSegment react setup keep at world entry segment → CanFollow setup world (steps_of segment)
  segment_follows setup keep at world entry (Kept position) all line is = one_follows setup world (record { event = In position; why = Input }) (line position is.0)
  segment_follows setup keep at world entry Skipped all line is = none_follows setup world
  segment_follows setup keep at world entry (Met place extra event) all line (e, met) =
      follows_on setup world (as_extra extra) (record { event = event; why = Expected place } ∷ []) (wait_follows setup world entry extra all met.wait)
      (subst (λ (early : List Event). CanFollow setup (after react setup world early) (record { event = event; why = Expected place } ∷ [])) (sym (events_of_extra extra))
      (one_follows setup (after react setup world extra) (record { event = event; why = Expected place }) (expected_enabled setup (after react setup world extra) entry event met.expected).enabled))
  segment_follows setup keep at world entry (Missed place extra) all line (e, missed) = wait_follows setup world entry extra all missed.wait

  -- it has the entry's input alone, or none
  segment_positions : (setup : Setup C) (keep : List Bool) (at : ℕ) (world : Situation C) (entry : Entry) (segment : Segment) → HasPools setup world → IsSegment react setup keep at world entry segment
      → (input_positions (steps_of segment) ≡ []) ⊎ ((position : ℕ) × (entry.event ≡ In position) × (input_positions (steps_of segment) ≡ position ∷ []))
  segment_positions setup keep at world entry (Kept position) all is = inr (position, is.0, refl)
  segment_positions setup keep at world entry Skipped all is = inl refl
  segment_positions setup keep at world entry (Met place extra event) all (e, met) =
      let before : input_positions (as_extra extra) ≡ [] = no_positions extra (λ at event here. (wait_internal setup world entry extra all met.wait at event here).no_input) in
      let internal = (expected_enabled setup (after react setup world extra) entry event met.expected).no_input in
      let last : input_positions (record { event = event; why = Expected place } ∷ []) ≡ [] = rw (no_position event internal) in
      inl (positions_on (as_extra extra) (record { event = event; why = Expected place } ∷ []) ∙ ap (λ (front : List ℕ). front ++ input_positions (record { event = event; why = Expected place } ∷ [])) before ∙ last)
  segment_positions setup keep at world entry (Missed place extra) all (e, missed) =
      inl (no_positions extra (λ at event here. (wait_internal setup world entry extra all missed.wait at event here).no_input))

  -- ---- the whole

  module _ (first : C → C) where
    -- What is known of the steps up to an entry before which the history has so many inputs: they can happen one after the other, and
    -- their inputs ascend, with positions below that number.
    record LegalSoFar (setup : Setup C) (inputs : ℕ) (steps : List Taken) : Type 0 where
      pub follow : CanFollow setup (start first setup) steps
      pub ascending : AllPairs (λ one other. one < other) (input_positions steps)
      pub below : All (λ position. position < inputs) (input_positions steps)

    legal_none : (setup : Setup C) (inputs : ℕ) → LegalSoFar setup inputs []
    legal_none setup inputs = record {
      follow = none_follows setup (start first setup);
      ascending = λ i j d order within. absurd (omega arith);
      below = All-nil (λ (position : ℕ). position < inputs);
    }

    legal_on : (setup : Setup C) (keep : List Bool) (at : ℕ) (inputs : ℕ) (entry : Entry) (steps : List Taken) (segment : Segment) → ((position : ℕ) → entry.event ≡ In position → (position ≡ inputs) × (position < length setup.script))
        → IsSegment react setup keep at (world_at react first setup steps) entry segment → LegalSoFar setup inputs steps → LegalSoFar setup (inputs + input_count entry.event) (steps ++ steps_of segment)
    legal_on setup keep at inputs entry steps segment line is known =
        let world : Situation C = world_at react first setup steps in
        let all : HasPools setup world = pools_after react setup (start first setup) (events_of steps) (pools_at_start first setup) in
        let follow = follows_on setup (start first setup) steps (steps_of segment) known.follow (segment_follows setup keep at world entry segment all (λ position e. (line position e).1) is) in
        let more = positions_on steps (steps_of segment) in
        let later : All (λ position. position < inputs + input_count entry.event) (input_positions steps) =
        All-weaker (λ (position : ℕ). position < inputs) (λ (position : ℕ). position < inputs + input_count entry.event) (λ position below. omega arith) (input_positions steps) known.below in
        elim (segment_positions setup keep at world entry segment all is) [
          | inl none ↦
              let same : input_positions steps ≡ input_positions (steps ++ steps_of segment) = sym (more ∙ ap (λ (last : List ℕ). input_positions steps ++ last) none ∙ append-nil (input_positions steps)) in
              record {
                follow = follow;
                ascending = subst (AllPairs (λ (one other : ℕ). one < other)) same known.ascending;
                below = subst (All (λ (position : ℕ). position < inputs + input_count entry.event)) same later;
              }
          | inr (position, e, one) ↦
              let same : input_positions steps ++ position ∷ [] ≡ input_positions (steps ++ steps_of segment) = sym (more ∙ ap (λ (last : List ℕ). input_positions steps ++ last) one) in
              let place = (line position e).0 in
              let counts : input_count entry.event ≡ 1 = ap input_count e in
              record {
                follow = follow;
                ascending = subst (AllPairs (λ (one other : ℕ). one < other)) same (ascends_on (input_positions steps) position known.ascending (subst (λ (n : ℕ). All (λ other. other < n) (input_positions steps)) (sym place) known.below));
                below = subst (All (λ (position : ℕ). position < inputs + input_count entry.event)) same (All-push (λ (position : ℕ). position < inputs + input_count entry.event) (input_positions steps) position later (omega arith));
              }
        ]

    -- A replay takes legal steps.
    pub legal_steps : (setup : Setup C) (entries : List Entry) (keep : List Bool) (run : List Taken) (absent : List ℕ) (world : Situation C) → IsSoundTo react first setup entries (length entries)
        → IsReplay react first setup entries keep run absent world → AreLegalSteps react first setup run
    legal_steps setup entries keep run absent world sound known =
        let inputs_at : ℕ → ℕ = λ at. (world_before react first setup entries at).shared.inputs in
        let count = known.count in
        let all : LegalSoFar setup (inputs_at (length entries)) (joined (take (length entries) known.segments)) =
        along (λ at. LegalSoFar setup (inputs_at at) (joined (take at known.segments))) entries 0 (omega arith) (legal_none setup 0) (λ at entry low here before. elim (slice_get_cases known.segments at).1 [
          | inl (segment, below, there, read) ↦
              let longer : joined (take at known.segments) ++ steps_of segment ≡ joined (take (at + 1) known.segments) = sym (ap joined (taken_on known.segments at segment there) ∙ joined_more (take at known.segments) segment) in
              let counts : inputs_at at + input_count entry.event ≡ inputs_at (at + 1) =
              sym (ap (λ (w : Situation C). w.shared.inputs) (world_more react first setup entries at entry here) ∙ next_inputs react setup (world_before react first setup entries at) entry.event) in
              let legal = (sound at entry (slice_get_within entries at entry here) here).0.1 in
              subst (λ (n : ℕ). LegalSoFar setup n (joined (take (at + 1) known.segments))) counts
              (subst (LegalSoFar setup (inputs_at at + input_count entry.event)) longer
              (legal_on setup keep at (inputs_at at) entry (joined (take at known.segments)) segment
              (λ position is. line_of_input setup (world_before react first setup entries at) position entry.item (subst (λ (event : Event). IsLegalEvent setup (world_before react first setup entries at) event entry.item) is legal))
              (known.each at entry segment here there) before))
          | inr (past, none) ↦ let within = slice_get_within entries at entry here in absurd (omega arith)
        ]) in
        let whole : joined (take (length entries) known.segments) ≡ run = ap joined (take_all (length entries) known.segments (omega arith)) ∙ sym known.run_is in
        let steps : LegalSoFar setup (inputs_at (length entries)) run = subst (LegalSoFar setup (inputs_at (length entries))) whole all in
        record { each = steps.follow; ascending = steps.ascending }
