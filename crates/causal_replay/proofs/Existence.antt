-- There is a whole replay.
use Rattle.std.proofs.Common.{◌≡◌, ◌∙◌, ℕ, ◌+◌, Bool, true, List, [], ◌∷◌, ◌++◌, length, map, take, slice_get, Option, Some, ap, ap₂, arith, inl, inr, refl, subst, sym}
use Rattle.std.specs.List.{All}
use Rattle.std.proofs.lemmas.List.{length-append, take_all}
use Rattle.std.proofs.lemmas.Option.{slice_get_cases, slice_get_within}
use Rattle.listed.specs.Lists.{all_at}
use Rattle.controller_api.specs.Reaction.{Reaction}
use Rattle.controller_api.specs.declared.item.UpItem.{UpItem}
use Rattle.machine_setup.specs.declared.setup.Setup.{Setup}
use Rattle.message_pools.specs.declared.item.Item.{Item}
use Rattle.event_world.specs.Answers.{IsInputEvent}
use Rattle.event_world.specs.World.{Situation, after_all}
use Rattle.event_world.specs.declared.event.Event.{Event}
use Rattle.event_world.specs.declared.event.Event.TheVariants.{In, Ctl, Pkt, Note, App, Admin, Recv}
use Rattle.event_machine.specs.Legal.{IsLegalEvent, IsSoundTo, world_before}
use Rattle.event_machine.specs.declared.trace.Entry.{Entry}
use Rattle.event_machine.proofs.Histories.{along}
use Rattle.causal_replay.specs.Replay.{AreSegments, IsReplay, IsSegment, Kept, Met, Segment, absent_in, joined, own_steps, world_at}
use Rattle.causal_replay.specs.declared.replayed.Taken.{Taken}
use Rattle.causal_replay.proofs.Enabled.{line_of_input}
use Rattle.causal_replay.proofs.Reached.{absent_more, each_more, joined_more}
use Rattle.causal_replay.proofs.Whole.{own_events, own_expected, own_from, own_longer, own_segment}

module _ {C : Type 0} (react : C → UpItem → Reaction C) where
  -- ---- one entry

  -- where every line is kept, so is that of an input that may stand next
  line_kept : (setup : Setup C) (world : Situation C) (keep : List Bool) (position : ℕ) (item : Option Item) → length keep ≡ length setup.script → All (λ kept. kept ≡ true) keep → IsLegalEvent setup world (In position) item
      → slice_get keep position ≡ Some true
  line_kept setup world keep position item long all legal =
      let line = line_of_input setup world position item legal in
      elim (slice_get_cases keep position).1 [
        | inl (kept, within, here, read) ↦ here ∙ ap Some (all_at (λ (kept : Bool). kept ≡ true) keep position kept all here)
        | inr (past, none) ↦ absurd (omega (arith, line.1))
      ]

  -- something may be taken for the entry
  abbrev HasSegment : Setup C → List Bool → ℕ → Situation C → Entry → Type 0
  HasSegment setup keep at world entry = (segment : Segment) × IsSegment react setup keep at world entry segment

  -- its own event, and no extra one before
  meets_own : (setup : Setup C) (keep : List Bool) (at : ℕ) (world : Situation C) (entry : Entry) (event : Event) → entry.event ≡ event → IsLegalEvent setup world event entry.item → (¬ IsInputEvent event) → HasSegment setup keep at world entry
  meets_own setup keep at world entry event is legal internal = (
    Met at [] event,
    (
      refl,
      record {
        wait = record { few = omega arith; each = λ at other there. absurd cc };
        expected = own_expected react setup world entry event is legal internal;
      },
    ),
  )

  takes_own : (setup : Setup C) (keep : List Bool) (at : ℕ) (world : Situation C) (entry : Entry) (event : Event) → length keep ≡ length setup.script → All (λ kept. kept ≡ true) keep
      → entry.event ≡ event → IsLegalEvent setup world event entry.item → HasSegment setup keep at world entry
  takes_own setup keep at world entry (In position) long all is legal = (Kept position, (is, line_kept setup world keep position entry.item long all legal))
  takes_own setup keep at world entry (Ctl s n) long all is legal = meets_own setup keep at world entry (Ctl s n) is legal (λ no. no)
  takes_own setup keep at world entry (Pkt s p n) long all is legal = meets_own setup keep at world entry (Pkt s p n) is legal (λ no. no)
  takes_own setup keep at world entry (Note s n) long all is legal = meets_own setup keep at world entry (Note s n) is legal (λ no. no)
  takes_own setup keep at world entry (App c s n) long all is legal = meets_own setup keep at world entry (App c s n) is legal (λ no. no)
  takes_own setup keep at world entry (Admin c n) long all is legal = meets_own setup keep at world entry (Admin c n) is legal (λ no. no)
  takes_own setup keep at world entry (Recv h n) long all is legal = meets_own setup keep at world entry (Recv h n) is legal (λ no. no)

  -- ---- the whole

  module _ (first : C → C) where
    -- what is known before the entry at a place: the earlier ones have segments, and these are their own steps
    record OwnSegments (setup : Setup C) (entries : List Entry) (keep : List Bool) (at : ℕ) : Type 0 where
      pub segments : List Segment
      pub count : length segments ≡ at
      pub each : AreSegments react first setup entries keep segments
      pub joined_is : joined segments ≡ own_from 0 (take at entries)
      pub absent_is : absent_in segments ≡ []

    own_none : (setup : Setup C) (entries : List Entry) (keep : List Bool) → OwnSegments setup entries keep 0
    own_none setup entries keep = record {
      segments = [];
      count = refl;
      each = λ at entry segment here there. absurd cc;
      joined_is = refl;
      absent_is = refl;
    }

    own_on : (setup : Setup C) (entries : List Entry) (keep : List Bool) (at : ℕ) (entry : Entry) → IsSoundTo react first setup entries (length entries) → length keep ≡ length setup.script → All (λ kept. kept ≡ true) keep
        → slice_get entries at ≡ Some entry → OwnSegments setup entries keep at → OwnSegments setup entries keep (at + 1)
    own_on setup entries keep at entry sound long all here known =
        let before : Situation C = world_before react first setup entries at in
        let worlds : world_at react first setup (joined known.segments) ≡ before =
        ap (world_at react first setup) known.joined_is ∙ ap (λ (events : List Event). after_all react first setup events) (own_events 0 (take at entries)) in
        let legal = (sound at entry (slice_get_within entries at entry here) here).0.1 in
        let one = takes_own setup keep at before entry entry.event long all refl legal in
        let own = own_segment react setup keep at before entry one.0 all legal one.1 in
        record {
          segments = known.segments ++ one.0 ∷ [];
          count = length-append known.segments (one.0 ∷ []) ∙ ap (λ n. n + 1) known.count;
          each = each_more react first setup entries keep at entry known.segments one.0 known.each known.count here (subst (λ (w : Situation C). IsSegment react setup keep at w entry one.0) (sym worlds) one.1);
          joined_is = joined_more known.segments one.0 ∙ ap₂ (λ (front last : List Taken). front ++ last) known.joined_is own.0 ∙ own_longer entries at entry here;
          absent_is = absent_more known.segments one.0 ∙ ap₂ (λ (front last : List ℕ). front ++ last) known.absent_is own.1;
        }

    -- The run's own events are a whole replay, with none absent, and come to the run's own world.
    pub whole_replay : (setup : Setup C) (entries : List Entry) (keep : List Bool) → IsSoundTo react first setup entries (length entries) → length keep ≡ length setup.script → All (λ kept. kept ≡ true) keep
        → IsReplay react first setup entries keep (own_steps entries) [] (world_before react first setup entries (length entries))
    whole_replay setup entries keep sound long all =
        let known : OwnSegments setup entries keep (length entries) =
        along (OwnSegments setup entries keep) entries 0 (omega arith) (own_none setup entries keep) (λ at entry low here known. own_on setup entries keep at entry sound long all here known) in
        let whole : take (length entries) entries ≡ entries = take_all (length entries) entries (omega arith) in
        record {
          segments = known.segments;
          count = known.count;
          each = known.each;
          run_is = ap (λ (front : List Entry). own_from 0 front) (sym whole) ∙ sym known.joined_is;
          absent_is = sym known.absent_is;
          world_is = ap (λ (front : List Entry). after_all react first setup (map (λ entry. entry.event) front)) whole ∙ ap (λ (events : List Event). after_all react first setup events) (sym (own_events 0 entries));
        }
