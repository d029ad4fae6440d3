-- A whole replay gives the run.
use Rattle.std.proofs.Common.{◌≡◌, ◌∙◌, ℕ, ◌+◌, ◌≤◌, zero, suc, Bool, true, false, List, [], ◌∷◌, ◌++◌, length, map, take, slice_get, Some, ap, ap₂, arith, inl, inr, refl, subst, sym}
use Rattle.std.specs.List.{All, enumerate_from}
use Rattle.std.proofs.lemmas.Bool.{true≢false}
use Rattle.std.proofs.lemmas.List.{length-take, take_all}
use Rattle.std.proofs.lemmas.Option.{slice_get_cases, slice_get_within}
use Rattle.listed.specs.Lists.{all_at}
use Rattle.controller_api.specs.Reaction.{Reaction}
use Rattle.controller_api.specs.declared.item.UpItem.{UpItem}
use Rattle.machine_setup.specs.declared.setup.Setup.{Setup}
use Rattle.pool_book.specs.declared.name.PoolName.{PoolName}
use Rattle.pool_book.specs.declared.name.PoolName.TheVariants as pool
use Rattle.event_world.specs.Answers.{IsInputEvent}
use Rattle.event_world.specs.Events.{pool_name}
use Rattle.event_world.specs.World.{Situation, after_all}
use Rattle.event_world.specs.declared.event.Event.{Event}
use Rattle.event_world.specs.declared.event.Event.TheVariants.{In, Ctl, Pkt, Note, App, Admin, Recv}
use Rattle.event_machine.specs.Legal.{IsLegalEvent, IsSoundTo, world_before}
use Rattle.event_machine.specs.declared.trace.Entry.{Entry}
use Rattle.causal_replay.specs.Replay.{AreSegments, HasExpected, IsExpected, IsReplay, IsSegment, IsWait, Kept, Met, Missed, Segment, Skipped, absent_in, absent_of, after, as_extra, events_of, joined, own_reason, own_step, own_steps, steps_of, world_at}
use Rattle.causal_replay.specs.declared.replayed.Taken.{Taken}
use Rattle.causal_replay.specs.declared.replayed.Why.{Why}
use Rattle.causal_replay.specs.declared.replayed.Why.TheVariants.{Expected}
use Rattle.causal_replay.proofs.Pushed.{taken_on}
use Rattle.causal_replay.proofs.Reached.{absent_more, joined_more}
use Rattle.causal_replay.proofs.Uniqueness.{one_expected}

-- ---- own steps

-- the own steps of entries that begin at a place
abbrev pub own_from : ℕ → List Entry → List Taken
own_from from entries = map (λ (one : ℕ × Entry). own_step one.0 one.1) (enumerate_from from entries)

own_more : (from : ℕ) (entries : List Entry) (entry : Entry) → own_from from (entries ++ entry ∷ []) ≡ own_from from entries ++ own_step (from + length entries) entry ∷ []
own_more from [] entry = let same : from ≡ from + 0 = omega arith in ap (λ (n : ℕ). own_step n entry ∷ []) same
own_more from (x ∷ xs) entry =
    let same : from + 1 + length xs ≡ from + length (x ∷ xs) = omega arith in
    ap (λ (rest : List Taken). own_step from x ∷ rest) (own_more (from + 1) xs entry ∙ ap (λ (n : ℕ). own_from (from + 1) xs ++ own_step n entry ∷ []) same)

-- one entry more
pub own_longer : (entries : List Entry) (at : ℕ) (entry : Entry) → slice_get entries at ≡ Some entry → own_from 0 (take at entries) ++ own_step at entry ∷ [] ≡ own_from 0 (take (at + 1) entries)
own_longer entries at entry here =
    let below = slice_get_within entries at entry here in
    let cut = length-take at entries in
    let place : at ≡ 0 + length (take at entries) = omega arith in
    ap (λ (n : ℕ). own_from 0 (take at entries) ++ own_step n entry ∷ []) place ∙ sym (own_more 0 (take at entries) entry) ∙ ap (λ (front : List Entry). own_from 0 front) (sym (taken_on entries at entry here))

-- their events are those of the entries
pub own_events : (from : ℕ) (entries : List Entry) → events_of (own_from from entries) ≡ map (λ (entry : Entry). entry.event) entries
own_events from [] = refl
own_events from (x ∷ xs) = ap (λ (rest : List Event). x.event ∷ rest) (own_events (from + 1) xs)

-- up to each place
own_front : (from : ℕ) (entries : List Entry) (n : ℕ) → events_of (take n (own_from from entries)) ≡ map (λ (entry : Entry). entry.event) (take n entries)
own_front from entries zero = refl
own_front from [] (suc n) = refl
own_front from (x ∷ xs) (suc n) = ap (λ (rest : List Event). x.event ∷ rest) (own_front (from + 1) xs n)

-- ---- one entry

pool_internal : (event : Event) (name : PoolName) → pool_name event ≡ Some name → ¬ IsInputEvent event
pool_internal (In position) name e = absurd cc
pool_internal (Ctl s n) name e = λ no. no
pool_internal (Pkt s p n) name e = λ no. no
pool_internal (Note s n) name e = λ no. no
pool_internal (App c s n) name e = λ no. no
pool_internal (Admin c n) name e = λ no. no
pool_internal (Recv h n) name e = λ no. no

own_expectation : (at : ℕ) (event : Event) → (¬ IsInputEvent event) → own_reason at event ≡ Expected at
own_expectation at (In position) internal = absurd (internal tt)
own_expectation at (Ctl s n) internal = refl
own_expectation at (Pkt s p n) internal = refl
own_expectation at (Note s n) internal = refl
own_expectation at (App c s n) internal = refl
own_expectation at (Admin c n) internal = refl
own_expectation at (Recv h n) internal = refl

module _ {C : Type 0} (react : C → UpItem → Reaction C) where
  -- in the world in which it is legal, an entry's own event is the expected one
  pub own_expected : (setup : Setup C) (world : Situation C) (entry : Entry) (event : Event) → entry.event ≡ event → IsLegalEvent setup world event entry.item → (¬ IsInputEvent event) → IsExpected world.shared entry event
  own_expected setup world entry (In position) e legal internal = absurd (internal tt)
  own_expected setup world entry (Ctl s n) e (head, is, at) internal = record { name = pool.Ctl s; item = head; number = n; head = head; pool = ap pool_name e; taken = is; first = at; alike = refl; event_is = refl }
  own_expected setup world entry (Pkt s p n) e (head, is, at) internal = record { name = pool.Pkt s p; item = head; number = n; head = head; pool = ap pool_name e; taken = is; first = at; alike = refl; event_is = refl }
  own_expected setup world entry (Note s n) e (head, is, at) internal = record { name = pool.Note s; item = head; number = n; head = head; pool = ap pool_name e; taken = is; first = at; alike = refl; event_is = refl }
  own_expected setup world entry (App c s n) e (head, is, at) internal = record { name = pool.App c s; item = head; number = n; head = head; pool = ap pool_name e; taken = is; first = at; alike = refl; event_is = refl }
  own_expected setup world entry (Admin c n) e (head, is, at) internal = record { name = pool.Admin c; item = head; number = n; head = head; pool = ap pool_name e; taken = is; first = at; alike = refl; event_is = refl }
  own_expected setup world entry (Recv h n) e (head, is, at) internal = record { name = pool.Recv h; item = head; number = n; head = head; pool = ap pool_name e; taken = is; first = at; alike = refl; event_is = refl }

  -- so no extra event is taken for it
  no_wait : (setup : Setup C) (world : Situation C) (entry : Entry) (extra : List Event) → IsWait react setup world entry extra → HasExpected world.shared entry → extra ≡ []
  no_wait setup world entry [] wait has = refl
  no_wait setup world entry (x ∷ xs) wait has = absurd ((wait.each 0 x refl).0 has)

  pub own_segment : (setup : Setup C) (keep : List Bool) (at : ℕ) (world : Situation C) (entry : Entry) (segment : Segment) → All (λ kept. kept ≡ true) keep → IsLegalEvent setup world entry.event entry.item → IsSegment react setup keep at world entry segment
      → (steps_of segment ≡ own_step at entry ∷ []) × (absent_of segment ≡ [])
  own_segment setup keep at world entry (Kept position) all legal (is, kept) = (ap (λ (event : Event). record { event = event; why = own_reason at event } ∷ []) (sym is), refl)
  own_segment setup keep at world entry Skipped all legal (position, is, skipped) = absurd (true≢false (sym (all_at (λ (kept : Bool). kept ≡ true) keep position false all skipped)))
  own_segment setup keep at world entry (Met place extra event) all legal (e, met) =
      let internal = pool_internal entry.event met.expected.name met.expected.pool in
      let own = own_expected setup world entry entry.event refl legal internal in
      let none = no_wait setup world entry extra met.wait (entry.event, own) in
      let same = one_expected world.shared entry event entry.event (subst (λ (front : List Event). IsExpected (after react setup world front).shared entry event) none met.expected) own in (
        ap (λ (front : List Event). as_extra front ++ record { event = event; why = Expected place } ∷ []) none
            ∙ ap₂ (λ (n : ℕ) (x : Event). record { event = x; why = Expected n } ∷ []) e same
            ∙ ap (λ (why : Why). record { event = entry.event; why = why } ∷ []) (sym (own_expectation at entry.event internal)),
        refl,
      )
  own_segment setup keep at world entry (Missed place extra) all legal (e, missed) =
      let own = own_expected setup world entry entry.event refl legal missed.internal in
      let none = no_wait setup world entry extra missed.wait (entry.event, own) in
      absurd (missed.unmet (subst (λ (front : List Event). HasExpected (after react setup world front).shared entry) (sym none) (entry.event, own)))

  -- ---- the whole

  module _ (first : C → C) where
    -- up to each place the segments are the own steps
    own_segments : (setup : Setup C) (entries : List Entry) (keep : List Bool) (segments : List Segment) (at : ℕ) → IsSoundTo react first setup entries (length entries) → All (λ kept. kept ≡ true) keep → AreSegments react first setup entries keep segments
        → length segments ≡ length entries → at ≤ length entries → (joined (take at segments) ≡ own_from 0 (take at entries)) × (absent_in (take at segments) ≡ [])
    own_segments setup entries keep segments zero sound all each count within = (refl, refl)
    own_segments setup entries keep segments (suc at) sound all each count within = elim (slice_get_cases entries at).1 [
      | inl (entry, below, here, read) ↦ elim (slice_get_cases segments at).1 [
        | inl (segment, below', there, read') ↦
            let fronts = own_segments setup entries keep segments at sound all each count (omega arith) in
            let worlds : world_at react first setup (joined (take at segments)) ≡ world_before react first setup entries at =
            ap (world_at react first setup) fronts.0 ∙ ap (λ (events : List Event). after_all react first setup events) (own_events 0 (take at entries)) in
            let is = subst (λ (w : Situation C). IsSegment react setup keep at w entry segment) worlds (each at entry segment here there) in
            let own = own_segment setup keep at (world_before react first setup entries at) entry segment all (sound at entry (slice_get_within entries at entry here) here).0.1 is in
            let next : suc at ≡ at + 1 = omega arith in
            let longer : take (suc at) segments ≡ take at segments ++ segment ∷ [] = ap (λ n. take n segments) next ∙ taken_on segments at segment there in (
              ap joined longer ∙ joined_more (take at segments) segment ∙ ap₂ (λ (front last : List Taken). front ++ last) fronts.0 own.0
                  ∙ own_longer entries at entry here ∙ ap (λ n. own_from 0 (take n entries)) (sym next),
              ap absent_in longer ∙ absent_more (take at segments) segment ∙ ap₂ (λ (front last : List ℕ). front ++ last) fronts.1 own.1,
            )
        | inr (past, none) ↦ absurd (omega arith)
      ]
      | inr (past, none) ↦ absurd (omega arith)
    ]

    -- The replay is the run, and no entry is absent.
    pub whole_run : (setup : Setup C) (entries : List Entry) (keep : List Bool) (run : List Taken) (absent : List ℕ) (world : Situation C) → IsSoundTo react first setup entries (length entries) → All (λ kept. kept ≡ true) keep
        → IsReplay react first setup entries keep run absent world → (run ≡ own_steps entries) × (absent ≡ [])
    whole_run setup entries keep run absent world sound all known =
        let count = known.count in
        let own = own_segments setup entries keep known.segments (length entries) sound all known.each known.count (omega arith) in
        let segments : take (length entries) known.segments ≡ known.segments = take_all (length entries) known.segments (omega arith) in
        let whole : take (length entries) entries ≡ entries = take_all (length entries) entries (omega arith) in
        (known.run_is ∙ ap joined (sym segments) ∙ own.0 ∙ ap (λ (front : List Entry). own_from 0 front) whole, known.absent_is ∙ ap absent_in (sym segments) ∙ own.1)

    -- The world is the same after each event.
    pub whole_worlds : (setup : Setup C) (entries : List Entry) (run : List Taken) (at : ℕ) → run ≡ own_steps entries → world_at react first setup (take at run) ≡ world_before react first setup entries at
    whole_worlds setup entries run at own =
        ap (λ (all : List Taken). world_at react first setup (take at all)) own ∙ ap (λ (events : List Event). after_all react first setup events) (own_front 0 entries at)
