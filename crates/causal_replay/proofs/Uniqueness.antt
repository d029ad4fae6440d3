-- There is one replay.
use Rattle.std.proofs.Common.{◌≡◌, ◌∙◌, ℕ, ◌≤◌, ◌⊎◌, zero, suc, Bool, true, false, List, length, take, slice_get, Option, Some, None, ap, ap₂, arith, inl, inr, refl, subst, sym}
use Rattle.std.proofs.lemmas.Bool.{cases_lt, true≢false}
use Rattle.std.proofs.lemmas.List.{take_all}
use Rattle.std.proofs.lemmas.Option.{none-some, same_Some, slice_get_cases, some_pair_parts}
use Rattle.controller_api.specs.Reaction.{Reaction}
use Rattle.controller_api.specs.declared.item.UpItem.{UpItem}
use Rattle.machine_setup.specs.declared.setup.Setup.{Setup}
use Rattle.message_pools.specs.declared.item.Item.{Item}
use Rattle.pool_book.specs.declared.name.PoolName.{PoolName}
use Rattle.event_world.specs.Answers.{IsInputEvent}
use Rattle.event_world.specs.Events.{event_of, number_of, pool_name}
use Rattle.event_world.specs.Mail.{Shared}
use Rattle.event_world.specs.World.{Situation, first_event, first_item}
use Rattle.event_world.specs.declared.event.Event.{Event}
use Rattle.event_world.specs.declared.event.Event.TheVariants.{In}
use Rattle.event_machine.specs.declared.trace.Entry.{Entry}
use Rattle.causal_replay.specs.Replay.{AreSegments, HasExpected, IsExpected, IsMeeting, IsMiss, IsReplay, IsSegment, IsWait, Kept, Met, Missed, Segment, Skipped, absent_in, after, joined, world_at}
use Rattle.causal_replay.specs.declared.replayed.Taken.{Taken}
use Rattle.causal_replay.proofs.Pushed.{took_more}

-- an entry expects at most one event
pub one_expected : (shared : Shared) (entry : Entry) (a b : Event) → IsExpected shared entry a → IsExpected shared entry b → a ≡ b
one_expected shared entry a b left right =
    let name : left.name ≡ right.name = same_Some left.name right.name (sym left.pool ∙ right.pool) in
    let heads : ◌≡◌ {A = Option (ℕ × Item)} (Some (left.number, left.head)) (Some (right.number, right.head)) = sym left.first ∙ ap (λ (name : PoolName). first_item name shared) name ∙ right.first in
    left.event_is ∙ ap₂ event_of name (some_pair_parts left.number right.number left.head right.head heads).0 ∙ sym right.event_is

-- an entry with a pool is no input
no_pool : (entry : Entry) (position : ℕ) (name : PoolName) {P : Type 0} → entry.event ≡ In position → pool_name entry.event ≡ Some name → P
no_pool entry position name is pool = let never : ◌≡◌ {A = Option PoolName} None (Some name) = ap pool_name (sym is) ∙ pool in absurd (none-some name never)

no_internal : (entry : Entry) (position : ℕ) {P : Type 0} → entry.event ≡ In position → (¬ IsInputEvent entry.event) → P
no_internal entry position is internal = absurd (subst (λ (event : Event). ¬ IsInputEvent event) is internal tt)

same_position : (entry : Entry) (p q : ℕ) → entry.event ≡ In p → entry.event ≡ In q → p ≡ q
same_position entry p q left right = ap number_of (sym left ∙ right)

-- a line is not both kept and skipped
kept_or_not : (keep : List Bool) (p q : ℕ) → p ≡ q → slice_get keep p ≡ Some true → slice_get keep q ≡ Some false → ⊥
kept_or_not keep p q same kept skipped = true≢false (same_Some true false (sym kept ∙ ap (slice_get keep) same ∙ skipped))

module _ {C : Type 0} (react : C → UpItem → Reaction C) where
  -- ---- one wait

  -- the event with which a wait goes on at a place
  abbrev Goes : Setup C → Situation C → Entry → List Event → ℕ → Event → Type 0
  Goes setup world entry extra at event = (¬ HasExpected (after react setup world (take at extra)).shared entry) × (first_event (after react setup world (take at extra)).shared ≡ Some event)

  -- two waits are the same up to each place to which both come
  same_waits : (setup : Setup C) (world : Situation C) (entry : Entry) (one other : List Event) (at : ℕ) → IsWait react setup world entry one → IsWait react setup world entry other
      → at ≤ length one → at ≤ length other → take at one ≡ take at other
  same_waits setup world entry one other zero left right within within' = refl
  same_waits setup world entry one other (suc at) left right within within' = elim (slice_get_cases one at).1 [
    | inl (x, below, here, read) ↦ elim (slice_get_cases other at).1 [
      | inl (y, below', there, read') ↦
          let fronts = same_waits setup world entry one other at left right (omega arith) (omega arith) in
          let same : x ≡ y = same_Some x y (sym (left.each at x here).1 ∙ ap (λ (front : List Event). first_event (after react setup world front).shared) fronts ∙ (right.each at y there).1) in
          took_more one other at x y here there fronts same
      | inr (past, none) ↦ absurd (omega arith)
    ]
    | inr (past, none) ↦ absurd (omega arith)
  ]

  -- Where one wait ends for a good reason, another is no longer.
  abbrev Ends : Setup C → Situation C → Entry → List Event → Type 0
  Ends setup world entry extra = HasExpected (after react setup world extra).shared entry ⊎ ((length extra ≡ setup.limits.budget) ⊎ (first_event (after react setup world extra).shared ≡ None))

  not_on : (setup : Setup C) (world : Situation C) (entry : Entry) (one other : List Event) → IsWait react setup world entry one → IsWait react setup world entry other → Ends setup world entry one → length other ≤ length one
  not_on setup world entry one other left right ends = elim (cases_lt (length one) (length other)) [
    | inl longer ↦ elim (slice_get_cases other (length one)).1 [
      | inl (y, below, there, read) ↦
          let fronts : take (length one) other ≡ one = sym (same_waits setup world entry one other (length one) left right (omega arith) (omega arith)) ∙ take_all (length one) one (omega arith) in
          let goes = subst (λ (front : List Event). (¬ HasExpected (after react setup world front).shared entry) × (first_event (after react setup world front).shared ≡ Some y)) fronts (right.each (length one) y there) in
          absurd (elim ends [
            | inl met ↦ goes.0 met
            | inr (inl spent) ↦ let few = right.few in let never : zero ≡ suc zero = omega arith in absurd cc
            | inr (inr quiet) ↦ none-some y (sym quiet ∙ goes.1)
          ])
      | inr (past, none) ↦ absurd (omega arith)
    ]
    | inr within ↦ within
  ]

  -- Two waits that both end for a good reason are the same.
  one_wait : (setup : Setup C) (world : Situation C) (entry : Entry) (one other : List Event) → IsWait react setup world entry one → IsWait react setup world entry other → Ends setup world entry one → Ends setup world entry other → one ≡ other
  one_wait setup world entry one other left right ends ends' =
      let most = not_on setup world entry one other left right ends in
      let least = not_on setup world entry other one right left ends' in
      sym (take_all (length one) one (omega arith)) ∙ same_waits setup world entry one other (length one) left right (omega arith) (omega arith) ∙ take_all (length one) other (omega arith)

  -- ---- one segment

  -- a segment that meets the expected event, and one that misses it, are not of one entry
  not_both : (setup : Setup C) (world : Situation C) (entry : Entry) (extra extra' : List Event) (event : Event) {P : Type 0} → IsMeeting react setup world entry extra event → IsMiss react setup world entry extra' → P
  not_both setup world entry extra extra' event met missed =
      let same = one_wait setup world entry extra extra' met.wait missed.wait (inl (event, met.expected)) (inr missed.spent) in
      absurd (missed.unmet (subst (λ (front : List Event). HasExpected (after react setup world front).shared entry) same (event, met.expected)))

  met_once : (setup : Setup C) (world : Situation C) (entry : Entry) (extra extra' : List Event) (event event' : Event) → IsMeeting react setup world entry extra event → IsMeeting react setup world entry extra' event' → (extra ≡ extra') × (event ≡ event')
  met_once setup world entry extra extra' event event' met met' =
      let same = one_wait setup world entry extra extra' met.wait met'.wait (inl (event, met.expected)) (inl (event', met'.expected)) in
      (same, one_expected (after react setup world extra').shared entry event event' (subst (λ (front : List Event). IsExpected (after react setup world front).shared entry event) same met.expected) met'.expected)

  -- an entry has one segment
  one_segment : (setup : Setup C) (keep : List Bool) (at : ℕ) (world : Situation C) (entry : Entry) (one other : Segment) → IsSegment react setup keep at world entry one → IsSegment react setup keep at world entry other → one ≡ other
  one_segment setup keep at world entry (Kept p) (Kept q) left right = ap Kept (same_position entry p q left.0 right.0)
  one_segment setup keep at world entry (Kept p) Skipped left (q, is, skipped) = absurd (kept_or_not keep p q (same_position entry p q left.0 is) left.1 skipped)
  one_segment setup keep at world entry (Kept p) (Met place extra event) left (e, met) = no_pool entry p met.expected.name left.0 met.expected.pool
  one_segment setup keep at world entry (Kept p) (Missed place extra) left (e, missed) = no_internal entry p left.0 missed.internal
  one_segment setup keep at world entry Skipped (Kept p) (q, is, skipped) right = absurd (kept_or_not keep p q (same_position entry p q right.0 is) right.1 skipped)
  one_segment setup keep at world entry Skipped Skipped left right = refl
  one_segment setup keep at world entry Skipped (Met place extra event) (q, is, skipped) (e, met) = no_pool entry q met.expected.name is met.expected.pool
  one_segment setup keep at world entry Skipped (Missed place extra) (q, is, skipped) (e, missed) = no_internal entry q is missed.internal
  one_segment setup keep at world entry (Met place extra event) (Kept p) (e, met) right = no_pool entry p met.expected.name right.0 met.expected.pool
  one_segment setup keep at world entry (Met place extra event) Skipped (e, met) (q, is, skipped) = no_pool entry q met.expected.name is met.expected.pool
  one_segment setup keep at world entry (Met place extra event) (Met place' extra' event') (e, met) (e', met') =
      let same = met_once setup world entry extra extra' event event' met met' in
      ap (λ (n : ℕ). Met n extra event) (e ∙ sym e') ∙ ap₂ (λ (x : List Event) (y : Event). Met place' x y) same.0 same.1
  one_segment setup keep at world entry (Met place extra event) (Missed place' extra') (e, met) (e', missed) = not_both setup world entry extra extra' event met missed
  one_segment setup keep at world entry (Missed place extra) (Kept p) (e, missed) right = no_internal entry p right.0 missed.internal
  one_segment setup keep at world entry (Missed place extra) Skipped (e, missed) (q, is, skipped) = no_internal entry q is missed.internal
  one_segment setup keep at world entry (Missed place extra) (Met place' extra' event') (e, missed) (e', met') = not_both setup world entry extra' extra event' met' missed
  one_segment setup keep at world entry (Missed place extra) (Missed place' extra') (e, missed) (e', missed') =
      ap₂ Missed (e ∙ sym e') (one_wait setup world entry extra extra' missed.wait missed'.wait (inr missed.spent) (inr missed'.spent))

  -- ---- the whole

  module _ (first : C → C) where
    -- the segments of two replays are the same up to each place
    same_segments : (setup : Setup C) (entries : List Entry) (keep : List Bool) (one other : List Segment) (at : ℕ) → AreSegments react first setup entries keep one → AreSegments react first setup entries keep other
        → length one ≡ length entries → length other ≡ length entries → at ≤ length entries → take at one ≡ take at other
    same_segments setup entries keep one other zero left right long long' within = refl
    same_segments setup entries keep one other (suc at) left right long long' within = elim (slice_get_cases entries at).1 [
      | inl (entry, below, there, read) ↦ elim (slice_get_cases one at).1 [
        | inl (x, below', here, read') ↦ elim (slice_get_cases other at).1 [
          | inl (y, below'', here', read'') ↦
              let fronts = same_segments setup entries keep one other at left right long long' (omega arith) in
              let both = subst (λ (front : List Segment). IsSegment react setup keep at (world_at react first setup (joined front)) entry x) fronts (left at entry x there here) in
              took_more one other at x y here here' fronts (one_segment setup keep at (world_at react first setup (joined (take at other))) entry x y both (right at entry y there here'))
          | inr (past, none) ↦ absurd (omega arith)
        ]
        | inr (past, none) ↦ absurd (omega arith)
      ]
      | inr (past, none) ↦ absurd (omega arith)
    ]

    -- Two replays are the same.
    pub one_replay : (setup : Setup C) (entries : List Entry) (keep : List Bool) (run run' : List Taken) (absent absent' : List ℕ) (world world' : Situation C)
        → IsReplay react first setup entries keep run absent world → IsReplay react first setup entries keep run' absent' world' → (run ≡ run') × (absent ≡ absent') × (world ≡ world')
    one_replay setup entries keep run run' absent absent' world world' left right =
        let few = left.count in
        let few' = right.count in
        let segments : left.segments ≡ right.segments = sym (take_all (length entries) left.segments (omega arith))
        ∙ same_segments setup entries keep left.segments right.segments (length entries) left.each right.each left.count right.count (omega arith) ∙ take_all (length entries) right.segments (omega arith) in
        let runs : run ≡ run' = left.run_is ∙ ap joined segments ∙ sym right.run_is in
        (runs, left.absent_is ∙ ap absent_in segments ∙ sym right.absent_is, left.world_is ∙ ap (world_at react first setup) runs ∙ sym right.world_is)
