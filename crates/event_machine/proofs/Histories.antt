-- A history and the one that is longer by an entry.
use Rattle.std.proofs.Common.{◌≡◌, ℕ, ◌+◌, ◌-◌, ◌<◌, ◌≤◌, zero, suc, List, [], ◌∷◌, ◌++◌, length, map, take, slice_get, Option, Some, None, if◌then◌else◌, ◌==◌, refl, ap, sym, ◌∙◌, subst, arith, inl, inr}
use Rattle.std.specs.List.{fold, count_by}
use Rattle.std.specs.Option.{option_map_or}
use Rattle.std.proofs.lemmas.List.{take_more, map-append, length-append, length-take, take-append-le}
use Rattle.std.proofs.lemmas.List.Sums.{fold-append, sum_by_push, count_by-le-length}
use Rattle.std.proofs.lemmas.Option.{get_or_from_slice_get, slice_get_cases, slice_get_within, same_Some}
use Rattle.std.proofs.lemmas.Bool.{cases_lt}
use Rattle.controller_api.specs.Reaction.{Reaction}
use Rattle.controller_api.specs.declared.item.UpItem.{UpItem}
use Rattle.machine_setup.specs.declared.script.Line.{Line}
use Rattle.machine_setup.specs.declared.setup.Setup.{Setup}
use Rattle.message_pools.specs.declared.item.Item.{Item}
use Rattle.pool_book.specs.Blocks.{at_right, which_part}
use Rattle.pool_book.specs.declared.name.PoolName.{PoolName}
use Rattle.pool_book.specs.declared.name.PoolName.TheVariants as pool
use Rattle.topology.specs.declared.network.Topology.{Topology}
use Rattle.event_world.specs.Events.{input_count}
use Rattle.event_world.specs.Fits.{Fits}
use Rattle.event_world.specs.World.{Situation, acted, at_controller, at_switch, first_item, happened, heard_by, next, start, with_item, with_line}
use Rattle.event_world.specs.declared.event.Event.{Event}
use Rattle.event_world.specs.declared.event.Event.TheVariants as event
use Rattle.event_machine.specs.Legal.{EndsAs, IsFirstWrong, IsLegalIn, IsNextOfWorker, IsSoundTo, IsWrong, IsWrongEntry, earlier_of, world_after, world_before}
use Rattle.event_machine.specs.Numbers.{CountsEntry, number_of}
use Rattle.event_machine.specs.declared.legal.LogNo.{LogNo}
use Rattle.event_machine.specs.declared.legal.LogNo.TheVariants.{NotLegal, WorkerOrder, EndWrong, OutOfMemory}
use Rattle.event_machine.specs.declared.numbers.Numbers.{Numbers}
use Rattle.event_machine.specs.declared.trace.Entry.{Entry}
use Rattle.event_machine.specs.declared.trace.Trace.{Trace}

-- ---- the front of a history

-- the front that is longer by one
pub front_more : (entries : List Entry) (at : ℕ) (entry : Entry) → slice_get entries at ≡ Some entry → take (at + 1) entries ≡ take at entries ++ entry ∷ []
front_more entries at entry e = take_more entries at entry (slice_get_within entries at entry e) ∙ ap (λ x. take at entries ++ x ∷ []) (get_or_from_slice_get entries at entry entry e)

earlier_more : (entries : List Entry) (at : ℕ) (entry : Entry) (worker : ℕ) → slice_get entries at ≡ Some entry → earlier_of entries (at + 1) worker ≡ earlier_of entries at worker + (if entry.worker == worker then 1 else 0)
earlier_more entries at entry worker e =
    ap (λ (front : List Entry). count_by (λ entry. entry.worker == worker) front) (front_more entries at entry e)
    ∙ sum_by_push (λ (entry : Entry). if entry.worker == worker then 1 else 0) (take at entries) entry

-- no worker has more entries than there are
pub earlier_within : (entries : List Entry) (at worker : ℕ) → earlier_of entries at worker ≤ at
earlier_within entries at worker =
    let few = count_by-le-length (λ (entry : Entry). entry.worker == worker) (take at entries) in
    let cut = length-take at entries in
    omega arith

-- ---- a history that goes on

-- an entry of its front
get_front : (entries more : List Entry) (at : ℕ) (entry : Entry) → at < length entries → slice_get (entries ++ more) at ≡ Some entry → slice_get entries at ≡ Some entry
get_front entries more at entry below there = elim (which_part entries more (length entries) at entry refl there) [
  | inl here ↦ here
  | inr later ↦ let past = later.1 in absurd (omega arith)
]

get_last : (entries : List Entry) (entry : Entry) → slice_get (entries ++ entry ∷ []) (length entries) ≡ Some entry
get_last entries entry = at_right entries (entry ∷ []) (length entries) 0 (length entries) refl (omega arith)

length_on : (entries : List Entry) (entry : Entry) → length (entries ++ entry ∷ []) ≡ length entries + 1
length_on entries entry = length-append entries (entry ∷ [])

earlier_front : (entries more : List Entry) (at worker : ℕ) → at ≤ length entries → earlier_of (entries ++ more) at worker ≡ earlier_of entries at worker
earlier_front entries more at worker within = ap (λ (front : List Entry). count_by (λ entry. entry.worker == worker) front) (take-append-le at entries more within)

-- ---- from a place to the end

along_for : (P : ℕ → Type 0) (entries : List Entry) (from more : ℕ) → from + more ≤ length entries → P from
    → ((at : ℕ) (entry : Entry) → from ≤ at → slice_get entries at ≡ Some entry → P at → P (at + 1)) → P (from + more)
along_for P entries from zero within here goes = let same : from ≡ from + 0 = omega arith in subst P same here
along_for P entries from (suc more) within here goes = elim (slice_get_cases entries (from + more)).1 [
  | inl (entry, below, there, read) ↦
      let same : from + more + 1 ≡ from + suc more = omega arith in
      subst P same (goes (from + more) entry (omega arith) there (along_for P entries from more (omega arith) here goes))
  | inr (past, none) ↦ absurd (omega arith)
]

-- what holds before the entry at a place, and goes on with each entry from there on, holds at the end
pub along : (P : ℕ → Type 0) (entries : List Entry) (from : ℕ) → from ≤ length entries → P from
    → ((at : ℕ) (entry : Entry) → from ≤ at → slice_get entries at ≡ Some entry → P at → P (at + 1)) → P (length entries)
along P entries from within here goes =
    let same : from + (length entries - from) ≡ length entries = omega arith in
    subst P same (along_for P entries from (length entries - from) (omega arith) here goes)

module _ {C : Type 0} (react : C → UpItem → Reaction C) where
  -- ---- the numbers of events and of inputs

  -- how many events a world has behind it, and how many of them were inputs
  abbrev counts : Situation C → ℕ × ℕ
  counts world = (world.shared.events, world.shared.inputs)

  -- what is done where something is found, and leaves the counts, leaves them where nothing is found too
  found_counts : {A : Type 0} (does : A → Situation C) (world : Situation C) (found : Option A) → ((x : A) → counts (does x) ≡ counts world) → counts (option_map_or does found world) ≡ counts world
  found_counts does world None stays = refl
  found_counts does world (Some x) stays = stays x

  switch_counts : (topology : Topology) (name : PoolName) (item : Item) (s : ℕ) (world : Situation C) → counts (at_switch react topology name item s world) ≡ counts world
  switch_counts topology name item s world = found_counts _ world (slice_get world.switches s) (λ state. refl)

  controller_counts : (topology : Topology) (item : Option UpItem) (c : ℕ) (world : Situation C) → counts (at_controller react topology item c world) ≡ counts world
  controller_counts topology None c world = refl
  controller_counts topology (Some item) c world = found_counts _ world (slice_get world.controllers c) (λ state. refl)

  acted_counts : (topology : Topology) (name : PoolName) (item : Item) (world : Situation C) → counts (acted react topology name item world) ≡ counts world
  acted_counts topology (pool.Ctl s) item world = switch_counts topology (pool.Ctl s) item s world
  acted_counts topology (pool.Pkt s p) item world = switch_counts topology (pool.Pkt s p) item s world
  acted_counts topology (pool.Note s) item world = switch_counts topology (pool.Note s) item s world
  acted_counts topology (pool.App c s) item world = controller_counts topology (heard_by (pool.App c s) item) c world
  acted_counts topology (pool.Admin c) item world = controller_counts topology (heard_by (pool.Admin c) item) c world
  acted_counts topology (pool.Recv h) item world = refl

  item_counts : (topology : Topology) (name : PoolName) (head : Option (ℕ × Item)) (world : Situation C) → counts (with_item react topology name head world) ≡ counts world
  item_counts topology name None world = refl
  item_counts topology name (Some head) world = acted_counts topology name head.1 _

  line_counts : (topology : Topology) (line : Option Line) (world : Situation C) → counts (with_line react topology line world) ≡ counts world
  line_counts topology None world = refl
  line_counts topology (Some line) world = refl

  happened_counts : (setup : Setup C) (world : Situation C) (event : Event) → counts (happened react setup world event) ≡ counts world
  happened_counts setup world (event.In position) = line_counts setup.topology (slice_get setup.script position) world
  happened_counts setup world (event.Ctl s item) = item_counts setup.topology (pool.Ctl s) (first_item (pool.Ctl s) world.shared) world
  happened_counts setup world (event.Pkt s p item) = item_counts setup.topology (pool.Pkt s p) (first_item (pool.Pkt s p) world.shared) world
  happened_counts setup world (event.Note s item) = item_counts setup.topology (pool.Note s) (first_item (pool.Note s) world.shared) world
  happened_counts setup world (event.App c s item) = item_counts setup.topology (pool.App c s) (first_item (pool.App c s) world.shared) world
  happened_counts setup world (event.Admin c item) = item_counts setup.topology (pool.Admin c) (first_item (pool.Admin c) world.shared) world
  happened_counts setup world (event.Recv h item) = item_counts setup.topology (pool.Recv h) (first_item (pool.Recv h) world.shared) world

  -- each event counts for one
  pub next_events : (setup : Setup C) (world : Situation C) (event : Event) → (next react setup world event).shared.events ≡ world.shared.events + 1
  next_events setup world event = ap (λ (both : ℕ × ℕ). both.0 + 1) (happened_counts setup world event)

  -- and each input for one more
  pub next_inputs : (setup : Setup C) (world : Situation C) (event : Event) → (next react setup world event).shared.inputs ≡ world.shared.inputs + input_count event
  next_inputs setup world event = ap (λ (both : ℕ × ℕ). both.1 + input_count event) (happened_counts setup world event)

  module _ (first : C → C) where
    -- ---- one more entry

    pub world_more : (setup : Setup C) (entries : List Entry) (at : ℕ) (entry : Entry) → slice_get entries at ≡ Some entry
        → world_before react first setup entries (at + 1) ≡ next react setup (world_before react first setup entries at) entry.event
    world_more setup entries at entry e =
        ap (λ (front : List Entry). fold (next react setup) (start first setup) (map (λ entry. entry.event) front)) (front_more entries at entry e)
        ∙ ap (λ (events : List Event). fold (next react setup) (start first setup) events) (map-append (λ (entry : Entry). entry.event) (take at entries) (entry ∷ []))
        ∙ fold-append (next react setup) (start first setup) (map (λ (entry : Entry). entry.event) (take at entries)) (entry.event ∷ [])

    pub sound_none : (setup : Setup C) (entries : List Entry) → IsSoundTo react first setup entries 0
    sound_none setup entries = λ at entry lt. absurd (omega arith)

    sound_more : (setup : Setup C) (entries : List Entry) (place : ℕ) (entry : Entry) → slice_get entries place ≡ Some entry → IsSoundTo react first setup entries place
        → IsLegalIn setup (world_before react first setup entries place) place entry → IsNextOfWorker entries place entry → IsSoundTo react first setup entries (place + 1)
    sound_more setup entries place entry here sound legal number = λ at other lt there. elim (cases_lt at place) [
      | inl before ↦ sound at other before there
      | inr after ↦
          let same : at ≡ place = omega arith in
          let equal : entry ≡ other = same_Some entry other (sym here ∙ ap (λ n. slice_get entries n) (sym same) ∙ there) in
          subst (λ (n : ℕ). IsLegalIn setup (world_before react first setup entries n) n other × IsNextOfWorker entries n other) (sym same)
          (subst (λ (x : Entry). IsLegalIn setup (world_before react first setup entries place) place x × IsNextOfWorker entries place x) equal (legal, number))
    ]

    -- ---- a history that goes on

    -- before an entry nothing counts that comes after it
    pub world_front : (setup : Setup C) (entries more : List Entry) (at : ℕ) → at ≤ length entries → world_before react first setup (entries ++ more) at ≡ world_before react first setup entries at
    world_front setup entries more at within = ap (λ (front : List Entry). fold (next react setup) (start first setup) (map (λ entry. entry.event) front)) (take-append-le at entries more within)

    sound_front : (setup : Setup C) (entries more : List Entry) → IsSoundTo react first setup entries (length entries) → IsSoundTo react first setup (entries ++ more) (length entries)
    sound_front setup entries more sound = λ at entry below there.
        let known = sound at entry below (get_front entries more at entry below there) in
        let same = world_front setup entries more at (omega arith) in
        (subst (λ (w : Situation C). IsLegalIn setup w at entry) (sym same) known.0, known.1 ∙ sym (earlier_front entries more at entry.worker (omega arith)))

    -- A sound history stays sound by an entry that may stand next, with its worker's next number.
    pub sound_on : (setup : Setup C) (entries : List Entry) (entry : Entry) → IsSoundTo react first setup entries (length entries)
        → IsLegalIn setup (world_before react first setup entries (length entries)) (length entries) entry → IsNextOfWorker entries (length entries) entry
        → IsSoundTo react first setup (entries ++ entry ∷ []) (length (entries ++ entry ∷ []))
    sound_on setup entries entry sound legal number =
        let whole : List Entry = entries ++ entry ∷ [] in
        let within : length entries ≤ length entries = omega arith in
        let same = world_front setup entries (entry ∷ []) (length entries) within in
        subst (λ n. IsSoundTo react first setup whole n) (sym (length_on entries entry))
        (sound_more setup whole (length entries) entry (get_last entries entry) (sound_front setup entries (entry ∷ []) sound)
        (subst (λ (w : Situation C). IsLegalIn setup w (length entries) entry) (sym same) legal)
        (number ∙ sym (earlier_front entries (entry ∷ []) (length entries) entry.worker within)))

    -- it comes to the next world
    pub world_on : (setup : Setup C) (entries : List Entry) (entry : Entry) → world_before react first setup (entries ++ entry ∷ []) (length (entries ++ entry ∷ [])) ≡ next react setup (world_before react first setup entries (length entries)) entry.event
    world_on setup entries entry =
        ap (world_before react first setup (entries ++ entry ∷ [])) (length_on entries entry)
        ∙ world_more setup (entries ++ entry ∷ []) (length entries) entry (get_last entries entry)
        ∙ ap (λ (w : Situation C). next react setup w entry.event) (world_front setup entries (entry ∷ []) (length entries) (omega arith))

    -- a history has as many events as entries
    pub events_all : (setup : Setup C) (entries : List Entry) → (world_before react first setup entries (length entries)).shared.events ≡ length entries
    events_all setup entries = along (λ at. (world_before react first setup entries at).shared.events ≡ at) entries 0 (omega arith) refl
        (λ at entry low here known. ap (λ (w : Situation C). w.shared.events) (world_more setup entries at entry here) ∙ next_events setup (world_before react first setup entries at) entry.event ∙ ap (λ n. n + 1) known)

    -- ---- a walk along a history

    -- what is known before the entry at a place: the world and the numbers that the earlier entries lead to, and that these are sound
    pub record Follows (policies : C → ℕ) (setup : Setup C) (entries : List Entry) (at : ℕ) (world : Situation C) (numbers : Numbers) : Type 0 where
      pub comes_to : world ≡ world_before react first setup entries at
      pub fits : Fits policies setup world
      pub events : world.shared.events ≡ at
      pub counted : (worker : ℕ) → number_of numbers worker ≡ earlier_of entries at worker
      pub sound : IsSoundTo react first setup entries at

    -- the walk goes on by an entry that is sound
    pub follows_more : (policies : C → ℕ) (setup : Setup C) (entries : List Entry) (at : ℕ) (entry : Entry) (world after : Situation C) (numbers later : Numbers) → slice_get entries at ≡ Some entry
        → Follows policies setup entries at world numbers → IsLegalIn setup world at entry → entry.number ≡ number_of numbers entry.worker → after ≡ next react setup world entry.event
        → CountsEntry numbers later entry.worker → Fits policies setup after → Follows policies setup entries (at + 1) after later
    follows_more policies setup entries at entry world after numbers later here known legal number e counts fits = record {
      comes_to = e ∙ ap (λ (w : Situation C). next react setup w entry.event) known.comes_to ∙ sym (world_more setup entries at entry here);
      fits = fits;
      events = ap (λ (w : Situation C). w.shared.events) e ∙ next_events setup world entry.event ∙ ap (λ n. n + 1) known.events;
      counted = λ worker. counts worker ∙ ap (λ n. n + (if entry.worker == worker then 1 else 0)) (known.counted worker) ∙ sym (earlier_more entries at entry worker here);
      sound = sound_more setup entries at entry here known.sound (subst (λ (w : Situation C). IsLegalIn setup w at entry) known.comes_to legal) (number ∙ known.counted entry.worker);
    }

    -- the walk has come to the end
    pub follows_all : (policies : C → ℕ) (setup : Setup C) (entries : List Entry) (at : ℕ) (world : Situation C) (numbers : Numbers) → length entries ≡ at → Follows policies setup entries at world numbers
        → Follows policies setup entries (length entries) world numbers
    follows_all policies setup entries at world numbers e known = subst (λ n. Follows policies setup entries n world numbers) (sym e) known

    -- an entry that has something wrong is the first, as the earlier ones are sound
    first_wrong : (policies : C → ℕ) (setup : Setup C) (entries : List Entry) (at : ℕ) (entry : Entry) (world : Situation C) (numbers : Numbers) (why : LogNo) → slice_get entries at ≡ Some entry
        → Follows policies setup entries at world numbers → IsWrongEntry setup world (number_of numbers entry.worker) at entry why → IsFirstWrong react first setup entries at entry why
    first_wrong policies setup entries at entry world numbers why here known wrong = record {
      here = here;
      before = known.sound;
      wrong = subst (λ (n : ℕ). IsWrongEntry setup (world_before react first setup entries at) n at entry why) (known.counted entry.worker)
          (subst (λ (w : Situation C). IsWrongEntry setup w (number_of numbers entry.worker) at entry why) known.comes_to wrong);
    }

    -- what is wrong with the entry that a walk has come to is wrong with the trace
    pub wrong_here : (policies : C → ℕ) (setup : Setup C) (trace : Trace) (at : ℕ) (entry : Entry) (world : Situation C) (numbers : Numbers) (no : LogNo) → slice_get trace.entries at ≡ Some entry
        → Follows policies setup trace.entries at world numbers → IsWrongEntry setup world (number_of numbers entry.worker) at entry no → IsWrong react first setup trace no
    wrong_here policies setup trace at entry world numbers (NotLegal place) here known wrong = (at, entry, first_wrong policies setup trace.entries at entry world numbers (NotLegal place) here known wrong)
    wrong_here policies setup trace at entry world numbers (WorkerOrder place want has) here known wrong =
        (at, entry, first_wrong policies setup trace.entries at entry world numbers (WorkerOrder place want has) here known wrong)
    wrong_here policies setup trace at entry world numbers EndWrong here known wrong = absurd wrong
    wrong_here policies setup trace at entry world numbers OutOfMemory here known wrong = tt

    -- the end that a walk comes to is the trace's
    pub end_here : (policies : C → ℕ) (setup : Setup C) (trace : Trace) (events : ℕ) (world : Situation C) (numbers : Numbers) → Follows policies setup trace.entries (length trace.entries) world numbers
        → events ≡ length trace.entries → EndsAs setup world events trace.end ≡ EndsAs setup (world_after react first setup trace) (length trace.entries) trace.end
    end_here policies setup trace events world numbers known e =
        ap (λ (w : Situation C). EndsAs setup w events trace.end) known.comes_to ∙ ap (λ n. EndsAs setup (world_after react first setup trace) n trace.end) e
