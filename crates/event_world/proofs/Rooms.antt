-- Room in the pools for mail, item by item, and what a put and a flush leave of it.
use Rattle.std.proofs.Common.{◌≡◌, ◌∙◌, ℕ, ◌+◌, ◌^◌, ◌<◌, ◌≤◌, Bool, true, false, cond, List, [], ◌∷◌, ◌++◌, filter_map, length, take, get_or, Option, None, option_map, All, ap, arith, inl, inr, refl, subst, sym}
use Rattle.std.specs.List.{enumerate_from}
use Rattle.std.specs.Prelude.{IfSome, IsSome}
use Rattle.std.proofs.lemmas.Bool.{cases_Bool}
use Rattle.std.proofs.lemmas.List.{length_push, take_more}
use Rattle.std.proofs.lemmas.List.Elements.{All-head, All-map, All-tail, All-weaker}
use Rattle.std.proofs.lemmas.List.FromFn.{length-enumerate_from}
use Rattle.std.proofs.lemmas.List.Sums.{sum_by-append, sum_by-cons}
use Rattle.message_pools.specs.Queue.{Queue, Reserved, empty_queue, flushed, next_number, rest_of, with_last}
use Rattle.message_pools.specs.declared.item.Item.{Item}
use Rattle.message_pools.specs.declared.item.Item.TheVariants as item
use Rattle.of10_messages.specs.declared.message.Message.{Message}
use Rattle.of10_messages.specs.declared.notice.Notice.TheVariants.{Join}
use Rattle.pool_book.specs.Change.{is_itself, same_name}
use Rattle.pool_book.specs.Names.{is_same, names}
use Rattle.pool_book.specs.Pools.{HasRoomFor, Named, UsesRoom, changed, empty_pools, pool_of, queues, room_of}
use Rattle.pool_book.specs.declared.name.PoolName.{PoolName}
use Rattle.event_world.specs.Inputs.{tells}
use Rattle.event_world.specs.Mail.{Mail, addressed, with_mail}
use Rattle.event_world.specs.Room.{CanNumber, HasRoomForMail, KeepsRoom, count_for}
use Rattle.event_world.specs.World.{first_joins, without_all}
use Rattle.event_world.proofs.Lists.{length_given}
use Rattle.event_world.proofs.Named.{all_named, queue_there, same_back, there_by_queues}

-- ---- pools that are there

-- a change to a pool makes none
pub there_before : {A : Type 0} (name other : PoolName) (change : A → A) (pools : List (PoolName × A)) → IsSome (pool_of other (changed name change pools)) → IsSome (pool_of other pools)
there_before name other change [] there = there
there_before name other change (pool ∷ pools) there = elim (cases_Bool (is_same other pool.0)) [
  | inl also ↦ rw also refl
  | inr not ↦ elim (cases_Bool (is_same name pool.0)) [
    | inl holds ↦ let rest : IsSome (pool_of other (changed name change pools)) = rw (holds, not) at there in rw not (there_before name other change pools rest)
    | inr fails ↦ let rest : IsSome (pool_of other (changed name change pools)) = rw (fails, not) at there in rw not (there_before name other change pools rest)
  ]
]

-- a put makes no pool
there_before_put : (name other : PoolName) (change : Queue → Queue) (before after : List (PoolName × Reserved)) → queues after ≡ changed name change (queues before) → IsSome (pool_of other after) → IsSome (pool_of other before)
there_before_put name other change before after put there =
    there_by_queues other before (there_before name other change (queues before) (subst (λ pools. IsSome (pool_of other pools)) put (queue_there other after there)))

-- ---- room for mail

-- there is room for one item of mail more at the end
pub room_push : (mail : Mail) (one : PoolName × Item) (before after : List (PoolName × Reserved)) → HasRoomForMail mail before → queues after ≡ queues before
    → (IsSome (pool_of one.0 before) → HasRoomFor one.0 1 before after) → HasRoomFor one.0 0 before after → HasRoomForMail (mail ++ one ∷ []) after
room_push mail one before after room same more kept name there =
    let was : IsSome (pool_of name before) = there_by_queues name before (subst (λ pools. IsSome (pool_of name pools)) same (queue_there name after there)) in
    let had : count_for name mail ≤ room_of name before = room name was in
    let count : count_for name (mail ++ one ∷ []) ≡ count_for name mail + (0 + cond (is_same name one.0) 1 0) = sum_by-append (λ (o : PoolName × Item). cond (is_same name o.0) 1 0) mail (one ∷ []) in
    elim (cases_Bool (is_same name one.0)) [
      | inl holds ↦
          let is : name ≡ one.0 = same_name name one.0 holds in
          let back : is_same one.0 name ≡ true = sym (same_back name one.0) ∙ holds in
          let got = more (subst (λ n. IsSome (pool_of n before)) is was) name in
          let got' : room_of name before + 1 ≤ room_of name after = rw back at got in
          let count' : count_for name (mail ++ one ∷ []) ≡ count_for name mail + (0 + 1) = rw holds at count in
          omega arith
      | inr fails ↦
          let back : is_same one.0 name ≡ false = sym (same_back name one.0) ∙ fails in
          let got = kept name in
          let got' : room_of name before + 0 ≤ room_of name after = rw back at got in
          let count' : count_for name (mail ++ one ∷ []) ≡ count_for name mail + (0 + 0) = rw fails at count in
          omega arith
    ]

-- there is room for one item more of a list of mail
pub room_more : (mail : Mail) (i : ℕ) (one : PoolName × Item) (before after : List (PoolName × Reserved)) → i < length mail → one ≡ get_or mail i one → HasRoomForMail (take i mail) before → queues after ≡ queues before
    → (IsSome (pool_of one.0 before) → HasRoomFor one.0 1 before after) → HasRoomFor one.0 0 before after → HasRoomForMail (take (i + 1) mail) after
room_more mail i one before after within at room same more kept =
    subst (λ mail. HasRoomForMail mail after) (sym (take_more mail i one within ∙ ap (λ (o : PoolName × Item). take i mail ++ o ∷ []) (sym at)))
    (room_push (take i mail) one before after room same more kept)

-- the first item of mail counts for its own pool
count_first : (name : PoolName) (one : PoolName × Item) (mail : Mail) (test : Bool) → is_same name one.0 ≡ test → count_for name (one ∷ mail) ≡ cond test 1 0 + count_for name mail
count_first name one mail test is = sum_by-cons (λ (o : PoolName × Item). cond (is_same name o.0) 1 0) one mail ∙ ap (λ (t : Bool). cond t 1 0 + count_for name mail) is

-- once the first item is put, there is room for the rest
pub room_rest : (one : PoolName × Item) (mail : Mail) (change : Queue → Queue) (before after : List (PoolName × Reserved)) → HasRoomForMail (one ∷ mail) before → queues after ≡ changed one.0 change (queues before)
    → UsesRoom one.0 1 before after → HasRoomForMail mail after
room_rest one mail change before after room put used name there =
    let was : IsSome (pool_of name before) = there_before_put one.0 name change before after put there in
    let had : count_for name (one ∷ mail) ≤ room_of name before = room name was in
    let left = used name in
    elim (cases_Bool (is_same name one.0)) [
      | inl holds ↦
          let back : is_same one.0 name ≡ true = sym (same_back name one.0) ∙ holds in
          let left' : room_of name before ≤ room_of name after + 1 = rw back at left in
          let count : count_for name (one ∷ mail) ≡ 1 + count_for name mail = count_first name one mail true holds in
          omega arith
      | inr fails ↦
          let back : is_same one.0 name ≡ false = sym (same_back name one.0) ∙ fails in
          let left' : room_of name before ≤ room_of name after + 0 = rw back at left in
          let count : count_for name (one ∷ mail) ≡ 0 + count_for name mail = count_first name one mail false fails in
          omega arith
    ]

-- once an item is put into a pool, it has room for one less
pub room_of_rest : (name : PoolName) (more : ℕ) (change : Queue → Queue) (before after : List (PoolName × Reserved)) → (IsSome (pool_of name before) → more + 1 ≤ room_of name before) → queues after ≡ changed name change (queues before)
    → UsesRoom name 1 before after → IsSome (pool_of name after) → more ≤ room_of name after
room_of_rest name more change before after room put used there =
    let had : more + 1 ≤ room_of name before = room (there_before_put name name change before after put there) in
    let left = used name in
    let left' : room_of name before ≤ room_of name after + 1 = rw (is_itself name) at left in
    omega arith

-- ---- numbers

-- what is so of each pool is so of the pool of a name
at_pool : {A : Type 0} (P : A → Type 0) (name : PoolName) (pools : List (PoolName × A)) → All (λ pool. P pool.1) pools → IfSome (pool_of name pools) P
at_pool P name [] all = tt
at_pool P name (pool ∷ pools) all = elim (cases_Bool (is_same name pool.0)) [
  | inl holds ↦ rw holds (All-head (λ pool. P pool.1) pool pools all)
  | inr fails ↦ rw fails (at_pool P name pools (All-tail (λ pool. P pool.1) pool pools all))
]

-- the pool of a name can number one item more
pub number_first : (name : PoolName) (more : ℕ) (pools : Named) → CanNumber (more + 1) pools → IfSome (pool_of name pools) (λ queue. next_number queue < 2 ^ 63)
number_first name more pools all =
    at_pool (λ queue. next_number queue < 2 ^ 63) name pools (All-weaker (λ (pool : PoolName × Queue). next_number pool.1 + (more + 1) ≤ 2 ^ 63) (λ pool. next_number pool.1 < 2 ^ 63) (λ pool can. omega arith) pools all)

-- once an item is put, each pool can number one less
pub number_rest : (name : PoolName) (item : Item) (more : ℕ) (pools : Named) → CanNumber (more + 1) pools → CanNumber more (changed name (λ queue. with_last queue item) pools)
number_rest name item more pools all =
    all_named (λ (pool : PoolName × Queue). next_number pool.1 + (more + 1) ≤ 2 ^ 63) (λ pool. next_number pool.1 + more ≤ 2 ^ 63) name (λ queue. with_last queue item) pools all
    (λ pool can. omega arith) (λ pool same can. let long = length_push pool.1.items item in omega arith)

-- ---- room that is kept

-- room that one call and then another keep is kept
room_kept : (name : PoolName) (first before after : List (PoolName × Reserved)) → KeepsRoom first before → HasRoomFor name 0 before after → KeepsRoom first after
room_kept name first before after kept more other =
    let so_far : room_of other first ≤ room_of other before = kept other in
    let here = more other in
    elim (cases_Bool (is_same name other)) [
      | inl holds ↦ let here' : room_of other before + 0 ≤ room_of other after = rw holds at here in omega arith
      | inr fails ↦ let here' : room_of other before + 0 ≤ room_of other after = rw fails at here in omega arith
    ]

-- ---- messages that are lost

-- messages that come to no pool change none
lost : (messages : List Message) (pools : Named) → pools ≡ with_mail (filter_map (λ (message : Message). addressed None (item.Message message)) messages) pools
lost [] pools = refl
lost (message ∷ messages) pools = lost messages pools

pub no_mail : (name : Option PoolName) (messages : List Message) (pools : Named) → name ≡ None → pools ≡ with_mail (filter_map (λ (message : Message). addressed name (item.Message message)) messages) pools
no_mail name messages pools none = subst (λ name. pools ≡ with_mail (filter_map (λ (message : Message). addressed name (item.Message message)) messages) pools) (sym none) (lost messages pools)

-- ---- changes before mail is put

-- room for mail stays where a change to a pool keeps the room
pub room_changed : (name : PoolName) (mail : Mail) (change : Queue → Queue) (before after : List (PoolName × Reserved)) → HasRoomForMail mail before → queues after ≡ changed name change (queues before)
    → HasRoomFor name 0 before after → HasRoomForMail mail after
room_changed name mail change before after room put kept other there =
    let had = room other (there_before_put name other change before after put there) in
    let left = room_kept name before before after (λ n. omega arith) kept other in
    omega arith

-- and each pool can number as many items as before, where the change gives the next item no greater number
pub number_changed : (name : PoolName) (more : ℕ) (change : Queue → Queue) (pools : Named) → ((queue : Queue) → next_number (change queue) ≤ next_number queue) → CanNumber more pools → CanNumber more (changed name change pools)
number_changed name more change pools lower all =
    let P : PoolName × Queue → Type 0 = λ pool. next_number pool.1 + more ≤ 2 ^ 63 in
    all_named P P name change pools all (λ pool can. can) (λ pool same can. let low = lower pool.1 in omega arith)

next_from : (first : ℕ) (items : List Item) → next_number (rest_of (record { first = first; items = items })) ≤ first + length items
next_from first [] = omega arith
next_from first (item ∷ items) = omega arith

-- the number of the next item is as it was once an item is taken
pub next_of_rest : (queue : Queue) → next_number (rest_of queue) ≤ next_number queue
next_of_rest queue = next_from queue.first queue.items

-- a flush makes no pool, and keeps what can be numbered
there_before_flushes : (names : List PoolName) (other : PoolName) (pools : Named) → IsSome (pool_of other (without_all names pools)) → IsSome (pool_of other pools)
there_before_flushes [] other pools there = there
there_before_flushes (name ∷ names) other pools there = there_before name other flushed pools (there_before_flushes names other (changed name flushed pools) there)

pub number_flushed : (names : List PoolName) (more : ℕ) (pools : Named) → CanNumber more pools → CanNumber more (without_all names pools)
number_flushed [] more pools all = all
number_flushed (name ∷ names) more pools all = number_flushed names more (changed name flushed pools) (number_changed name more flushed pools (λ queue. omega arith) all)

pub room_flushed : (names : List PoolName) (mail : Mail) (before after : List (PoolName × Reserved)) → HasRoomForMail mail before → queues after ≡ without_all names (queues before) → KeepsRoom before after → HasRoomForMail mail after
room_flushed names mail before after room put kept other there =
    let was : IsSome (pool_of other before) =
    there_by_queues other before (there_before_flushes names other (queues before) (subst (λ pools. IsSome (pool_of other pools)) put (queue_there other after there))) in
    let had = room other was in
    let left = kept other in
    omega arith

-- ---- the start

few_join : (owners : List (Option ℕ)) → length (first_joins owners) ≤ length owners
few_join owners =
    let given = length_given (λ (owner : ℕ × Option ℕ). option_map (λ (c : ℕ). tells owner.0 (Join 0)) owner.1) (enumerate_from 0 owners) in
    let all = length-enumerate_from 0 owners in
    omega arith

-- pools in which nothing waits can number a join of each switch
pub number_joins : (ports : List ℕ) (controllers hosts : ℕ) (owners : List (Option ℕ)) → length owners < 2 ^ 16 → CanNumber (length (first_joins owners)) (empty_pools ports controllers hosts)
number_joins ports controllers hosts owners few =
    let joins = few_join owners in
    All-map (λ (pool : PoolName × Queue). next_number pool.1 + length (first_joins owners) ≤ 2 ^ 63) (λ (name : PoolName). (name, empty_queue)) (names ports controllers hosts) (λ k d within. omega arith)
