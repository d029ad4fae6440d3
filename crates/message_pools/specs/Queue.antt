-- A pool: what waits, in the order of its coming, and the number of the first item.
use Rattle.std.specs.Prelude.{ℕ, ◌+◌, List, [], ◌∷◌, ◌++◌, length, Option, Some, None}
use Rattle.message_pools.specs.declared.item.Item.{Item}

-- the items that wait, and the number of the first of them, or of the next to come where none waits
pub record Queue : Type 0 where
  pub first : ℕ
  pub items : List Item

-- a queue, and for how many items more there is room
pub record Reserved : Type 0 where
  pub queue : Queue
  pub spare : ℕ

-- nothing has come yet
abbrev pub empty_queue : Queue
empty_queue = record { first = 0; items = [] }

-- the number that the next item gets: items are numbered in the order of their coming
abbrev pub next_number : Queue → ℕ
next_number queue = queue.first + length queue.items

-- the first item that waits, with its number
abbrev pub head_of : Queue → Option (ℕ × Item)
head_of queue = head_of_items queue.first queue.items where
  head_of_items : ℕ → List Item → Option (ℕ × Item)
  head_of_items first [] = None
  head_of_items first (item ∷ rest) = Some (first, item)

-- the queue without its first item
abbrev pub rest_of : Queue → Queue
rest_of queue = rest_from queue.first queue.items where
  rest_from : ℕ → List Item → Queue
  rest_from first [] = record { first = first; items = [] }
  rest_from first (item ∷ rest) = record { first = first + 1; items = rest }

-- the queue with an item put last
abbrev pub with_last : Queue → Item → Queue
with_last queue item = record queue { items = queue.items ++ item ∷ [] }

-- the queue with all that waits thrown away; numbers go on from where they were
abbrev pub flushed : Queue → Queue
flushed queue = record { first = next_number queue; items = [] }
