-- The best entry of a table for a packet: the one that no other entry beats.
use Rattle.std.specs.Prelude.{◌≡◌, ℕ, ◌<◌, ◌&&◌, ◌||◌, ◌⊎◌, Bool, not, List, slice_get, Option, Some, option_and_then, position, nat_le}
use Rattle.std.specs.List.{list_all}
use Rattle.std.specs.Option.{option_map_or}
use Rattle.listed.specs.Lists.{changed_at}
use Rattle.of10_match.specs.Match.{Takes}
use Rattle.of10_match.specs.declared.header.Header.{Header}
use Rattle.flow_table.specs.declared.entry.Entry.{Entry}
use Rattle.flow_table.specs.Entry.{counted, rank, takes_packet}

-- the entry at a place takes the packet
pub record TakesAt (entries : List Entry) (port : ℕ) (header : Header) (place : ℕ) (entry : Entry) : Type 0 where
  pub here : slice_get entries place ≡ Some entry
  pub takes : Takes entry.matches port header

-- One entry beats another by a greater rank, or by an equal rank and an earlier place (which of two entries of one priority
-- counts OpenFlow 1.0.0 leaves to the switch).
abbrev pub Beats : ℕ → Entry → ℕ → Entry → Type 0
Beats place entry other_place other = (rank other < rank entry) ⊎ ((rank entry ≡ rank other) × (place < other_place))

-- the entry at a place takes the packet, and no entry that takes it beats that one
pub record IsBest (entries : List Entry) (port : ℕ) (header : Header) (place : ℕ) (entry : Entry) : Type 0 where
  pub takes : TakesAt entries port header place entry
  pub unbeaten : (other_place : ℕ) (other : Entry) → TakesAt entries port header other_place other → ¬ Beats other_place other place entry

-- whether an entry takes the packet, and no entry that takes it has a greater rank
abbrev pub has_greatest_rank : List Entry → ℕ → Header → Entry → Bool
has_greatest_rank entries port header entry =
    takes_packet port header entry && list_all (λ other. not (takes_packet port header other) || nat_le (rank other) (rank entry)) entries

-- where the best entry stands: the first place of an entry that takes the packet and that none which takes it outranks
abbrev pub best_place : List Entry → ℕ → Header → Option ℕ
best_place entries port header = position (has_greatest_rank entries port header) entries

-- the best entry
abbrev pub best_entry : List Entry → ℕ → Header → Option Entry
best_entry entries port header = option_and_then (slice_get entries) (best_place entries port header)

-- the table after a packet: its best entry is counted
abbrev pub after_packet : List Entry → ℕ → Header → ℕ → List Entry
after_packet entries port header now = option_map_or (λ place. changed_at place (counted now) entries) (best_place entries port header) entries
