-- Entries that run out: OpenFlow 1.0.0 section 4.7 (hard and idle timeouts), with section 5.4.2 (ofp_flow_removed_reason).
use Rattle.std.specs.Prelude.{ℕ, ◌-◌, ◌≤◌, ◌&&◌, ◌||◌, Bool, not, List, map, filter, nat_le, nat_lt, if◌then◌else◌}
use Rattle.flow_table.specs.declared.entry.Entry.{Entry}

-- the entry was added and last hit at the time or before
pub record IsPast (now : ℕ) (entry : Entry) : Type 0 where
  pub added : entry.added ≤ now
  pub hit : entry.hit ≤ now

-- the entry has a hard timeout, and so many seconds have passed since it was added
abbrev pub is_worn_out : ℕ → Entry → Bool
is_worn_out now entry = nat_lt 0 entry.hard && nat_le entry.hard (now - entry.added)

-- the entry has an idle timeout, and so many seconds have passed since it was last hit
abbrev pub is_idle : ℕ → Entry → Bool
is_idle now entry = nat_lt 0 entry.idle && nat_le entry.idle (now - entry.hit)

-- the entry runs out
abbrev pub runs_out : ℕ → Entry → Bool
runs_out now entry = is_worn_out now entry || is_idle now entry

-- why it does: the hard timeout (1) before the idle one (0)
abbrev pub reason_of : ℕ → Entry → ℕ
reason_of now entry = if is_worn_out now entry then 1 else 0

-- the entries that run out, in the order of the table, each with its reason
abbrev pub gone : ℕ → List Entry → List (Entry × ℕ)
gone now entries = map (λ entry. (entry, reason_of now entry)) (filter (runs_out now) entries)

-- the entries that stay
abbrev pub staying : ℕ → List Entry → List Entry
staying now entries = filter (λ entry. not (runs_out now entry)) entries
