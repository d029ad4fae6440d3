-- A flow entry: which are valid, its rank, what it takes, and what a packet that it takes does to it.
use Rattle.std.specs.Prelude.{ℕ, ◌+◌, ◌-◌, ◌<◌, ◌≤◌, ◌^◌, Bool, min, List, length, All, if◌then◌else◌}
use Rattle.of10_match.specs.Match.{IsValidMatch, has_wildcard, takes}
use Rattle.of10_match.specs.declared.header.Header.{Header}
use Rattle.of10_messages.specs.Valid.{IsValidAction}
use Rattle.flow_table.specs.declared.entry.Entry.{Entry}

-- each field lies within its width, and the match and the actions are valid
pub record IsValidEntry (e : Entry) : Type 0 where
  pub matches : IsValidMatch e.matches
  pub priority : e.priority < 2 ^ 16
  pub cookie : e.cookie < 2 ^ 64
  pub idle : e.idle < 2 ^ 16
  pub hard : e.hard < 2 ^ 16
  pub flags : e.flags < 2 ^ 16
  pub actions : All IsValidAction e.actions
  pub added : e.added < 2 ^ 32
  pub hit : e.hit < 2 ^ 32
  pub packets : e.packets < 2 ^ 64
  pub bytes : e.bytes < 2 ^ 64

-- what a table may hold: valid entries, at most 1,024
pub record IsTable (entries : List Entry) : Type 0 where
  pub valid : All IsValidEntry entries
  pub few : length entries ≤ 1024

-- An entry without wildcards comes before all with wildcards, and these by their priority (OpenFlow 1.0.0 section 3.4).
abbrev pub rank : Entry → ℕ
rank entry = if has_wildcard entry.matches then entry.priority else 65536

-- whether an entry takes a packet with a header that comes in by a port
abbrev pub takes_packet : ℕ → Header → Entry → Bool
takes_packet port header entry = takes entry.matches port header

-- An entry that took a packet at a time: one packet and 64 bytes more, each count up to the greatest number (section 3.2,
-- the counters of a flow; every simulated packet counts 64 bytes).
abbrev pub counted : ℕ → Entry → Entry
counted now entry = record entry {
  packets = min (entry.packets + 1) (2 ^ 64 - 1);
  bytes = min (entry.bytes + 64) (2 ^ 64 - 1);
  hit = now;
}
