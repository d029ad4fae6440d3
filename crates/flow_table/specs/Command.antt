-- What a FLOW_MOD makes of a table: OpenFlow 1.0.0 section 4.6, with section 5.3.3 (ofp_flow_mod).
use Rattle.std.specs.Prelude.{ℕ, ◌==◌, ◌&&◌, ◌||◌, Bool, false, not, List, [], ◌∷◌, ◌++◌, length, map, filter, count_by, position, Option, None, Result, Ok, Err, bit_and, nat_le, if◌then◌else◌}
use Rattle.std.specs.List.{list_any}
use Rattle.std.specs.Option.{option_map_or}
use Rattle.of10_match.specs.Match.{covers, overlaps, same}
use Rattle.of10_messages.specs.declared.action.Action.{Action}
use Rattle.of10_messages.specs.declared.action.Action.TheVariants as action
use Rattle.of10_messages.specs.declared.message.FlowMod.{FlowMod}
use Rattle.flow_table.specs.declared.command.Command.{Command}
use Rattle.flow_table.specs.declared.command.Command.TheVariants.{Add, Modify, ModifyStrict, Delete, DeleteStrict}
use Rattle.flow_table.specs.declared.effect.TableNo.{TableNo}
use Rattle.flow_table.specs.declared.effect.TableNo.TheVariants.{Overlap, Full}
use Rattle.flow_table.specs.declared.entry.Entry.{Entry}

-- the entry that a FLOW_MOD adds at a time: with zero counts, and last hit when it was added
abbrev pub entry_of : FlowMod → ℕ → Entry
entry_of mods now = record {
  matches = mods.matches;
  priority = mods.priority;
  cookie = mods.cookie;
  idle = mods.idle_timeout;
  hard = mods.hard_timeout;
  flags = mods.flags;
  actions = mods.actions;
  added = now;
  hit = now;
  packets = 0;
  bytes = 0;
}

-- ---- which entries a FLOW_MOD speaks of

-- the entry has the match and the priority of the FLOW_MOD
abbrev pub is_same : FlowMod → Entry → Bool
is_same mods entry = same entry.matches mods.matches && entry.priority == mods.priority

-- the match of the FLOW_MOD covers that of the entry
abbrev pub is_covered : FlowMod → Entry → Bool
is_covered mods entry = covers mods.matches entry.matches

-- the action is an Output to the port
abbrev pub is_output_to : ℕ → Action → Bool
is_output_to port (action.Output to max_len) = to == port
is_output_to port _ = false

-- the entry has an Output to the out_port of the FLOW_MOD, where it names one: OFPP_NONE asks for nothing
abbrev pub has_output : FlowMod → Entry → Bool
has_output mods entry = mods.out_port == 65535 || list_any (is_output_to mods.out_port) entry.actions

-- the entries that a command speaks of, by its kind
abbrev pub is_named : Command → FlowMod → Entry → Bool
is_named Add mods entry = is_same mods entry
is_named Modify mods entry = is_covered mods entry
is_named ModifyStrict mods entry = is_same mods entry
is_named Delete mods entry = is_covered mods entry && has_output mods entry
is_named DeleteStrict mods entry = is_same mods entry && has_output mods entry

-- ---- why nothing is added

-- the entry has the priority of the FLOW_MOD, and some packet is taken by both
abbrev pub is_overlapped : FlowMod → Entry → Bool
is_overlapped mods entry = overlaps entry.matches mods.matches && entry.priority == mods.priority

-- the first place of such an entry, where the FLOW_MOD asks that there is none (OFPFF_CHECK_OVERLAP, bit 1 of the flags)
abbrev pub overlap_of : List Entry → FlowMod → Option ℕ
overlap_of entries mods = if bit_and mods.flags 2 == 0 then None else position (is_overlapped mods) entries

-- there is no entry that would give way, and the table has all 1,024 entries that it can hold
abbrev pub is_full_for : List Entry → FlowMod → Bool
is_full_for entries mods = not (list_any (is_named Add mods) entries) && nat_le 1024 (length entries)

-- ---- the commands

-- what a command leaves: the entries in the order of their adding, those that were taken out in the order of the table,
-- and how many were given the FLOW_MOD's actions
pub record After : Type 0 where
  pub entries : List Entry
  pub removed : List Entry
  pub changed : ℕ

-- the entries that a command names are taken out
abbrev pub without : Command → FlowMod → List Entry → List Entry
without how mods entries = filter (λ entry. not (is_named how mods entry)) entries

-- ADD puts the new entry last, and takes out the one with its match and priority.
abbrev pub added : List Entry → FlowMod → ℕ → Result After TableNo
added entries mods now = option_map_or (λ with. Err (Overlap with)) (overlap_of entries mods)
    (if is_full_for entries mods then Err Full else Ok (record {
      entries = without Add mods entries ++ entry_of mods now ∷ [];
      removed = filter (is_named Add mods) entries;
      changed = 0;
    }))

-- an entry with the actions of the FLOW_MOD, where the command names it, and else as it is
abbrev pub with_actions : Command → FlowMod → Entry → Entry
with_actions how mods entry = if is_named how mods entry then record entry { actions = mods.actions } else entry

-- MODIFY changes the actions, and nothing else, of the entries that it names; where it names none it adds.
abbrev pub modified : Command → List Entry → FlowMod → ℕ → Result After TableNo
modified how entries mods now =
    if list_any (is_named how mods) entries then Ok (record {
      entries = map (with_actions how mods) entries;
      removed = [];
      changed = count_by (is_named how mods) entries;
    })
    else added entries mods now

-- DELETE takes out the entries that it names.
abbrev pub deleted : Command → List Entry → FlowMod → Result After TableNo
deleted how entries mods = Ok (record {
  entries = without how mods entries;
  removed = filter (is_named how mods) entries;
  changed = 0;
})

-- the table after a command at a time, or why it stays as it is
abbrev pub command : Command → List Entry → FlowMod → ℕ → Result After TableNo
command Add entries mods now = added entries mods now
command Modify entries mods now = modified Modify entries mods now
command ModifyStrict entries mods now = modified ModifyStrict entries mods now
command Delete entries mods now = deleted Delete entries mods
command DeleteStrict entries mods now = deleted DeleteStrict entries mods
