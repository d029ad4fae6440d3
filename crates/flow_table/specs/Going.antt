-- Which entries a change of a table takes out.
use Rattle.std.specs.Prelude.{Bool, ⊤}
use Rattle.of10_messages.specs.Valid.{IsValidFlowMod}
use Rattle.flow_table.specs.Command.{is_named}
use Rattle.flow_table.specs.Expiry.{runs_out}
use Rattle.flow_table.specs.declared.change.Going.{Going}
use Rattle.flow_table.specs.declared.change.Going.TheVariants.{Named, RunOut}
use Rattle.flow_table.specs.declared.entry.Entry.{Entry}

-- the entries that a command names, or those that run out at a time
abbrev pub goes : Going → Entry → Bool
goes (Named how mods) entry = is_named how mods.now entry
goes (RunOut now) entry = runs_out now entry

-- the FLOW_MOD of a command is valid
abbrev pub IsValidGoing : Going → Type 0
IsValidGoing (Named how mods) = IsValidFlowMod mods.now
IsValidGoing (RunOut now) = ⊤
