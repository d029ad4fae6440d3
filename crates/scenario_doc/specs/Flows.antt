-- Presets, the entries with which a switch starts, as documents write them.
use Rattle.std.specs.Prelude.{ℕ, ◌==◌, ◌-◌, ◌^◌, List, Option, Some, None, Ok, codes, if◌then◌else◌}
use Rattle.std.specs.Option.{option_map_or}
use Rattle.std.specs.Str.{bytes_eq}
use Rattle.serde_json.specs.Data.{Data}
use Rattle.of10_messages.specs.declared.action.Action.{Action}
use Rattle.of10_messages.specs.declared.action.Action.TheVariants.{Output, SetVlanVid, SetVlanPcp, StripVlan, SetDlSrc, SetDlDst, SetNwSrc, SetNwDst, SetNwTos, SetTpSrc, SetTpDst}
use Rattle.machine_setup.specs.declared.preset.Preset.{Preset}
use Rattle.doc_forms.specs.Forms.{counted, element, kind, list, name, number, whole}
use Rattle.doc_forms.specs.Reading.{Reading, ◌>>=◌, refused}
use Rattle.scenario_doc.specs.Packets.{bits, match_of}
use Rattle.scenario_doc.specs.declared.flows.ActionKind.{ActionKind}
use Rattle.scenario_doc.specs.declared.flows.ActionKind.TheVariants as word
use Rattle.scenario_doc.specs.declared.flows.Rewrite.{Rewrite}
use Rattle.scenario_doc.specs.declared.flows.Rewrite.TheVariants as rewrite

-- the words of actions
abbrev pub action_kind : List ℕ → Option ActionKind
action_kind text =
    if bytes_eq text (codes "output") then Some word.Output
    else if bytes_eq text (codes "set") then Some word.Set
    else if bytes_eq text (codes "strip") then Some word.Strip
    else None

-- a field that an action sets, by the type of that action (OpenFlow 1.0.0 section 5.2.4, ofp_action_type)
abbrev pub rewrite_numbered : ℕ → Option Rewrite
rewrite_numbered type =
    if type == 1 then Some rewrite.VlanVid
    else if type == 2 then Some rewrite.VlanPcp
    else if type == 4 then Some rewrite.DlSrc
    else if type == 5 then Some rewrite.DlDst
    else if type == 6 then Some rewrite.NwSrc
    else if type == 7 then Some rewrite.NwDst
    else if type == 8 then Some rewrite.NwTos
    else if type == 9 then Some rewrite.TpSrc
    else if type == 10 then Some rewrite.TpDst
    else None

-- a field by that number, which is refused like a word that is not known
abbrev pub rewrite_of : Data → Reading Rewrite
rewrite_of value = do
  type ← whole value
  option_map_or Ok (rewrite_numbered type) (refused 7)

-- the value to which a field is set
abbrev pub set_to : Rewrite → Data → Reading Action
set_to rewrite.VlanVid value = do
  n ← element (number 0 4095) 2 value
  Ok (SetVlanVid n)
set_to rewrite.VlanPcp value = do
  n ← element (number 0 7) 2 value
  Ok (SetVlanPcp n)
set_to rewrite.DlSrc value = do
  n ← element (bits 48) 2 value
  Ok (SetDlSrc n)
set_to rewrite.DlDst value = do
  n ← element (bits 48) 2 value
  Ok (SetDlDst n)
set_to rewrite.NwSrc value = do
  n ← element (bits 32) 2 value
  Ok (SetNwSrc n)
set_to rewrite.NwDst value = do
  n ← element (bits 32) 2 value
  Ok (SetNwDst n)
set_to rewrite.NwTos value = do
  n ← element (bits 8) 2 value
  Ok (SetNwTos n)
set_to rewrite.TpSrc value = do
  n ← element (bits 16) 2 value
  Ok (SetTpSrc n)
set_to rewrite.TpDst value = do
  n ← element (bits 16) 2 value
  Ok (SetTpDst n)

-- an action by its word: `output`, a port and a length; `set`, a type and a value; `strip`
abbrev pub action_by : ActionKind → Data → Reading Action
action_by word.Output value = do
  three ← counted 3 value
  port ← element name 1 value
  max_len ← element (bits 16) 2 value
  Ok (Output port max_len)
action_by word.Set value = do
  three ← counted 3 value
  field ← element rewrite_of 1 value
  set_to field value
action_by word.Strip value = do
  one ← counted 1 value
  Ok StripVlan

abbrev pub action_of : Data → Reading Action
action_of value = do
  word ← kind action_kind 0 value
  action_by word value

-- a preset: match, priority, actions, idle and hard timeout, flags and cookie
abbrev pub preset_of : Data → Reading Preset
preset_of value = do
  seven ← counted 7 value
  matches ← element match_of 0 value
  priority ← element (bits 16) 1 value
  actions ← element (list action_of 16) 2 value
  idle ← element (bits 16) 3 value
  hard ← element (bits 16) 4 value
  flags ← element (number 0 1) 5 value
  cookie ← element (bits 64) 6 value
  Ok (record {
    matches = matches;
    priority = priority;
    actions = actions;
    idle = idle;
    hard = hard;
    flags = flags;
    cookie = cookie;
  })
