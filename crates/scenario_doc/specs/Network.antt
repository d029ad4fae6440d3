-- Switches, links, hosts and invariants as documents write them.
use Rattle.std.specs.Prelude.{ℕ, ◌-◌, ◌^◌, List, Option, Some, None, Ok, codes, if◌then◌else◌}
use Rattle.std.specs.Str.{bytes_eq}
use Rattle.serde_json.specs.Data.{Data}
use Rattle.topology.specs.declared.invariant.Invariant.{Invariant}
use Rattle.topology.specs.declared.invariant.Invariant.TheVariants.{LoopFree, NoBlackHole, Forbid}
use Rattle.doc_forms.specs.Forms.{counted, element, kind, list, name, number}
use Rattle.doc_forms.specs.Reading.{Reading, ◌>>=◌}
use Rattle.scenario_doc.specs.Flows.{preset_of}
use Rattle.scenario_doc.specs.Packets.{match_of, nullable}
use Rattle.scenario_doc.specs.declared.network.SwitchDraft.{SwitchDraft}
use Rattle.scenario_doc.specs.declared.network.InvariantKind.{InvariantKind}
use Rattle.scenario_doc.specs.declared.network.InvariantKind.TheVariants as word

-- a switch: its number of ports, its controller or null, and its presets
abbrev pub switch_of : Data → Reading SwitchDraft
switch_of value = do
  three ← counted 3 value
  ports ← element (number 1 48) 0 value
  owner ← element (nullable name) 1 value
  presets ← element (list preset_of 64) 2 value
  Ok (record { ports = ports; owner = owner; presets = presets })

-- a link: switch and port of one end, then of the other
abbrev pub link_of : Data → Reading (ℕ × ℕ × ℕ × ℕ)
link_of value = do
  four ← counted 4 value
  s ← element name 0 value
  p ← element name 1 value
  t ← element name 2 value
  q ← element name 3 value
  Ok (s, p, t, q)

-- a host: switch and port, and its MAC address, which is not 0
abbrev pub host_of : Data → Reading (ℕ × ℕ × ℕ)
host_of value = do
  three ← counted 3 value
  s ← element name 0 value
  p ← element name 1 value
  mac ← element (number 1 (2 ^ 48 - 1)) 2 value
  Ok (s, p, mac)

-- the words of invariants
abbrev pub invariant_kind : List ℕ → Option InvariantKind
invariant_kind text =
    if bytes_eq text (codes "loop") then Some word.Loop
    else if bytes_eq text (codes "blackhole") then Some word.BlackHole
    else if bytes_eq text (codes "forbid") then Some word.Forbid
    else None

-- an invariant by its word: `loop` and `blackhole` alone; `forbid` with the source, the destination and a match
abbrev pub invariant_by : InvariantKind → Data → Reading Invariant
invariant_by word.Loop value = do
  one ← counted 1 value
  Ok LoopFree
invariant_by word.BlackHole value = do
  one ← counted 1 value
  Ok NoBlackHole
invariant_by word.Forbid value = do
  four ← counted 4 value
  src ← element name 1 value
  dst ← element name 2 value
  matches ← element match_of 3 value
  Ok (Forbid src dst matches)

abbrev pub invariant_of : Data → Reading Invariant
invariant_of value = do
  word ← kind invariant_kind 0 value
  invariant_by word value
