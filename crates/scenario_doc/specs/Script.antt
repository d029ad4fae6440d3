-- The lines of a script as documents write them.
use Rattle.std.specs.Prelude.{ℕ, ◌==◌, List, Option, Some, None, Ok, codes, if◌then◌else◌}
use Rattle.std.specs.Str.{bytes_eq}
use Rattle.serde_json.specs.Data.{Data}
use Rattle.machine_setup.specs.declared.script.Input.{Input}
use Rattle.machine_setup.specs.declared.script.Input.TheVariants as input
use Rattle.machine_setup.specs.declared.script.Line.{Line}
use Rattle.doc_forms.specs.Forms.{counted, element, kind, name, number}
use Rattle.doc_forms.specs.Reading.{Reading, ◌>>=◌}
use Rattle.scenario_doc.specs.Packets.{bits, header_of, match_of}
use Rattle.scenario_doc.specs.declared.script.LineKind.{LineKind}
use Rattle.scenario_doc.specs.declared.script.LineKind.TheVariants as word

-- the words of inputs
abbrev pub line_kind : List ℕ → Option LineKind
line_kind text =
    if bytes_eq text (codes "inject") then Some word.Inject
    else if bytes_eq text (codes "linkdown") then Some word.LinkDown
    else if bytes_eq text (codes "linkup") then Some word.LinkUp
    else if bytes_eq text (codes "switchfail") then Some word.SwitchFail
    else if bytes_eq text (codes "switchup") then Some word.SwitchUp
    else if bytes_eq text (codes "controldown") then Some word.ControlDown
    else if bytes_eq text (codes "controlup") then Some word.ControlUp
    else if bytes_eq text (codes "hostmove") then Some word.HostMove
    else if bytes_eq text (codes "policy") then Some word.Policy
    else if bytes_eq text (codes "seconds") then Some word.Seconds
    else None

-- how many elements a line has: the mark, the word, and what the word asks for
abbrev pub line_length : LineKind → ℕ
line_length word.Inject = 5
line_length word.HostMove = 5
line_length word.Policy = 4
line_length other = 3

-- an input by its word
abbrev pub input_by : LineKind → Data → Reading Input
input_by word.Inject value = do
  host ← element name 2 value
  header ← element header_of 3 value
  tag ← element (bits 32) 4 value
  Ok (input.Inject host (record { header = header; tag = tag }))
input_by word.LinkDown value = do
  link ← element name 2 value
  Ok (input.LinkDown link)
input_by word.LinkUp value = do
  link ← element name 2 value
  Ok (input.LinkUp link)
input_by word.SwitchFail value = do
  s ← element name 2 value
  Ok (input.SwitchFail s)
input_by word.SwitchUp value = do
  s ← element name 2 value
  Ok (input.SwitchUp s)
input_by word.ControlDown value = do
  s ← element name 2 value
  Ok (input.ControlDown s)
input_by word.ControlUp value = do
  s ← element name 2 value
  Ok (input.ControlUp s)
input_by word.HostMove value = do
  host ← element name 2 value
  s ← element name 3 value
  p ← element name 4 value
  Ok (input.HostMove host s p)
input_by word.Policy value = do
  c ← element name 2 value
  deny ← element match_of 3 value
  Ok (input.Policy c deny)
input_by word.Seconds value = do
  n ← element (number 1 1000000) 2 value
  Ok (input.Seconds n)

-- a line: the mark, 1 where it waits for quiet, the word, and what it asks for
abbrev pub line_of : Data → Reading Line
line_of value = do
  word ← kind line_kind 1 value
  all ← counted (line_length word) value
  mark ← element (number 0 1) 0 value
  done ← input_by word value
  Ok (record { after_quiet = mark == 1; input = done })
