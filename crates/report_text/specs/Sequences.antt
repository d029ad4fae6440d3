-- The lines of a reduced script. Each ends with a line feed.
use Rattle.std.specs.Prelude.{ℕ, ◌==◌, List, [], ◌++◌, length, flat_map, codes, Bool, if◌then◌else◌}
use Rattle.std.specs.Fmt.{decimal}
use Rattle.std.specs.List.{enumerate_from, list_any}
use Rattle.serde_json.specs.Written.{compact_text}
use Rattle.machine_setup.specs.declared.script.Line.{Line}
use Rattle.scenario_doc.specs.Written.{line_data}
use Rattle.report_text.specs.Events.{line_feed}

-- whether a line of the script is kept, told by its place: it is in one of the atoms
abbrev pub is_kept : List (List ℕ) → ℕ → Bool
is_kept atoms place = list_any (λ atom. list_any (λ at. at == place) atom) atoms

-- a kept line of the script, as it stands in the scenario
abbrev pub input_line : ℕ → Line → List ℕ
input_line place line = codes "input " ++ (decimal place ++ (codes " " ++ (compact_text (line_data line) ++ line_feed)))

-- how many atoms are left of how many
abbrev pub count_line : List (List ℕ) → ℕ → List ℕ
count_line atoms of = codes "sequence " ++ (decimal (length atoms) ++ (codes " atoms of " ++ (decimal of ++ line_feed)))

-- the lines that are kept, in the order of the script
abbrev pub input_lines : List (List ℕ) → List Line → List ℕ
input_lines atoms script = flat_map (λ line. if is_kept atoms line.0 then input_line line.0 line.1 else []) (enumerate_from 0 script)

-- a reduced script: what is left of it
abbrev pub sequence_text : List Line → List (List ℕ) → ℕ → List ℕ
sequence_text script atoms of = count_line atoms of ++ input_lines atoms script
