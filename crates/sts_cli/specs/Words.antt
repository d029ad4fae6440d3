-- The words of the program.
use Rattle.std.specs.Prelude.{◌≡◌, ℕ, ◌<◌, ◌≤◌, ◌^◌, ◌⊎◌, List, [], ◌∷◌, map, codes, string_bytes, String, ⊤}
use Rattle.std.specs.declared.alloc.Global.{Global}
use Rattle.std.specs.Fmt.{decimal}
use Rattle.sts_cli.specs.declared.words.Form.{Form}
use Rattle.sts_cli.specs.declared.words.Form.TheVariants.{OfScenario, OfLog, Gen}
use Rattle.sts_cli.specs.declared.words.Aim.TheVariants.{Find, Record}
use Rattle.sts_cli.specs.declared.words.Job.TheVariants.{Check, Replay, Reduce}

-- the words that ask for something; numbers are decimal, without a sign or a zero before others
abbrev pub words_of : Form → List (List ℕ)
words_of (OfScenario Find) = codes "find" ∷ []
words_of (OfScenario Record) = codes "record" ∷ []
words_of (OfLog Check) = codes "check" ∷ []
words_of (OfLog Replay) = codes "replay" ∷ []
words_of (OfLog Reduce) = codes "reduce" ∷ []
words_of (Gen seed size) = codes "gen" ∷ decimal seed ∷ decimal size ∷ []

-- the numbers of a made-up scenario: a seed of 64 bits, and 3 to 64 switches
abbrev pub HasRange : Form → Type 0
HasRange (Gen seed size) = (seed < 2 ^ 64) × (3 ≤ size) × (size ≤ 64)
HasRange other = ⊤

-- the words ask for that
abbrev pub AreWords : List (String Global) → Form → Type 0
AreWords words form = (map string_bytes words ≡ words_of form) × HasRange form

-- the words ask for something
abbrev pub IsForm : List (String Global) → Type 0
IsForm words = (form : Form) × AreWords words form

-- a run of the scenario that is read
abbrev pub IsRunOf : Form → Type 0
IsRunOf (OfScenario aim) = ⊤
IsRunOf other = ⊥

-- a made-up scenario
abbrev pub IsMadeUp : Form → Type 0
IsMadeUp (Gen seed size) = ⊤
IsMadeUp other = ⊥

-- the words ask for a run of the scenario that is read
abbrev pub AskForRun : List (String Global) → Type 0
AskForRun words = (form : Form) × AreWords words form × IsRunOf form

-- the words ask for a made-up scenario
abbrev pub AskForMade : List (String Global) → Type 0
AskForMade words = (form : Form) × AreWords words form × IsMadeUp form
