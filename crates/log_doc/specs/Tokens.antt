-- A log as it is written, token by token.
use Rattle.std.specs.Prelude.{◌≡◌, ℕ, List, [], ◌∷◌, ◌++◌, Some, codes, decimal, flat_map}
use Rattle.json.specs.Token.{Token, begin_array, begin_object, end_array, key, number, string}
use Rattle.json.specs.Tree.{HasNumbers, json_tokens}
use Rattle.serde_json.specs.Data.{Data}
use Rattle.serde_json.specs.Read.{of_json}
use Rattle.serde_json.specs.Written.{outline}
use Rattle.event_machine.specs.declared.trace.Entry.{Entry}
use Rattle.doc_forms.specs.Written.{list_data}
use Rattle.log_doc.specs.Written.{end_data, entry_data}
use Rattle.log_doc.specs.declared.log.Log.{Log}

-- the tokens of a value
abbrev pub data_tokens : Data → List Token
data_tokens value = json_tokens (outline value)

-- a value whose tokens read as it
pub record IsReadable (value : Data) : Type 0 where
  pub numbers : HasNumbers (outline value)
  pub reads : of_json (outline value) ≡ Some value

-- ---- entries

-- the beginning of an entry: its worker and its number
abbrev pub head_tokens : ℕ → ℕ → List Token
head_tokens worker count = begin_array ∷ number (decimal worker) ∷ number (decimal count) ∷ []

-- the rest of an entry for an input
abbrev pub input_tokens : ℕ → List Token
input_tokens position = string (codes "in") ∷ number (decimal position) ∷ end_array ∷ []

-- the rest of an entry for an item of a pool that one number names
abbrev pub one_name_tokens : List ℕ → ℕ → ℕ → List ℕ → List Token
one_name_tokens word name item taken = string word ∷ number (decimal name) ∷ number (decimal item) ∷ string taken ∷ end_array ∷ []

-- the rest of an entry for an item of a pool that two numbers name
abbrev pub two_names_tokens : List ℕ → ℕ → ℕ → ℕ → List ℕ → List Token
two_names_tokens word name other item taken =
    string word ∷ number (decimal name) ∷ number (decimal other) ∷ number (decimal item) ∷ string taken ∷ end_array ∷ []

-- entries, without the brackets around them
abbrev pub entries_tokens : List Entry → List Token
entries_tokens entries = flat_map (λ entry. data_tokens (entry_data entry)) entries

-- ---- the whole

-- a log up to the value of its scenario
abbrev pub tokens_before_scenario : Log → List Token
tokens_before_scenario log = begin_object ∷ key (codes "end") ∷ (data_tokens (end_data log.trace.end)
    ++ key (codes "entries") ∷ (data_tokens (list_data entry_data log.trace.entries) ++ key (codes "scenario") ∷ []))
