-- How the program ends: what was read, and what was written.
use Rattle.std.specs.Prelude.{◌≡◌, ℕ, ◌<◌, ◌≤◌, ◌⊎◌, List, [], length, take, Option, IfSome, String}
use Rattle.std.specs.declared.alloc.Global.{Global}
use Rattle.std.specs.Io.KnownBytes.{IsAtEnd, Appends}
use Rattle.machine_setup.specs.declared.setup.Setup.{Setup}
use Rattle.event_machine.specs.declared.trace.Entry.{Entry}
use Rattle.controller_host.specs.Hosting.{Hosting}
use Rattle.sts_cli.specs.Answer.{IsAnswer}
use Rattle.sts_cli.specs.Words.{AreWords}
use Rattle.sts_cli.specs.declared.words.Form.{Form}
use Rattle.sts_cli.specs.declared.words.Form.TheVariants.{Gen}

-- the statuses whose text is written whole
abbrev pub IsTold : ℕ → Type 0
IsTold code = (code ≡ 0) ⊎ ((code ≡ 1) ⊎ ((code ≡ 3) ⊎ ((code ≡ 4) ⊎ (code ≡ 9))))

-- the statuses that write nothing
abbrev pub IsSilent : ℕ → Type 0
IsSilent code = (code ≡ 2) ⊎ ((code ≡ 5) ⊎ ((code ≡ 7) ⊎ (code ≡ 8)))

-- The source was read to its end, and these were the bytes: where it tells its bytes, all that were left. They are not
-- too many.
abbrev pub IsInput : Option (List ℕ) → Option (List ℕ) → List ℕ → Type 0
IsInput old new bytes = IfSome old (λ all. bytes ≡ all) × IsAtEnd new × (length bytes ≤ 16777216)

-- what was read for a form: nothing for a made-up scenario
abbrev pub IsRead : Form → Option (List ℕ) → Option (List ℕ) → List ℕ → Type 0
IsRead (Gen seed size) old new bytes = (new ≡ old) × (bytes ≡ [])
IsRead other old new bytes = IsInput old new bytes

module _ (tells : Setup Hosting → List Entry → Type 0) (words : List (String Global)) (left_old left_new taken_old taken_new : Option (List ℕ)) where
  -- the source was read to its end, or not at all where nothing is asked of it, and the text that answers its bytes, by what the words
  -- ask for, was taken whole
  abbrev pub IsAnswered : ℕ → Type 0
  IsAnswered code = (form : Form) × (bytes : List ℕ) × (text : List ℕ) × AreWords words form
      × IsRead form left_old left_new bytes × IsAnswer tells form bytes code text × Appends taken_old taken_new text

  -- the source was read so too, and of the text that answers its bytes a part was taken, which may be empty and is not the whole
  abbrev pub IsCutOff : Type 0
  IsCutOff = (form : Form) × (bytes : List ℕ) × (code : ℕ) × (text : List ℕ) × (gone : ℕ) × AreWords words form
      × IsRead form left_old left_new bytes × IsAnswer tells form bytes code text × (gone < length text) × Appends taken_old taken_new (take gone text)
