-- How the program ends, once its text is written.
use Rattle.std.proofs.Common.{◌≡◌, ℕ, ◌<◌, List, length, take, subst}
use Rattle.std.specs.Prelude.{Option, String}
use Rattle.std.specs.declared.alloc.Global.{Global}
use Rattle.std.specs.Io.KnownBytes.{Appends}
use Rattle.machine_setup.specs.declared.setup.Setup.{Setup}
use Rattle.event_machine.specs.declared.trace.Entry.{Entry}
use Rattle.controller_host.specs.Hosting.{Hosting}
use Rattle.sts_cli.specs.Answer.{IsAnswer}
use Rattle.sts_cli.specs.Ends.{IsAnswered, IsCutOff, IsRead}
use Rattle.sts_cli.specs.Words.{AreWords}
use Rattle.sts_cli.specs.declared.words.Form.{Form}

module _ (tells : Setup Hosting → List Entry → Type 0) (words : List (String Global)) (left_old left_new taken_old taken_new : Option (List ℕ))
    (form : Form) (asked : AreWords words form)
    (bytes read : List ℕ) (lent : read ≡ bytes) (input : IsRead form left_old left_new bytes)
    (code : ℕ) (text written : List ℕ) (answer : IsAnswer tells form read code text) (whole : written ≡ text) where
  answers : IsAnswer tells form bytes code text
  answers = subst (λ (b : List ℕ). IsAnswer tells form b code text) lent answer

  pub answered : Appends taken_old taken_new written → IsAnswered tells words left_old left_new taken_old taken_new code
  answered taken = (form, bytes, text, asked, input, answers, subst (λ (t : List ℕ). Appends taken_old taken_new t) whole taken)

  pub cut_off : (gone : ℕ) → gone < length written → Appends taken_old taken_new (take gone written) → IsCutOff tells words left_old left_new taken_old taken_new
  cut_off gone part taken = (
    form,
    bytes,
    code,
    text,
    gone,
    asked,
    input,
    answers,
    subst (λ (t : List ℕ). gone < length t) whole part,
    subst (λ (t : List ℕ). Appends taken_old taken_new (take gone t)) whole taken,
  )
