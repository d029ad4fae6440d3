-- What a cutter's types stand for.
use Rattle.std.specs.Prelude.{◌≡◌, ◌≤◌, ℕ, List, None, drop, length, take, ⊤}
use Rattle.of10_messages.specs.Refusal.{refusal_of}
use Rattle.of10_view.specs.declared.cutter.Cutter.{Cutter}
use Rattle.of10_view.specs.declared.cutter.Next.{Next}
use Rattle.of10_view.specs.declared.cutter.Next.TheVariants as next
use Rattle.of10_view.specs.declared.cutter.Step.{Step}
use Rattle.of10_view.specs.declared.cutter.Step.TheVariants as step
use Rattle.of10_view.specs.Lent.{view_bytes}
use Rattle.of10_view.specs.Stream.{Broken, Coming, NotYet, Whole, next_of}

-- an answer, by the bytes of its message
abbrev pub seen : Next → Coming
seen (next.Whole view) = Whole (view_bytes view)
seen (next.NotYet need have) = NotYet need have
seen (next.Broken bad) = Broken bad

-- what was fed and not taken out
abbrev pub held : Cutter → List ℕ
held cutter = drop cutter.taken cutter.bytes.items

-- how many bytes are in memory, held or taken out
abbrev pub kept : Cutter → ℕ
kept cutter = length cutter.bytes.items

-- a decision on some bytes, by the bytes of its message
abbrev pub decided : List ℕ → Step → Coming
decided bytes (step.Whole len) = Whole (take len bytes)
decided bytes (step.NotYet need have) = NotYet need have
decided bytes (step.Broken bad) = Broken bad

-- the message of a decision stands in the bytes, and is read
abbrev pub Stands : List ℕ → Step → Type 0
Stands bytes (step.Whole len) = (len ≤ length bytes) × (refusal_of (take len bytes) ≡ None)
Stands bytes _ = ⊤

-- a decision on some bytes is the right one
pub record IsStep (bytes : List ℕ) (step : Step) : Type 0 where
  pub next : decided bytes step ≡ next_of bytes
  pub stands : Stands bytes step
