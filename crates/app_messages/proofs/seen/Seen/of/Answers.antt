-- The first 36 of 36 bytes are all of them.
use Rattle.std.proofs.Common.{◌≡◌, ◌∙◌, List, ℕ, Some, ap, arith, length, take_all}
use Rattle.std.proofs.lemmas.Bool.{eq-eqb}
use Rattle.app_messages.specs.Sent.{Sighting}
use Rattle.app_messages.proofs.seen.Seen.of.Goals as goal

abbrev sighting : ℕ → List ℕ → Sighting
sighting in_port content = record { in_port = in_port; content = content }

pub returns : goal.returns
returns c =
    let content = c.in-PacketIn.content in
    let bytes = c.as_slice.result.now in
    let long : length content ≡ 36 = omega arith in
    let slice : bytes ≡ content = c.as_slice.ensures in
    let same_length : length bytes ≡ length content = ap length slice in
    let whole : c.in_ok-content.content.now ≡ content = c.in_ok-content.ensures.cases.same ∙ take_all 36 bytes (omega arith) ∙ slice in
    rw c.in-PacketIn.is (rw (eq-eqb (length content) 36 long) (ap (λ (all : List ℕ). Some (sighting c.in-PacketIn.in_port all)) whole))
