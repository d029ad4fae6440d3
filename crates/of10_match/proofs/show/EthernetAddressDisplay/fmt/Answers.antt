-- Each byte is two hex digits.
use Rattle.std.proofs.Common.{false, rules}
use Rattle.std.proofs.lemmas.Fmt.{hex_byte}
use Rattle.of10_match.proofs.show.EthernetAddressDisplay.fmt.Goals as goal

pub returns-clause-writes : goal.returns-clause-writes
returns-clause-writes g c = search (rules, hex_byte false)
