-- Ports and addresses as text.
use Rattle.std.specs.Prelude.{ℕ, ◌*◌, ◌/◌, ◌%◌, ◌^◌, ◌==◌, false, List, [], ◌∷◌, ◌++◌, codes, decimal, if◌then◌else◌}
use Rattle.std.specs.Fmt.{digit_glyph}

-- a port by its name in ofp_port (OpenFlow 1.0.0 section 5.2.1), any other by its number
abbrev pub port_text : ℕ → List ℕ
port_text number =
    if number == 0xfff8 then codes "IN_PORT"
    else if number == 0xfff9 then codes "TABLE"
    else if number == 0xfffa then codes "NORMAL"
    else if number == 0xfffb then codes "FLOOD"
    else if number == 0xfffc then codes "ALL"
    else if number == 0xfffd then codes "CONTROLLER"
    else if number == 0xfffe then codes "LOCAL"
    else if number == 0xffff then codes "NONE"
    else decimal number

-- the two hex digits of a byte of a number, counted from the lowest
abbrev pub byte_text : ℕ → ℕ → List ℕ
byte_text number place = digit_glyph false (number / 2 ^ (8 * place) % 256 / 16) ∷ digit_glyph false (number / 2 ^ (8 * place) % 256 % 16) ∷ []

-- the six bytes of an Ethernet address, the highest first
abbrev pub ethernet_text : ℕ → List ℕ
ethernet_text address =
    byte_text address 5 ++ (codes ":" ++ (byte_text address 4 ++ (codes ":" ++ (byte_text address 3 ++ (codes ":"
    ++ (byte_text address 2 ++ (codes ":" ++ (byte_text address 1 ++ (codes ":" ++ byte_text address 0)))))))))
