-- What is written of ports is read back.
use Rattle.std.proofs.Common.{◌≡◌, ◌+◌, ◌∙◌, ℕ, zero, suc, List, [], ◌∷◌, ◌++◌, length, take, drop, slice_index, refl, sym, ap, arith, append_assoc}
use Rattle.std.specs.Prelude.{All}
use Rattle.std.specs.List.{flat_map}
use Rattle.std.proofs.lemmas.List.{get_or-append-add}
use Rattle.std.proofs.lemmas.List.Elements.{All-head, All-tail}
use Rattle.std.proofs.Math.Seq.{drop-append_seam, take-append_seam}
use Rattle.byteorder.specs.Endian.{big_from}
use Rattle.byteorder.specs.Numbers.{big_number-reads_back}
use Rattle.of10_messages.proofs.Sizes.{length_port}
use Rattle.of10_messages.specs.Reading.{port_of, ports_of}
use Rattle.of10_messages.specs.Valid.{IsValidPort}
use Rattle.of10_messages.specs.Wire.{port_bytes, port_head, port_tail}
use Rattle.of10_messages.specs.declared.port.PortDesc.{PortDesc}

-- bytes in front move the places of bytes on
pub byte_past : (i at : ℕ) (front bytes : List ℕ) → at ≡ length front + i → slice_index (front ++ bytes) at ≡ slice_index bytes i
byte_past i at front bytes place = ap (λ (k : ℕ). slice_index (front ++ bytes) k) place ∙ get_or-append-add front bytes i 0

-- and those of numbers
pub big_from_past : (n i at : ℕ) (front bytes : List ℕ) → at ≡ length front + i → big_from at n (front ++ bytes) ≡ big_from i n bytes
big_from_past zero i at front bytes place = refl
big_from_past (suc n) i at front bytes place =
    let byte = byte_past i at front bytes place in
    let rest = big_from_past n (suc i) (suc at) front bytes (omega (arith, place)) in
    rw (byte, rest) refl

-- the first bytes are those in front
pub take_front : (n : ℕ) (front bytes : List ℕ) → length front ≡ n → take n (front ++ bytes) ≡ front
take_front n front bytes size = ap (λ (k : ℕ). take k (front ++ bytes)) (sym size) ∙ take-append_seam front bytes

-- what follows them
pub drop_front : (n : ℕ) (front bytes : List ℕ) → length front ≡ n → drop n (front ++ bytes) ≡ bytes
drop_front n front bytes size = ap (λ (k : ℕ). drop k (front ++ bytes)) (sym size) ∙ drop-append_seam front bytes

-- two ports with the same fields are one
same_port : (p q : PortDesc) → p.port_no ≡ q.port_no → p.hw_addr ≡ q.hw_addr → p.name ≡ q.name → p.config ≡ q.config → p.state ≡ q.state
    → p.curr ≡ q.curr → p.advertised ≡ q.advertised → p.supported ≡ q.supported → p.peer ≡ q.peer → p ≡ q
same_port p q port_no hw_addr name config state curr advertised supported peer =
    let e : record { port_no = p.port_no; hw_addr = p.hw_addr; name = p.name; config = p.config; state = p.state; curr = p.curr; advertised = p.advertised; supported = p.supported; peer = p.peer }
    ≡ record { port_no = q.port_no; hw_addr = q.hw_addr; name = q.name; config = q.config; state = q.state; curr = q.curr; advertised = q.advertised; supported = q.supported; peer = q.peer }
    = rw (port_no, hw_addr, name, config, state, curr, advertised, supported, peer) refl in e

-- a port is read back before any other bytes
pub port_reads : (p : PortDesc) (rest : List ℕ) → IsValidPort p → port_of (port_bytes p ++ rest) ≡ p
unfolding port_of port_bytes port_head port_tail
port_reads p rest v =
    let bytes = port_bytes p ++ rest in
    let head = port_head p in
    let tail = port_tail p ++ rest in
    let split : bytes ≡ (head ++ p.name) ++ tail = ap (λ (xs : List ℕ). head ++ xs) (append_assoc p.name (port_tail p) rest) in
    let at = λ (n i : ℕ). ap (big_from (24 + i) n) split ∙ big_from_past n i (24 + i) (head ++ p.name) tail (omega (arith, v.name_length)) in
    let named : take 16 (drop 8 bytes) ≡ p.name = ap (λ (xs : List ℕ). take 16 (drop 8 xs)) split ∙ take_front 16 p.name tail v.name_length in
    same_port (port_of bytes) p
    (big_number-reads_back 2 p.port_no [] v.port_no)
    (big_number-reads_back 6 p.hw_addr [] v.hw_addr)
    named
    (at 4 0 ∙ big_number-reads_back 4 p.config [] v.config)
    (at 4 4 ∙ big_number-reads_back 4 p.state [] v.state)
    (at 4 8 ∙ big_number-reads_back 4 p.curr [] v.curr)
    (at 4 12 ∙ big_number-reads_back 4 p.advertised [] v.advertised)
    (at 4 16 ∙ big_number-reads_back 4 p.supported [] v.supported)
    (at 4 20 ∙ big_number-reads_back 4 p.peer [] v.peer)

-- ports one after the other are read back
pub ports_read : (ports : List PortDesc) → All IsValidPort ports → ports_of (length ports) (flat_map port_bytes ports) ≡ ports
ports_read [] v = refl
ports_read (p ∷ ports) v =
    let valid = All-head IsValidPort p ports v in
    let one = port_reads p (flat_map port_bytes ports) valid in
    let moved : drop 48 (port_bytes p ++ flat_map port_bytes ports) ≡ flat_map port_bytes ports = drop_front 48 (port_bytes p) (flat_map port_bytes ports) (length_port p valid.name_length) in
    let others = ports_read ports (All-tail IsValidPort p ports v) in
    rw (one, moved, others) refl
