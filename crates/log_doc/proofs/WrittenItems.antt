-- The bytes of items read as those items.
use Rattle.std.proofs.Common.{◌≡◌, ℕ, ◌<◌, ◌==◌, ◌++◌, List, [], ◌∷◌, length, true, false, Option, Some, None, Result, Ok, Err, IfOk, refl, sym, ap, ◌∙◌, arith}
use Rattle.std.proofs.lemmas.Bool.Decides.{nat_tests}
use Rattle.byteorder.specs.Endian.{big_bytes}
use Rattle.byteorder.specs.Numbers.{big_from-cons, big_number-reads_back}
use Rattle.hex.specs.Hex.{IsBytes}
use Rattle.hex.proofs.HexLemmas.{decode_of-encode_lower}
use Rattle.of10_match.specs.Match.{IsValidMatch}
use Rattle.of10_match.specs.Packet.{IsValidPacket, packet_of, record_of}
use Rattle.of10_match.specs.Wire.{match_bytes, match_of}
use Rattle.of10_match.specs.declared.matches.Match.{Match}
use Rattle.of10_match.specs.declared.packet.Packet.{Packet}
use Rattle.of10_messages.specs.Reading.{Reads}
use Rattle.of10_messages.specs.Valid.{IsValidMessage}
use Rattle.of10_messages.specs.Wire.{canon_bytes}
use Rattle.of10_messages.specs.declared.message.Message.{Message}
use Rattle.of10_messages.specs.declared.notice.Notice.{Notice}
use Rattle.of10_messages.specs.declared.notice.Notice.TheVariants as notice
use Rattle.message_pools.specs.Item.{IsValidItem}
use Rattle.message_pools.specs.declared.item.Item.{Item}
use Rattle.message_pools.specs.declared.item.Item.TheVariants as item
use Rattle.doc_forms.specs.Reading.{◌>>=◌}
use Rattle.log_doc.specs.Entries.{hex_of, item_of, spelled}
use Rattle.log_doc.specs.Items.{item_in, message_in, news_in, notice_in, packet_in, policy_in}
use Rattle.log_doc.specs.Written.{IsItemOf, IsNarrowItem, IsNarrowNotice, IsTaken, hex_data, item_bytes, notice_bytes, taken_bytes}
use Rattle.log_doc.specs.declared.items.ItemKind.{ItemKind}
use Rattle.log_doc.specs.declared.items.ItemKind.TheVariants as kind

-- what holds of itself holds where a call gives something
pub always : {A E : Type 0} (r : Result A E) (P : Type 0) → P → IfOk r (λ x. P)
always (Ok x) P h = h
always (Err e) P h = tt

-- ---- the laws of the layers below

abbrev pub MessagesRead : Type 0
MessagesRead = (m : Message) → IsValidMessage m → Reads (canon_bytes m) m

abbrev pub RecordsLength : Type 0
RecordsLength = (p : Packet) → length (record_of p) ≡ 36

abbrev pub RecordsRead : Type 0
RecordsRead = (p : Packet) → IsValidPacket p → packet_of (record_of p) ≡ p

abbrev pub MatchesLength : Type 0
MatchesLength = (m : Match) → length (match_bytes m) ≡ 40

abbrev pub MatchesRead : Type 0
MatchesRead = (m : Match) → IsValidMatch m → match_of (match_bytes m) ≡ m

-- ---- each kind of item

message_reads : (bytes : List ℕ) (m : Message) → Reads bytes m → message_in bytes ≡ Some (item.Message m)
message_reads bytes m reads = rw reads.accepted (ap (λ x. Some (item.Message x)) (sym reads.fields))

not_none : (n : ℕ) → 0 < n → (n == 0) ≡ false
not_none n h = grind (arith, nat_tests)

some_bytes : (m : Message) → (length (canon_bytes m) == 0) ≡ false
unfolding canon_bytes
some_bytes m = not_none (length (canon_bytes m)) (omega arith)

news_reads : (bytes : List ℕ) (m : Message) → (length bytes == 0) ≡ false → Reads bytes m → news_in bytes ≡ Some (item.Message m)
news_reads bytes m some reads = rw some (message_reads bytes m reads)

packet_reads : (bytes : List ℕ) (p : Packet) → length bytes ≡ 36 → packet_of bytes ≡ p → packet_in bytes ≡ Some (item.Packet p)
packet_reads bytes p len reads = rw len (ap (λ x. Some (item.Packet x)) reads)

policy_reads : (bytes : List ℕ) (m : Match) → length bytes ≡ 40 → match_of bytes ≡ m → policy_in bytes ≡ Some (item.Policy m)
policy_reads bytes m len reads = rw len (ap (λ x. Some (item.Policy x)) reads)

notice_reads : (one : Notice) → IsNarrowNotice one → notice_in (notice_bytes one) ≡ Some (item.Notice one)
notice_reads (notice.Tick seconds) h =
    ap (λ n. Some (item.Notice (notice.Tick n))) (big_from-cons 0 4 0 (big_bytes 4 seconds) ∙ big_number-reads_back 4 seconds [] h)
notice_reads (notice.Port port true) h =
    ap (λ n. Some (item.Notice (notice.Port n true))) (big_from-cons 0 2 1 (big_bytes 2 port ++ 1 ∷ []) ∙ big_number-reads_back 2 port (1 ∷ []) h)
notice_reads (notice.Port port false) h =
    ap (λ n. Some (item.Notice (notice.Port n false))) (big_from-cons 0 2 1 (big_bytes 2 port ++ 0 ∷ []) ∙ big_number-reads_back 2 port (0 ∷ []) h)
notice_reads (notice.Join down) h =
    ap (λ n. Some (item.Notice (notice.Join n))) (big_from-cons 0 8 2 (big_bytes 8 down) ∙ big_number-reads_back 8 down [] h)

-- ---- all of them

pub item_reads : MessagesRead → RecordsLength → RecordsRead → MatchesLength → MatchesRead → (one : Item) → IsValidItem one → IsNarrowItem one
    → (pool : ItemKind) → IsItemOf pool one → item_in pool (item_bytes one) ≡ Some one
item_reads messages long records wide matches (item.Message m) valid narrow kind.Message of = message_reads (canon_bytes m) m (messages m valid)
item_reads messages long records wide matches (item.Message m) valid narrow kind.News of =
    news_reads (canon_bytes m) m (some_bytes m) (messages m valid)
item_reads messages long records wide matches (item.Message m) valid narrow kind.Packet of = absurd of
item_reads messages long records wide matches (item.Message m) valid narrow kind.Notice of = absurd of
item_reads messages long records wide matches (item.Message m) valid narrow kind.Policy of = absurd of
item_reads messages long records wide matches item.Gone valid narrow kind.News of = refl
item_reads messages long records wide matches item.Gone valid narrow kind.Message of = absurd of
item_reads messages long records wide matches item.Gone valid narrow kind.Packet of = absurd of
item_reads messages long records wide matches item.Gone valid narrow kind.Notice of = absurd of
item_reads messages long records wide matches item.Gone valid narrow kind.Policy of = absurd of
item_reads messages long records wide matches (item.Packet p) valid narrow kind.Packet of = packet_reads (record_of p) p (long p) (records p valid)
item_reads messages long records wide matches (item.Packet p) valid narrow kind.Message of = absurd of
item_reads messages long records wide matches (item.Packet p) valid narrow kind.Notice of = absurd of
item_reads messages long records wide matches (item.Packet p) valid narrow kind.News of = absurd of
item_reads messages long records wide matches (item.Packet p) valid narrow kind.Policy of = absurd of
item_reads messages long records wide matches (item.Notice one) valid narrow kind.Notice of = notice_reads one narrow
item_reads messages long records wide matches (item.Notice one) valid narrow kind.Message of = absurd of
item_reads messages long records wide matches (item.Notice one) valid narrow kind.Packet of = absurd of
item_reads messages long records wide matches (item.Notice one) valid narrow kind.News of = absurd of
item_reads messages long records wide matches (item.Notice one) valid narrow kind.Policy of = absurd of
item_reads messages long records wide matches (item.Policy m) valid narrow kind.Policy of = policy_reads (match_bytes m) m (wide m) (matches m valid)
item_reads messages long records wide matches (item.Policy m) valid narrow kind.Message of = absurd of
item_reads messages long records wide matches (item.Policy m) valid narrow kind.Packet of = absurd of
item_reads messages long records wide matches (item.Policy m) valid narrow kind.Notice of = absurd of
item_reads messages long records wide matches (item.Policy m) valid narrow kind.News of = absurd of

-- ---- in hexadecimal digits

pub hex_reads : (bytes : List ℕ) → IsBytes bytes → hex_of (hex_data bytes) ≡ Ok bytes
hex_reads bytes h = ap spelled (decode_of-encode_lower bytes h)

-- the item that bytes in hexadecimal digits are
item_of_hex : (pool : ItemKind) (bytes : List ℕ) (one : Item) → hex_of (hex_data bytes) ≡ Ok bytes → item_in pool bytes ≡ Some one
    → item_of pool (hex_data bytes) ≡ Ok (Some one)
item_of_hex pool bytes one spelling reads = ap (λ found. found >>= (λ b. Ok (item_in pool b))) spelling ∙ ap Ok reads

pub item_spelled : {A E : Type 0} (r : Result A E) (bytes : List ℕ) (one : Item) → bytes ≡ item_bytes one
    → IfOk r (λ x. hex_of (hex_data bytes) ≡ Ok bytes) → ((pool : ItemKind) → IsItemOf pool one → item_in pool (item_bytes one) ≡ Some one)
    → IfOk r (λ x. (pool : ItemKind) → IsItemOf pool one → item_of pool (hex_data (item_bytes one)) ≡ Ok (Some one))
item_spelled (Ok x) bytes one is spelling reads = λ pool of. item_of_hex pool (item_bytes one) one (rw is at spelling) (reads pool of)
item_spelled (Err e) bytes one is spelling reads = tt

-- what an event took, where it took something
pub taken_spelled : {A E : Type 0} (r : Result A E) (taken : Option Item) (one : Item) → taken ≡ Some one
    → IfOk r (λ x. (pool : ItemKind) → IsItemOf pool one → item_of pool (hex_data (item_bytes one)) ≡ Ok (Some one))
    → IfOk r (λ x. (pool : ItemKind) → IsTaken pool taken → item_of pool (hex_data (taken_bytes taken)) ≡ Ok taken)
taken_spelled (Ok x) None one is reads = absurd (cc)
taken_spelled (Ok x) (Some other) one is reads = λ pool of. taken_is pool other one is reads of where
  taken_is : (pool : ItemKind) (other one : Item) → Some other ≡ Some one
      → ((pool : ItemKind) → IsItemOf pool one → item_of pool (hex_data (item_bytes one)) ≡ Ok (Some one))
      → IsTaken pool (Some other) → item_of pool (hex_data (item_bytes other)) ≡ Ok (Some other)
  taken_is pool other one is reads of = let same : other ≡ one = cc in rw same (reads pool (rw same at of.0))
taken_spelled (Err e) taken one is reads = tt
