-- Bytes that are moved piece by piece: what was taken in all, and the front that has gone.
use Rattle.std.proofs.Common.{◌≡◌, ℕ, ◌+◌, ◌-◌, ◌≤◌, List, ◌++◌, length, take, drop, arith, ap, sym, ◌∙◌, length-append, length-drop}
use Rattle.std.proofs.KnownBytes.{Consumes-trans}
use Rattle.std.proofs.Math.Seq.{take-add}
use Rattle.std.proofs.lemmas.Slice.{between_to_end}
use Rattle.std.specs.Io.KnownBytes.{Consumes}
use Rattle.std.specs.declared.option.Option.{Option}
use Rattle.sts_io.specs.Taken.{TakesAtMost, TakesCount}

-- some bytes, and then those by which the list grew
pub Consumes-grown : (a b c : Option (List ℕ)) (bytes more all : List ℕ) → Consumes a b bytes → Consumes b c more → all ≡ bytes ++ more → Consumes a c all
Consumes-grown a b c bytes more all first second grown = rw grown (Consumes-trans a b c bytes more first second)

-- some bytes, and then at most `room` more
pub TakesAtMost-after : (a b c : Option (List ℕ)) (bytes : List ℕ) (room limit : ℕ) → Consumes a b bytes → TakesAtMost room b c → length bytes + room ≤ limit → TakesAtMost limit a c
TakesAtMost-after a b c bytes room limit first more fits =
    record {
      bytes = bytes ++ more.bytes;
      prefix = Consumes-trans a b c bytes more.bytes first more.prefix;
      within = let h = more.within in omega (arith, length-append bytes more.bytes);
    }

-- some bytes, and then `room` more
pub TakesCount-after : (a b c : Option (List ℕ)) (bytes : List ℕ) (room count : ℕ) → Consumes a b bytes → TakesCount room b c → length bytes + room ≡ count → TakesCount count a c
TakesCount-after a b c bytes room count first more exact =
    record {
      bytes = bytes ++ more.bytes;
      prefix = Consumes-trans a b c bytes more.bytes first more.prefix;
      counted = let h = more.counted in omega (arith, length-append bytes more.bytes);
    }

-- the front that has gone, and then the first `count` bytes of the rest
pub take-rest : (gone count : ℕ) (bytes : List ℕ) → take (gone + count) bytes ≡ take gone bytes ++ take count (take (length bytes - gone) (drop gone bytes))
take-rest gone count bytes =
    take-add gone count bytes ∙ ap (λ rest. take gone bytes ++ take count rest) (sym (between_to_end bytes gone (length bytes) (omega arith)))

-- the rest is as long as what the front leaves
pub length-rest : (gone : ℕ) (bytes : List ℕ) → length (take (length bytes - gone) (drop gone bytes)) ≡ length bytes - gone
length-rest gone bytes = ap length (between_to_end bytes gone (length bytes) (omega arith)) ∙ length-drop gone bytes
