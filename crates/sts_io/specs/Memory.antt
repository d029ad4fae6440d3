-- A source and a sink in memory: the whole state of each, and what one call makes of it.
use Rattle.std.specs.Prelude.{ℕ, ◌-◌, ◌==◌, ◌&&◌, ◌||◌, nat_lt, Bool, min, List, ◌++◌, length, take, drop, if◌then◌else◌}
use Rattle.std.specs.List.{list_any}
use Rattle.sts_io.specs.Causes.{counted}

-- bytes that are handed out in order, at most `most` at a time
pub record Supplied : Type 0 where
  pub left : List ℕ
  pub most : ℕ

-- a source: the bytes not yet read, the most that one call gives, the numbers of the calls that fail, how many calls there were, and how many of them failed
pub record SourceState : Type 0 where
  pub left : List ℕ
  pub most : ℕ
  pub fails : List ℕ
  pub calls : ℕ
  pub faults : ℕ

-- a sink: the bytes taken so far, how many more there is room for, and the rest as for a source
pub record SinkState : Type 0 where
  pub taken : List ℕ
  pub room : ℕ
  pub most : ℕ
  pub fails : List ℕ
  pub calls : ℕ
  pub faults : ℕ

-- the number stands in the list
abbrev pub is_listed : List ℕ → ℕ → Bool
is_listed numbers number = list_any (λ n. n == number) numbers

-- what is given at once: as many bytes as there are places, as may be given at once, and as are left
abbrev pub count_given : ℕ → ℕ → List ℕ → ℕ
count_given places most left = min places (min most (length left))

-- what is left after the bytes were given that a buffer of `places` places takes
abbrev pub after_given : Supplied → ℕ → Supplied
after_given s places = record s { left = drop (count_given places s.most s.left) s.left }

-- a read fails exactly where its call's number, counted from 0, is listed
abbrev pub read_fails : SourceState → Bool
read_fails s = is_listed s.fails s.calls

-- the source after a read into a buffer of `places` places
abbrev pub after_read : SourceState → ℕ → SourceState
after_read s places =
    if read_fails s then record s { calls = counted s.calls; faults = counted s.faults }
    else record s { calls = counted s.calls; left = drop (count_given places s.most s.left) s.left }

-- a write fails exactly where its call's number, counted from 0, is listed, or its piece is not empty and no room is left
abbrev pub write_fails : SinkState → List ℕ → Bool
write_fails s piece = is_listed s.fails s.calls || (nat_lt 0 (length piece) && (s.room == 0))

-- a write takes as many bytes as its piece, the most in one call and the room allow
abbrev pub write_count : SinkState → List ℕ → ℕ
write_count s piece = min (length piece) (min s.most s.room)

-- the sink after a write of the piece
abbrev pub after_write : SinkState → List ℕ → SinkState
after_write s piece =
    if write_fails s piece then record s { calls = counted s.calls; faults = counted s.faults }
    else record s { calls = counted s.calls; taken = s.taken ++ take (write_count s piece) piece; room = s.room - write_count s piece }
