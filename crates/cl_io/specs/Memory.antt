-- What stands behind a source and a sink in memory, and what a call makes of it.
use Rattle.std.specs.Prelude.{ℕ, ◌+◌, ◌-◌, ◌^◌, ◌==◌, ◌&&◌, nat_lt, Bool, if◌then◌else◌, List, ◌++◌, length, take, drop, min}
use Rattle.std.specs.List.{list_any}

pub record SourceState : Type 0 where
  pub left : List ℕ  -- the bytes that are left
  pub calls : ℕ  -- how many calls were made
  pub fails : List ℕ  -- the numbers, from 0, of the calls that fail
  pub faults : ℕ  -- how many failed

pub record SinkState : Type 0 where
  pub held : List ℕ  -- the bytes that it holds
  pub room : ℕ  -- how many it can hold
  pub calls : ℕ  -- how many calls were made
  pub fails : List ℕ  -- the numbers, from 0, of the calls that fail
  pub faults : ℕ  -- how many failed, or took nothing of a piece that is not empty

-- the call with this number is one of those that fail
abbrev pub is_to_fail : List ℕ → ℕ → Bool
is_to_fail fails call = list_any (λ k. k == call) fails

-- one more; a count stays at the end of its type
abbrev pub one_more : ℕ → ℕ
one_more count = min (count + 1) (2 ^ 64 - 1)

-- after a read into a buffer with room for so many bytes
abbrev pub after_read : SourceState → ℕ → SourceState
after_read s most =
    if is_to_fail s.fails s.calls then record s { calls = one_more s.calls; faults = one_more s.faults }
    else record s { left = drop most s.left; calls = one_more s.calls }

-- how many bytes of a piece still fit
abbrev pub fitting : SinkState → List ℕ → ℕ
fitting s piece = min (length piece) (s.room - length s.held)

-- after a write of this piece
abbrev pub after_write : SinkState → List ℕ → SinkState
after_write s piece =
    if is_to_fail s.fails s.calls then record s { calls = one_more s.calls; faults = one_more s.faults }
    else if fitting s piece == 0 && nat_lt 0 (length piece) then record s { calls = one_more s.calls; faults = one_more s.faults }
    else record s { held = s.held ++ take (fitting s piece) piece; calls = one_more s.calls }
