-- A source and a sink in memory as contracts see them.
use Rattle.std.specs.Prelude.{◌⊎◌, ◌<◌, ◌≤◌, ℕ, List, length, Contains}
use Rattle.tb_outside.specs.Faults.{counted_up}

-- the bytes that are left; the numbers of the calls that fail, from 1, and how many calls there were; how many failed
pub record MemoryBytes : Type 0 where
  pub left : List ℕ
  pub fails : List ℕ
  pub calls : ℕ
  pub faults : ℕ

-- the bytes written so far and how many there is room for in all; the numbers of the calls that fail, from 1, and how many calls there were; how many failed
pub record MemoryState : Type 0 where
  pub written : List ℕ
  pub room : ℕ
  pub fails : List ℕ
  pub calls : ℕ
  pub faults : ℕ

-- a put of this piece has to fail: the number of its call is one of those that fail, or the piece isn't empty and no room is left
abbrev pub MustFail : MemoryState → List ℕ → Type 0
MustFail sink piece = Contains sink.fails (counted_up sink.calls) ⊎ ((0 < length piece) × (sink.room ≤ length sink.written))
