-- A reader or a writer of std whose errors are counted.
use Rattle.std.specs.Prelude.{ℕ}

-- the reader or writer itself, and how often it failed
pub record Counted (T : Type 0) : Type 0 where
  pub inner : T
  pub faults : ℕ
