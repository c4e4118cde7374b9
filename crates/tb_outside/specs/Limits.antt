-- How much is read.
use Rattle.std.specs.Prelude.{ℕ}

-- the most bytes that an input may have: 256 MiB
abbrev pub most_input_bytes : ℕ
most_input_bytes = 268435456
