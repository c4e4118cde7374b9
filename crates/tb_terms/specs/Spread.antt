-- The spread of values in the order in which a term has them.
use Rattle.std.specs.Prelude.{ℕ, List, slice_index_or, ℤ, pos}
use Rattle.tb_math.specs.Rational.{ℚ, int}
use Rattle.tb_model.specs.Energy.{spread}

-- the value at a corner
abbrev pub corner : List ℤ → ℕ → ℚ
corner d k = int (slice_index_or d k (pos 0))

-- the spread of the values at the corners (0,0), (1,0), (0,1) and (1,1)
abbrev pub corner_spread : List ℤ → ℚ
corner_spread d = spread (corner d 0) (corner d 1) (corner d 2) (corner d 3)
