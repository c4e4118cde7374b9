-- Fluxes of whole numbers, as a program has them.
use Rattle.std.specs.Prelude.{◌≡◌, ℕ, ℤ}
use Rattle.tb_math.specs.Rational.{int}
use Rattle.tb_places.specs.declared.AxisName.{AxisName}
use Rattle.tb_model.specs.Energy.{Flux}

-- each flow is a whole number of nW per unit difference
abbrev pub IsWhole : Flux → Type 0
IsWhole q = (a : AxisName) (i j k : ℕ) → (z : ℤ) × (q a i j k ≡ int z)
