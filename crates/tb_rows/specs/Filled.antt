-- What fills a cell, and its limits.
use Rattle.std.specs.Prelude.{ℕ, ◌≡◌, Option, Some}
use Rattle.tb_geometry.specs.declared.occupant.Occupant.{Occupant}
use Rattle.tb_geometry.specs.declared.occupant.Occupant.TheVariants.{Solid, Air}
use Rattle.tb_terms.specs.Limits.{IsConductivity, IsResistance}

pub record IsFilled (o : Occupant) : Type 0 where
  pub conducts : (lambda : ℕ) → o ≡ Solid lambda → IsConductivity lambda
  pub resists : (environment rs : ℕ) → o ≡ Air environment rs → IsResistance rs

-- air lies there
abbrev pub IsAir : Option Occupant → Type 0
IsAir beside = (environment : ℕ) × (rs : ℕ) × (beside ≡ Some (Air environment rs))
