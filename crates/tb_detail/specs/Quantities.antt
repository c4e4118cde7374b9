-- The least and the greatest number of each quantity, in its unit.
use Rattle.std.specs.Prelude.{ℕ, ◌≤◌}
use Rattle.tb_detail.specs.declared.limits.TheConstants.{MOST_AREA, MOST_CONDUCTIVITY, MOST_LENGTH, MOST_RESISTANCE, MOST_SECTION}
use Rattle.tb_detail.specs.declared.quantity.Quantity.{Quantity}
use Rattle.tb_detail.specs.declared.quantity.Quantity.TheVariants.{Length, Thickness, Conductivity, Resistance, Section, Area}

abbrev pub least : Quantity → ℕ
least Length = 0
least Thickness = 1
least Conductivity = 1
least Resistance = 1
least Section = 1
least Area = 0

abbrev pub most : Quantity → ℕ
most Length = MOST_LENGTH
most Thickness = MOST_LENGTH
most Conductivity = MOST_CONDUCTIVITY
most Resistance = MOST_RESISTANCE
most Section = MOST_SECTION
most Area = MOST_AREA

-- a number is in the range of its quantity
pub record IsInRange (q : Quantity) (n : ℕ) : Type 0 where
  pub low : least q ≤ n
  pub high : n ≤ most q
