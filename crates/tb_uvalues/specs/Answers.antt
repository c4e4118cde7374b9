-- Which details have U-values, and which part is refused.
use Rattle.std.specs.Prelude.{◌≡◌, ℕ, ◌^◌, ◌<◌, Result, Ok, Err, Some, pos, slice_get}
use Rattle.tb_detail.specs.declared.Detail.{Detail}
use Rattle.tb_detail.specs.declared.Part.{Part}
use Rattle.tb_math.specs.Rational.{ℚ, int, ◌*ℚ◌}
use Rattle.tb_planar.specs.declared.PlanarU.{PlanarU}
use Rattle.tb_planar.specs.declared.URange.{URange}
use Rattle.tb_planar.specs.Bounds.{Encloses}
use Rattle.tb_planar.specs.Printed.{HoldsError, IsRatioAbove, answer}
use Rattle.tb_planar.specs.Transmittance.{relative_error, transmittance}
use Rattle.tb_uvalues.specs.declared.fault.UValueFault.{UValueFault}
use Rattle.tb_uvalues.specs.declared.fault.UValueRefusal.{UValueRefusal}
use Rattle.tb_uvalues.specs.declared.fault.UValueRefusal.TheVariants.{Fault, NoMemory}
use Rattle.tb_uvalues.specs.Texts.{printed_range}

-- the part in a place
abbrev pub IsPartAt : Detail → ℕ → Part → Type 0
IsPartAt d n p = slice_get d.parts n ≡ Some p

-- a transmittance in W/(m²·K) lies between two whole numbers of 10⁻⁶ W/(m²·K)
abbrev pub HoldsPrinted : URange → ℚ → Type 0
HoldsPrinted u q = Encloses (record { low = u.lo; high = u.hi }) (int (pos (10 ^ 6)) *ℚ q)

-- a part isn't refused, its transmittance lies between the ends that are printed, and the greatest relative error of the method
-- isn't above the printed one
pub record HasUValue (d : Detail) (p : Part) : Type 0 where
  pub value : PlanarU
  pub is : answer d p ≡ Ok value
  pub encloses : HoldsPrinted (printed_range value.u) (transmittance d p)
  pub error : HoldsError value.error (relative_error d p)

abbrev pub HaveUValues : Detail → Type 0
HaveUValues d = (n : ℕ) (p : Part) → IsPartAt d n p → HasUValue d p

-- the first part that is refused has this place
pub record IsFirstRefused (d : Detail) (place : ℕ) : Type 0 where
  pub part : Part
  pub there : IsPartAt d place part
  pub above : IsRatioAbove d part
  pub before : (n : ℕ) (p : Part) → n < place → IsPartAt d n p → HasUValue d p

-- and this name
pub record HasFault (d : Detail) (f : UValueFault) : Type 0 where
  pub place : ℕ
  pub first : IsFirstRefused d place
  pub named : f.part ≡ first.part.name

-- what is answered to a detail: the U-values of its parts, which contracts see as the detail, or the first part that is
-- refused. Want of memory is free
abbrev pub Answers : Detail → Result Detail UValueRefusal → Type 0
Answers d (Ok values) = (values ≡ d) × HaveUValues d
Answers d (Err (Fault f)) = HasFault d f
Answers d (Err NoMemory) = Unit {0}
