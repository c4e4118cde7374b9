-- The whole numbers that are printed for a planar part: resistances in 10⁻¹⁶ m²K/W, transmittances in fW/(m²·K), each rounded outwards.
use Rattle.std.specs.Prelude.{◌==◌, ◌≢◌, ℕ, ◌+◌, ◌*◌, ◌^◌, Bool, ◌&&◌, not, Result, Ok, Err, if◌then◌else◌, ℤ, pos, ◌-ℤ◌, ◌*ℤ◌, ◌+ℤ◌, ◌<ℤ◌, int_lt}
use Rattle.tb_detail.specs.declared.Detail.{Detail}
use Rattle.tb_detail.specs.declared.Layer.{Layer}
use Rattle.tb_detail.specs.declared.Part.{Part}
use Rattle.tb_math.specs.Rational.{ℚ, int, ◌*ℚ◌, ◌≤ℚ◌}
use Rattle.tb_numbers.specs.Quotients.{ceiling}
use Rattle.tb_planar.specs.declared.PlanarU.{PlanarU}
use Rattle.tb_planar.specs.declared.URange.{URange}
use Rattle.tb_planar.specs.declared.RatioAbove.{RatioAbove}
use Rattle.tb_planar.specs.declared.bounds.Bounds.{Bounds}
use Rattle.tb_planar.specs.Bounds.{Encloses, IsTransmittance, divided, exactly, over, plus, quotient, times, total}
use Rattle.tb_planar.specs.Sections.{area, conductivity, layer, layers, sections, total_area, weighted_conductivity}

-- Rsi + Rse
abbrev pub surfaces : Part → Bounds
surfaces p = exactly (pos ((p.rsi + p.rse) * 10 ^ 12))

-- the resistance of a layer within a section
abbrev pub layer_in_section : Detail → Layer → ℕ → Bounds
layer_in_section d l s = quotient (pos (l.thickness * 10 ^ 16)) (pos (conductivity d l s))

unfoldable pub section_resistance : Detail → Part → ℕ → Bounds
section_resistance d p s = plus (surfaces p) (total (layers p) (λ j. layer_in_section d (layer p j) s))

-- U of a section
unfoldable pub section_transmittance : Detail → Part → ℕ → Bounds
section_transmittance d p s = over (pos (10 ^ 31)) (section_resistance d p s)

-- the mean of the sections' U, by area
unfoldable pub mean_transmittance : Detail → Part → Bounds
mean_transmittance d p = divided (total (sections p) (λ s. times (area p s) (section_transmittance d p s))) (total_area p)

unfoldable pub upper_limit : Detail → Part → Bounds
upper_limit d p = over (pos (10 ^ 31)) (mean_transmittance d p)

-- the resistance of a layer whose sections lie side by side
abbrev pub layer_across : Detail → Part → Layer → Bounds
layer_across d p l = quotient (pos (l.thickness * total_area p * 10 ^ 16)) (pos (weighted_conductivity d p l))

unfoldable pub lower_limit : Detail → Part → Bounds
lower_limit d p = plus (surfaces p) (total (layers p) (λ j. layer_across d p (layer p j)))

-- the ratio of the limits of a part of several sections is certainly above 1.5
unfoldable pub is_ratio_above : Detail → Part → Bool
is_ratio_above d p = not (sections p == 1) && int_lt (pos 3 *ℤ (lower_limit d p).high) (pos 2 *ℤ (upper_limit d p).low)

-- U of one section, and U by the mean of both limits
unfoldable pub transmittance : Detail → Part → Bounds
transmittance d p =
    if sections p == 1 then section_transmittance d p 0
    else over (pos (2 * 10 ^ 31)) (plus (upper_limit d p) (lower_limit d p))

-- half the difference of the limits over their mean, in 10⁻⁴, rounded up: the greatest relative error of the method
unfoldable pub relative_error : Bounds → Bounds → ℤ
relative_error upper lower = ceiling (pos (10 ^ 4) *ℤ (upper.high -ℤ lower.low)) (upper.low +ℤ lower.low)

unfoldable pub error : Detail → Part → ℤ
error d p = if sections p == 1 then pos 0 else relative_error (upper_limit d p) (lower_limit d p)

-- what is printed of a part
unfoldable pub answer : Detail → Part → Result PlanarU RatioAbove
answer d p =
    if is_ratio_above d p then Err (record {})
    else Ok (record {
      u = record { lo = (transmittance d p).low; hi = (transmittance d p).high };
      error = error d p;
    })

-- ---- what is promised of the answer

-- a transmittance in W/(m²·K) lies between two whole numbers of fW/(m²·K)
abbrev pub HoldsTransmittance : URange → ℚ → Type 0
HoldsTransmittance u q = Encloses (record { low = u.lo; high = u.hi }) (int (pos (10 ^ 15)) *ℚ q)

-- a resistance in m²K/W lies between two whole numbers of 10⁻¹⁶ m²K/W
abbrev pub HoldsResistance : Bounds → ℚ → Type 0
HoldsResistance b q = Encloses b (int (pos (10 ^ 16)) *ℚ q)

-- a relative error isn't above a whole number of 10⁻⁴
abbrev pub HoldsError : ℤ → ℚ → Type 0
HoldsError e q = int (pos (10 ^ 4)) *ℚ q ≤ℚ int e

abbrev pub IsRange : URange → Type 0
IsRange u = IsTransmittance (record { low = u.lo; high = u.hi })

-- a part of several sections is refused where twice the least upper limit is above three times the greatest lower limit
pub record IsRatioAbove (d : Detail) (p : Part) : Type 0 where
  pub several : sections p ≢ 1
  pub above : (pos 3 *ℤ (lower_limit d p).high) <ℤ (pos 2 *ℤ (upper_limit d p).low)
