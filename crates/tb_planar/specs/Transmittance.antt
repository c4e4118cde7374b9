-- The thermal transmittance of a planar part by ISO 6946:2017, exact: resistances in m²K/W, the transmittance in W/(m²·K).
use Rattle.std.specs.Prelude.{ℕ, ◌+◌, ◌==◌, if◌then◌else◌, pos}
use Rattle.tb_detail.specs.declared.Detail.{Detail}
use Rattle.tb_detail.specs.declared.Layer.{Layer}
use Rattle.tb_detail.specs.declared.Part.{Part}
use Rattle.tb_math.specs.Division.{inverse, ◌/ℚ◌}
use Rattle.tb_math.specs.Rational.{ℚ, int, ratio, one_over, ◌+ℚ◌, ◌-ℚ◌, ◌*ℚ◌}
use Rattle.tb_math.specs.Sums.{total}
use Rattle.tb_planar.specs.Sections.{area, conductivity, layer, layers, sections, total_area}

-- the two surface resistances Rsi + Rse, which are given in 10⁻⁴ m²K/W
abbrev pub surfaces : Part → ℚ
surfaces p = ratio (pos (p.rsi + p.rse)) 10000

-- d/λ, the resistance of a layer within a section: the thickness in 10⁻⁴ m over the conductivity in 10⁻⁴ W/(m·K)
abbrev pub resistance : Detail → Layer → ℕ → ℚ
resistance d l s = ratio (pos l.thickness) (conductivity d l s)

-- the resistance of a section from air to air: Rsi + Σ d/λ + Rse
unfoldable pub section_resistance : Detail → Part → ℕ → ℚ
section_resistance d p s = surfaces p +ℚ total (layers p) (λ j. resistance d (layer p j) s)

-- f, the share of a section in the area
abbrev pub fraction : Part → ℕ → ℚ
fraction p s = ratio (pos (area p s)) (total_area p)

-- resistances that lie side by side, each with its share of the area, taken as one: 1/R = Σ f/R
abbrev pub side_by_side : Part → (ℕ → ℚ) → ℚ
side_by_side p r = inverse (total (sections p) (λ s. fraction p s /ℚ r s))

-- the upper limit of the resistance: each section by itself from air to air, and these side by side
unfoldable pub upper_limit : Detail → Part → ℚ
upper_limit d p = side_by_side p (section_resistance d p)

-- the lower limit: the sections of each layer side by side, and these one after another
unfoldable pub lower_limit : Detail → Part → ℚ
lower_limit d p = surfaces p +ℚ total (layers p) (λ j. side_by_side p (resistance d (layer p j)))

-- the total resistance: that of the only section, or the mean of the two limits
unfoldable pub total_resistance : Detail → Part → ℚ
total_resistance d p =
    if sections p == 1 then section_resistance d p 0 else (upper_limit d p +ℚ lower_limit d p) *ℚ one_over 2

-- U
unfoldable pub transmittance : Detail → Part → ℚ
transmittance d p = inverse (total_resistance d p)

-- the greatest relative error of the method: half the difference of the limits over their mean; none for one section
unfoldable pub relative_error : Detail → Part → ℚ
relative_error d p =
    if sections p == 1 then int (pos 0) else (upper_limit d p -ℚ lower_limit d p) /ℚ (upper_limit d p +ℚ lower_limit d p)
