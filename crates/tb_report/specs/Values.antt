-- The figures of a report.
use Rattle.std.specs.Prelude.{ℕ, List, [], map, slice_index_or, nat_lt, if◌then◌else◌, Result, Ok, Err, pos, length}
use Rattle.tb_detail.specs.declared.ChiItem.{ChiItem}
use Rattle.tb_detail.specs.declared.Detail.{Detail}
use Rattle.tb_detail.specs.declared.Part.{Part}
use Rattle.tb_detail.specs.declared.PlanarTerm as detail
use Rattle.tb_detail.specs.declared.PsiItem.{PsiItem}
use Rattle.tb_planar.specs.declared.PlanarU.{PlanarU}
use Rattle.tb_planar.specs.declared.RatioAbove.{RatioAbove}
use Rattle.tb_planar.specs.declared.URange.{URange}
use Rattle.tb_planar.specs.Printed.{answer}
use Rattle.tb_terms.specs.declared.Interval.{Interval}
use Rattle.tb_conduct.specs.Pairs.{highest, lowest}
use Rattle.tb_psi.specs.Heat.{PlanarTerm}
use Rattle.tb_psi.specs.Transmittances.{chi_interval, psi_interval}

-- the coupling coefficient of two environments, the earlier one first
abbrev pub pair_interval : ℕ → List Interval → ℕ → ℕ → Interval
pair_interval n intervals i j = record { lo = lowest n intervals i j; hi = highest n intervals i j }

-- and of two in any order
abbrev pub coupling : Detail → List Interval → ℕ → ℕ → Interval
coupling d intervals i j =
    if nat_lt i j then pair_interval (length d.environments) intervals i j else pair_interval (length d.environments) intervals j i

-- what is read past the end of a list of parts
abbrev pub no_part : Part
no_part = record { name = []; rsi = 0; rse = 0; areas = []; layers = [] }

-- the transmittance of a part that isn't refused
abbrev pub range_of : Result PlanarU RatioAbove → URange
range_of (Ok value) = value.u
range_of (Err e) = record { lo = pos 0; hi = pos 0 }

abbrev pub u_of : Detail → ℕ → URange
u_of d part = range_of (answer d (slice_index_or d.parts part no_part))

-- a length or an area of a part, with the part's transmittance
abbrev pub planar_term : Detail → detail.PlanarTerm → PlanarTerm
planar_term d t = (u_of d t.part, t.amount)

abbrev pub psi_value : Detail → List Interval → PsiItem → Interval
psi_value d intervals p = psi_interval (coupling d intervals p.first p.second) (map (planar_term d) p.lengths)

abbrev pub chi_value : Detail → List Interval → ChiItem → Interval
chi_value d intervals c = chi_interval (coupling d intervals c.first c.second) (map (planar_term d) c.areas) c.lines
