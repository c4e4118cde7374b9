-- Linear and point thermal transmittances as intervals of whole numbers.
use Rattle.std.specs.Prelude.{◌^◌, ◌≤◌, List, All, length, pos, ◌-ℤ◌, ◌≤ℤ◌, unsigned_abs}
use Rattle.tb_detail.specs.declared.LineTerm.{LineTerm}
use Rattle.tb_detail.specs.declared.limits.TheConstants.{MOST_TERMS}
use Rattle.tb_terms.specs.declared.Interval.{Interval}
use Rattle.tb_psi.specs.Heat.{PlanarTerm, least_lines, least_planar, most_lines, most_planar}

-- Ψ = L − Σ U·l
abbrev pub psi_interval : Interval → List PlanarTerm → Interval
psi_interval pair terms = record { lo = pair.lo -ℤ most_planar terms; hi = pair.hi -ℤ least_planar terms }

-- χ = L − Σ U·A − Σ ψ·l
abbrev pub chi_interval : Interval → List PlanarTerm → List LineTerm → Interval
chi_interval pair areas lines = record {
  lo = pair.lo -ℤ most_planar areas -ℤ most_lines lines;
  hi = pair.hi -ℤ least_planar areas -ℤ least_lines lines;
}

-- ---- sizes

-- the ends of a coupling coefficient, in fW/K
pub record IsPair (pair : Interval) : Type 0 where
  pub low : unsigned_abs pair.lo ≤ 2 ^ 121
  pub high : unsigned_abs pair.hi ≤ 2 ^ 121

-- a transmittance in fW/(m²·K)
pub record IsTransmittance (t : PlanarTerm) : Type 0 where
  pub at_least : pos 0 ≤ℤ t.0.lo
  pub ordered : t.0.lo ≤ℤ t.0.hi
  pub at_most : t.0.hi ≤ℤ pos (10 ^ 19)

-- the planar terms of an item
pub record ArePlanar (terms : List PlanarTerm) : Type 0 where
  pub few : length terms ≤ MOST_TERMS
  pub transmittances : All IsTransmittance terms
