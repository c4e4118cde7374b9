-- Which bundles have a report.
use Rattle.std.specs.Prelude.{◌≡◌, ℕ, ◌+◌, ◌*◌, ◌^◌, ◌≤◌, List, length, map, false, All}
use Rattle.tb_detail.specs.declared.Detail.{Detail}
use Rattle.tb_detail.specs.Limits.{InLimits}
use Rattle.tb_places.specs.Places.{node_count}
use Rattle.tb_grid.specs.Grid.{counts_of}
use Rattle.tb_geometry.specs.Cases.{case_masks}
use Rattle.tb_geometry.specs.Grids.{CarriesBody}
use Rattle.tb_planar.specs.Printed.{is_ratio_above}
use Rattle.tb_terms.specs.declared.Interval.{Interval}
use Rattle.tb_conduct.specs.Pairs.{AreWithin}
use Rattle.tb_case_records.specs.declared.case.CaseProof.{CaseProof}
use Rattle.tb_bundle.specs.declared.bundle.Bundle.{Bundle}

-- half of the most that an end of a case is, in fW/K: a flux that costs at most 2¹²⁰ has such ends
abbrev pub half_end : ℕ
half_end = 2 ^ 119 + 2 ^ 110

-- none of a detail's parts has limits of its resistance that lie too far apart
abbrev pub IsUnrefused : Detail → Type 0
IsUnrefused d = All (λ p. is_ratio_above d p ≡ false) d.parts

-- one interval for each case, with ends of such a size
pub record AreIntervals (environments : ℕ) (intervals : List Interval) : Type 0 where
  pub one_each : length intervals ≡ length (case_masks environments)
  pub sizes : All (AreWithin (2 * half_end)) intervals

-- a case's grid carries the body, with a value at each node
pub record IsReadable (d : Detail) (c : CaseProof) : Type 0 where
  pub carries : CarriesBody c.grid d
  pub fits : length c.field ≡ node_count (counts_of c.grid)

pub record HasReport (b : Bundle) : Type 0 where
  pub limits : InLimits b.detail
  pub environments : 2 ≤ length b.detail.environments
  pub unrefused : IsUnrefused b.detail
  pub intervals : AreIntervals (length b.detail.environments) (map (λ c. c.interval) b.cases)
  pub cases : All (IsReadable b.detail) b.cases
