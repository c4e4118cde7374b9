-- What faces give to the move of a cycle: a parabola in the multiple, and how far the multiple may go.
use Rattle.std.specs.Prelude.{◌≡◌, ◌≢◌, ◌↔◌, ◌*◌, ◌-◌, ◌^◌, ◌≤◌, ℕ, Bool, List, if◌then◌else◌, ℤ, pos, negsuc, ◌+ℤ◌, ◌*ℤ◌, ◌≤ℤ◌, unsigned_abs}
use Rattle.tb_places.specs.declared.AxisName.{AxisName}
use Rattle.tb_places.specs.declared.Place.{Place}
use Rattle.tb_places.specs.Along.{index_along}
use Rattle.tb_places.specs.Places.{Counts, second, third}
use Rattle.tb_outlets.specs.declared.side.Side.{Side}
use Rattle.tb_outlets.specs.Balancing.{flow}
use Rattle.tb_outlets.specs.Cycles.{opposite, out}
use Rattle.tb_outlets.specs.Sides.{axis_of, number_on, place_on}
use Rattle.tb_weighted.specs.Limits.{InFlow}
use Rattle.tb_relax.specs.declared.joining.Reach.{Reach}
use Rattle.tb_relax.specs.declared.table.Table.{Table}
use Rattle.tb_relax.specs.Joining.{Within}
use Rattle.tb_relax.specs.Tables.{cell_flux_at, rate_through, slope_through}

-- the rate and the slope of the flow through the face across an axis at a place
abbrev pub rate_at : Table → AxisName → Place → ℤ
rate_at t a p = rate_through t a (index_along a p) (index_along (second a) p) (index_along (third a) p)

abbrev pub slope_at : Table → List ℤ → AxisName → Place → ℤ
slope_at t flows a p = slope_through t flows a (index_along a p) (index_along (second a) p) (index_along (third a) p)

-- the weight along an axis of the cell at a place
abbrev pub weight_at : Table → AxisName → Place → ℤ
weight_at t a p = pos (cell_flux_at t a (index_along a p) (index_along (second a) p) (index_along (third a) p))

-- the flow with which 1 passes a face, forth along its axis or back
abbrev pub passing : Bool → ℤ
passing forth = if forth then pos 1 else negsuc 0

-- What the way through a cell adds, where 1 enters it on one side and leaves it on another: its weight where the sides are
-- opposite, and nothing round a corner.
pub record IsMet (entered left : Side) (weight met : ℤ) : Type 0 where
  pub straight : entered ≡ opposite left → met ≡ weight
  pub round : entered ≢ opposite left → met ≡ pos 0

-- the rate of a face on a side of the cell at a place, through which 1 leaves, with what the way through the cell adds
pub record IsRateOn (t : Table) (p : Place) (entered left : Side) (rate : ℤ) : Type 0 where
  pub met : ℤ
  pub is_met : IsMet entered left (weight_at t (axis_of left) p) met
  pub adds : rate ≡ rate_at t (axis_of left) (place_on left p) +ℤ met

-- the most rate and slope of one face, with what the way adds
abbrev pub most_rate : ℕ
most_rate = 2 ^ 67

abbrev pub most_slope : ℕ
most_slope = 3 * 2 ^ 107

-- within so much rate and slope, and within a range about 0
pub record IsBounded (r : Reach) (most_of_rate most_of_slope : ℕ) : Type 0 where
  pub opens_up : pos 0 ≤ℤ r.pull.rate
  pub rate : unsigned_abs r.pull.rate ≤ most_of_rate
  pub slope : unsigned_abs r.pull.slope ≤ most_of_slope
  pub under : r.low ≤ℤ pos 0
  pub over : pos 0 ≤ℤ r.high
  pub low_far : negsuc (4 * 10 ^ 12 - 1) ≤ℤ r.low
  pub high_far : r.high ≤ℤ pos (4 * 10 ^ 12)

-- what the outlet of the cell at a place adds, which was entered on a side
pub record IsPassed (n : Counts) (t : Table) (old : List ℤ) (p : Place) (s o : Side) (r next : Reach) : Type 0 where
  pub slope : next.pull.slope ≡ r.pull.slope +ℤ out o *ℤ slope_at t old (axis_of o) (place_on o p)
  pub within : (x : ℤ) → Within next x ↔ (Within r x × InFlow (flow old (number_on n o p) +ℤ x *ℤ out o))
  pub more : ℤ
  pub met : IsRateOn t p s o more
  pub rate : next.pull.rate ≡ r.pull.rate +ℤ more
