-- What a solid cell and its sides add to the loss of a flux, and what enters through them.
use Rattle.std.specs.Prelude.{ℕ, Option, Some, if◌then◌else◌, ℤ, pos, ◌+ℤ◌, ◌-ℤ◌}
use Rattle.tb_math.specs.Ceiling.{ceiling}
use Rattle.tb_model.specs.Values.{case_of}
use Rattle.tb_geometry.specs.declared.occupant.Occupant.{Occupant}
use Rattle.tb_geometry.specs.declared.occupant.Occupant.TheVariants.{Air}
use Rattle.tb_terms.specs.declared.flux.FluxCell.{FluxCell}
use Rattle.tb_terms.specs.declared.flux.FluxFace.{FluxFace}
use Rattle.tb_terms.specs.Limits.{IsFlow}
use Rattle.tb_terms.specs.Terms.{flux_cell_term, flux_face_term}
use Rattle.tb_sums.specs.declared.solid.CellFlows.{CellFlows}
use Rattle.tb_sums.specs.declared.solid.Through.{Through}

-- the flows of a cell are within limits
pub record HasFlows (t : Through) : Type 0 where
  pub low : IsFlow t.low
  pub high : IsFlow t.high

pub record HaveFlows (q : CellFlows) : Type 0 where
  pub x : HasFlows q.x
  pub y : HasFlows q.y
  pub z : HasFlows q.z

-- the term of a cell, or of a face, of these numbers
abbrev pub loss_cell : (lambda a b c : ℕ) → Through → FluxCell
loss_cell lambda a b c t = record { lambda = lambda; a = a; b = b; c = c; low = t.low; high = t.high }

abbrev pub loss_face : (rs b c : ℕ) (flow : ℤ) → FluxFace
loss_face rs b c flow = record { rs = rs; b = b; c = c; flow = flow }

-- what a solid cell loses inside, its three terms each rounded up
abbrev pub solid_loss_up : (lambda x y z : ℕ) → CellFlows → ℤ
solid_loss_up lambda x y z q =
    ceiling (flux_cell_term (loss_cell lambda x y z q.x)) +ℤ ceiling (flux_cell_term (loss_cell lambda y x z q.y)) +ℤ ceiling (flux_cell_term (loss_cell lambda z x y q.z))

-- what is lost at a side of a solid cell: the term of its surface, rounded up, where air lies beside
abbrev pub side_loss_up : Option Occupant → (b c : ℕ) (flow : ℤ) → ℤ
side_loss_up (Some (Air environment rs)) b c flow = ceiling (flux_face_term (loss_face rs b c flow))
side_loss_up _ b c flow = pos 0

abbrev pub sides_loss_up : Option Occupant → Option Occupant → (b c : ℕ) → Through → ℤ
sides_loss_up low high b c t = side_loss_up low b c t.low +ℤ side_loss_up high b c t.high

-- the flow through a side of a solid cell, where air of an environment of the case lies beside
abbrev pub entered : ℕ → Option Occupant → ℤ → ℤ
entered mask (Some (Air environment rs)) flow = if case_of mask environment then flow else pos 0
entered mask _ flow = pos 0

-- what enters through its two sides across an axis
abbrev pub sides_entered : ℕ → Option Occupant → Option Occupant → Through → ℤ
sides_entered mask low high t = entered mask low t.low -ℤ entered mask high t.high
