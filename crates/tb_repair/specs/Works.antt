-- What a repair works on.
use Rattle.std.specs.Prelude.{◌≡◌, List, replicate, Bool, false, ℤ, pos}
use Rattle.tb_places.specs.Places.{face_count}
use Rattle.tb_grid.specs.Grid.{counts_of}
use Rattle.tb_flux.specs.Fluxes.{FitsFaces}
use Rattle.tb_outlets.specs.Repair.{IsOneRepairedFlux, IsRepairAnswer, IsRepaired}
use Rattle.tb_trees.specs.Bodies.{BodyOnGrid, mesh_of}

-- a body on a grid, and the repaired flux
pub record Work : Type 0 where
  pub site : BodyOnGrid
  pub flux : List ℤ

abbrev pub zero_flux : BodyOnGrid → List ℤ
zero_flux b = replicate (face_count (counts_of b.grid)) (pos 0)

-- There is one repaired flux. True exactly where it is within the limits: then these are its flows. Else they are 0.
pub record Repairs (b : BodyOnGrid) (given : List ℤ) (answer : Bool) (flows : List ℤ) : Type 0 where
  pub repaired : IsRepairAnswer (mesh_of b) given answer flows
  pub one : (v w : List ℤ) → IsRepaired (mesh_of b) given v → IsRepaired (mesh_of b) given w → v ≡ w
  pub one_flux : IsOneRepairedFlux (mesh_of b) given
  pub refused : answer ≡ false → flows ≡ zero_flux b

-- the flux has a flow for each face of the grid
abbrev pub Fits : BodyOnGrid → List ℤ → Type 0
Fits b flows = FitsFaces (counts_of b.grid) flows
