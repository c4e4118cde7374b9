-- Cycles, by the face where they enter.
use Rattle.std.specs.Prelude.{◌≡◌, ℕ, List, replicate, slice_set, ℤ, pos, neg_ℤ}
use Rattle.tb_places.specs.Inverse.{cell_place}
use Rattle.tb_places.specs.Places.{Counts, face_count}
use Rattle.tb_model.specs.Mesh.{Mesh}
use Rattle.tb_walk.specs.Isolated.{IsSurface}
use Rattle.tb_outlets.specs.declared.side.Side.{Side}
use Rattle.tb_outlets.specs.declared.marks.Mark.{Mark}
use Rattle.tb_outlets.specs.Cycles.{out}
use Rattle.tb_outlets.specs.Outlets.{IsRoot, IsSolidAt}
use Rattle.tb_outlets.specs.Repair.{IsCycle}
use Rattle.tb_outlets.specs.Sides.{face_of, kind_on}
use Rattle.tb_cycles.specs.Ways.{LeadOut}

-- The face with this number is a Surface, on a side of a solid cell, and not a root: there its cycle enters.
pub record IsEntry (m : Mesh) (f c : ℕ) (side : Side) : Type 0 where
  pub solid : IsSolidAt m c
  pub at : face_of m.cells c side ≡ f
  pub surface : IsSurface (kind_on m side (cell_place m.cells c))
  pub no_root : ¬ IsRoot m (cell_place m.cells c) (cell_place m.cells c) side

-- a face has a cycle
pub record HasCycle (m : Mesh) (f : ℕ) : Type 0 where
  pub cell : ℕ
  pub side : Side
  pub entry : IsEntry m f cell side

-- and this is it: the balanced flux that carries 1 into the body there and is 0 on every other face that isn't an outlet
pub record IsCycleOf (m : Mesh) (f : ℕ) (flows : List ℤ) : Type 0 where
  pub cell : ℕ
  pub side : Side
  pub entry : IsEntry m f cell side
  pub cycle : IsCycle m cell side flows

-- 1 enters through the face on a side of a cell, and nothing flows elsewhere
abbrev pub entering_flow : Mesh → ℕ → Side → List ℤ
entering_flow m c side = slice_set (replicate (face_count m.cells) (pos 0)) (face_of m.cells c side) (neg_ℤ (out side))

-- a cycle enters here, on a mesh with these counts of cells, whose distances and outlets are in these lists
pub record IsStart (n : Counts) (marks : List Mark) (sides : List Side) (c : ℕ) (side : Side) : Type 0 where
  pub mesh : Mesh
  pub counts : n ≡ mesh.cells
  pub leads : LeadOut mesh marks sides
  pub face : ℕ
  pub entry : IsEntry mesh face c side
