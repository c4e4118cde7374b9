-- What a body says of a grid that carries it.
use Rattle.std.specs.Prelude.{ℕ, ◌≡◌, ◌-◌, List, length, slice_index, Option, Some}
use Rattle.std.specs.List.{Contains}
use Rattle.std.specs.Option.{option_map}
use Rattle.tb_places.specs.declared.AxisName.{AxisName}
use Rattle.tb_places.specs.declared.Place.{Place}
use Rattle.tb_places.specs.declared.FacePlace.{FacePlace}
use Rattle.tb_places.specs.Places.{along, second, third}
use Rattle.tb_places.specs.Ranges.{IsFirst}
use Rattle.tb_detail.specs.declared.Content.{Content}
use Rattle.tb_detail.specs.declared.Content.TheVariants as content
use Rattle.tb_detail.specs.declared.Detail.{Detail}
use Rattle.tb_detail.specs.declared.SpaceBox.{SpaceBox}
use Rattle.tb_grid.specs.Axis.{IsIntervalOf}
use Rattle.tb_places.specs.Along.{index_along}
use Rattle.tb_grid.specs.Grid.{Axes, lines_of}
use Rattle.tb_model.specs.Mesh.{Mesh, above, below}
use Rattle.tb_model.specs.Refinement.{Refinement, Refines, mesh, scene_of}
use Rattle.tb_model.specs.Values.{unscaled}
use Rattle.tb_geometry.specs.Base.{base_lines}
use Rattle.tb_geometry.specs.Bodies.{filled_with}
use Rattle.tb_geometry.specs.Cubes.{ReachesOver}
use Rattle.tb_geometry.specs.declared.occupant.Occupant.{Occupant}
use Rattle.tb_geometry.specs.declared.occupant.Occupant.TheVariants.{Solid, Air}

-- ---- which grids carry a body
-- a grid as a refinement: its lines stand at whole coordinates
abbrev pub refinement_of : Axes → Refinement
refinement_of g = unscaled g.x g.y g.z

-- a grid carries a body: it is a refinement of it
abbrev pub CarriesBody : Axes → Detail → Type 0
CarriesBody g d = Refines (scene_of d) (refinement_of g)

-- lines have all base lines
abbrev pub HasLines : List ℕ → List ℕ → Type 0
HasLines base lines = (x : ℕ) → Contains base x → Contains lines x

-- lines carry base lines: they have them all, and begin and end with them
pub record CarriesLines (base lines : List ℕ) : Type 0 where
  pub has_all : HasLines base lines
  pub first : slice_index lines 0 ≡ slice_index base 0
  pub last : slice_index lines (length lines - 1) ≡ slice_index base (length base - 1)

-- the base line at x is the lowest that lines lack
abbrev pub IsFirstMissing : List ℕ → List ℕ → ℕ → Type 0
IsFirstMissing base lines = IsFirst (λ x. x) (Contains base) (Contains lines) (λ x. ¬ Contains lines x)

-- ---- the cells and faces of such a grid
-- the cells of a grid, with what fills them
abbrev pub mesh_on : Detail → Axes → Mesh
mesh_on d g = mesh (scene_of d) (refinement_of g)

-- the line at the low side of the cell at a place, on an axis
abbrev pub low_side : Axes → AxisName → Place → ℕ
low_side g a p = slice_index (lines_of g a) (index_along a p)

-- the cell at a place lies in a base cell: on each axis the line at its low side is in the base cell's interval
abbrev pub LiesInBaseCell : List SpaceBox → Axes → Place → Place → Type 0
LiesInBaseCell boxes g p q = (a : AxisName) → IsIntervalOf (base_lines a boxes) (low_side g a p) (index_along a q)

-- what fills the cell at a place, with the conductivity of its material
abbrev pub occupant_at : Detail → Axes → Place → Option Occupant
occupant_at d g p = option_map (filled_with d.materials) ((mesh_on d g).occupant p.i p.j p.k)

-- a box holds the cell at a place whole, reaching over each coordinate of the cell's interval on each axis, and what
-- fills the box fills the cell
pub record IsInBox (d : Detail) (g : Axes) (p : Place) : Type 0 where
  pub box : SpaceBox
  pub there : Contains d.boxes box
  pub whole : (a : AxisName) (x : ℕ) → IsIntervalOf (lines_of g a) x (index_along a p) → ReachesOver a box x
  pub fills : (mesh_on d g).occupant p.i p.j p.k ≡ Some box.content

-- what lies below a face of a mesh, and what above it
abbrev pub below_face : Mesh → FacePlace → Option Content
below_face m f =
    below (λ n. along f.axis m.occupant n (index_along (second f.axis) f.place) (index_along (third f.axis) f.place)) (index_along f.axis f.place)

abbrev pub above_face : Mesh → FacePlace → Option Content
above_face m f =
    above (m.cells f.axis) (λ n. along f.axis m.occupant n (index_along (second f.axis) f.place) (index_along (third f.axis) f.place))
    (index_along f.axis f.place)

-- an occupant as a content, with the conductivity in the material's place: which solid lies at a face makes no
-- difference to its kind
abbrev pub content_of : Occupant → Content
content_of (Solid lambda) = content.Solid lambda
content_of (Air environment rs) = content.Air environment rs
