-- The repair of a flux: the one balanced flux that has given values off the outlets.
use Rattle.std.specs.Prelude.{neg_ℤ, ◌≡◌, ◌≢◌, ◌↔◌, ℕ, ◌<◌, Bool, true, false, if◌then◌else◌, List, length, slice_index_or, Contains, IsTrue, ℤ, pos}
use Rattle.tb_places.specs.declared.Place.{Place}
use Rattle.tb_places.specs.Inverse.{face_place}
use Rattle.tb_places.specs.Places.{IsFace, face_count, face_number}
use Rattle.tb_places.specs.declared.AxisName.{AxisName}
use Rattle.tb_math.specs.Rational.{ℚ, int}
use Rattle.tb_grid.specs.declared.ids.CellId.{CellId}
use Rattle.tb_model.specs.declared.FaceKind.{FaceKind}
use Rattle.tb_model.specs.declared.FaceKind.TheVariants.{Inner, Surface}
use Rattle.tb_model.specs.Mesh.{Mesh}
use Rattle.tb_model.specs.Values.{flux_of}
use Rattle.tb_model.specs.Energy.{Flux, IsBalanced}
use Rattle.tb_walk.specs.Isolated.{IsSolidCell}
use Rattle.tb_model.specs.Mesh.{kind_at}
use Rattle.tb_outlets.specs.declared.side.Side.{Side}
use Rattle.tb_outlets.specs.Cycles.{out}
use Rattle.tb_outlets.specs.Sides.{face_of, number_on}
use Rattle.tb_outlets.specs.Outlets.{IsOutletOf, IsSolidAt}
use Rattle.tb_outlets.specs.Balancing.{flow, IsWithinLimits}

-- Inner and Surface faces carry heat
abbrev pub carries : FaceKind → Bool
carries Inner = true
carries (Surface environment rs low_is_air) = true
carries _ = false

-- the kind of the face with a number
abbrev pub kind_of : Mesh → ℕ → FaceKind
kind_of m f = let face = face_place m.cells f in kind_at m face.axis face.place

-- the face with this number is the outlet of a solid cell
pub record IsOutletFace (m : Mesh) (f : ℕ) : Type 0 where
  pub cell : Place
  pub side : Side
  pub solid : IsSolidCell m cell
  pub outlet : IsOutletOf m cell side
  pub at : number_on m.cells side cell ≡ f

-- The balanced flux that agrees with the given one on all Inner and Surface faces that aren't outlets, and is 0 on Shut and
-- Idle faces.
pub record IsRepaired (m : Mesh) (given values : List ℤ) : Type 0 where
  pub count : length values ≡ face_count m.cells
  pub balanced : IsBalanced m (flux_of m.cells values)
  pub agrees : (f : ℕ) → f < face_count m.cells → carries (kind_of m f) ≡ true → ¬ IsOutletFace m f → flow values f ≡ flow given f
  pub rest : (f : ℕ) → f < face_count m.cells → carries (kind_of m f) ≡ false → flow values f ≡ pos 0

-- the value of a flux at the face across an axis at a place
abbrev pub flow_at : Flux → AxisName → Place → ℚ
flow_at q a p = q a p.i p.j p.k

-- The same, of fluxes of any rational values.
pub record IsRepairedFlux (m : Mesh) (given q : Flux) : Type 0 where
  pub balanced : IsBalanced m q
  pub agrees : (a : AxisName) (p : Place) → IsFace m.cells a p → carries (kind_at m a p) ≡ true →
      ¬ IsOutletFace m (face_number m.cells a p) → flow_at q a p ≡ flow_at given a p
  pub rest : (a : AxisName) (p : Place) → IsFace m.cells a p → carries (kind_at m a p) ≡ false → flow_at q a p ≡ int (pos 0)

-- of all fluxes of rational values there is one repaired flux at the most
abbrev pub IsOneRepairedFlux : Mesh → List ℤ → Type 0
IsOneRepairedFlux m given = (q r : Flux) → IsRepairedFlux m (flux_of m.cells given) q → IsRepairedFlux m (flux_of m.cells given) r →
    (a : AxisName) (p : Place) → IsFace m.cells a p → flow_at q a p ≡ flow_at r a p

-- what a repair starts from: 0 on Shut and Idle faces
pub record IsCleared (m : Mesh) (given values : List ℤ) : Type 0 where
  pub count : length values ≡ face_count m.cells
  pub each : (f : ℕ) → f < face_count m.cells → flow values f ≡ (if carries (kind_of m f) then flow given f else pos 0)

-- a list has just the solid cells
pub record ListsSolids (m : Mesh) (cells : List CellId) : Type 0 where
  pub solid : (c : CellId) → Contains cells c → IsSolidAt m c.0
  pub all : (c : CellId) → IsSolidAt m c.0 → Contains cells c

-- True exactly where the repair is within the limits; then these are its values.
pub record IsRepairAnswer (m : Mesh) (given : List ℤ) (answer : Bool) (values : List ℤ) : Type 0 where
  pub whole : List ℤ
  pub repaired : IsRepaired m given whole
  pub within : IsTrue answer ↔ IsWithinLimits whole
  pub is : IsTrue answer → values ≡ whole

-- flags tell which faces carry heat, in the order of the numbers of faces
pub record MarkCarrying (m : Mesh) (flags : List Bool) : Type 0 where
  pub count : length flags ≡ face_count m.cells
  pub marked : (f : ℕ) → f < face_count m.cells → slice_index_or flags f false ≡ carries (kind_of m f)

-- values where flags are set, and 0 elsewhere
abbrev pub cleared : List Bool → List ℤ → ℕ → ℤ
cleared flags given f = if slice_index_or flags f false then flow given f else pos 0

-- The cycle of the Surface face on a side of a cell: the balanced flux that carries 1 into the body there and is 0 on every
-- other face that isn't an outlet.
pub record IsCycle (m : Mesh) (c : ℕ) (side : Side) (values : List ℤ) : Type 0 where
  pub count : length values ≡ face_count m.cells
  pub balanced : IsBalanced m (flux_of m.cells values)
  pub enters : flow values (face_of m.cells c side) ≡ neg_ℤ (out side)
  pub rest : (f : ℕ) → f < face_count m.cells → f ≢ face_of m.cells c side → ¬ IsOutletFace m f → flow values f ≡ pos 0
