-- A mesh: the cells of a body on three lists of lines, as physics sees them.
--
-- Cells, nodes and faces are named by places (i,j,k), three indexes from 0 along x, y and z. A face across
-- an axis stands at a line of that axis: face i lies between the cells i - 1 and i.
use Rattle.std.specs.Prelude.{ℕ, zero, suc, Option, Some, None, true, false, nat_lt, if◌then◌else◌}
use Rattle.tb_math.specs.Rational.{ℚ, ◌*ℚ◌}
use Rattle.tb_places.specs.declared.AxisName.{AxisName}
use Rattle.tb_places.specs.declared.Place.{Place}
use Rattle.tb_places.specs.Along.{index_along}
use Rattle.tb_places.specs.Places.{second, third, along}
use Rattle.tb_detail.specs.declared.Content.{Content}
use Rattle.tb_detail.specs.declared.Content.TheVariants.{Solid, Air}
use Rattle.tb_model.specs.declared.FaceKind.{FaceKind}
use Rattle.tb_model.specs.declared.FaceKind.TheVariants.{Inner, Surface, Shut, Idle}

-- cells: how many along each axis. width: of the cells at an index along an axis, in 0.1 mm.
-- occupant: what a cell is filled with. conductivity: of a material along an axis, in 10⁻⁴ W/(m·K).
pub record Mesh : Type 0 where
  pub cells : AxisName → ℕ
  pub width : AxisName → ℕ → ℚ
  pub occupant : ℕ → ℕ → ℕ → Option Content
  pub conductivity : ℕ → AxisName → ℚ

-- what lies below and above face i of a line of n cells: nothing lies outside the body
abbrev pub below : (ℕ → Option Content) → ℕ → Option Content
below occupant zero = None
below occupant (suc i) = occupant i

abbrev pub above : ℕ → (ℕ → Option Content) → ℕ → Option Content
above n occupant i = if nat_lt i n then occupant i else None

-- the kind of a face, from what lies on its two sides. `low_is_air`: the air lies below, so that a positive
-- flow enters the body
abbrev pub kind_between : Option Content → Option Content → FaceKind
kind_between (Some (Solid m)) (Some (Solid n)) = Inner
kind_between (Some (Solid m)) (Some (Air e rs)) = Surface e rs false
kind_between (Some (Solid m)) None = Shut
kind_between (Some (Air e rs)) (Some (Solid n)) = Surface e rs true
kind_between None (Some (Solid n)) = Shut
kind_between _ _ = Idle

-- the kind of the face across an axis, its index along that axis first
abbrev pub kind : Mesh → AxisName → ℕ → ℕ → ℕ → FaceKind
kind m a i j k = kind_between (below (λ n. along a m.occupant n j k) i) (above (m.cells a) (λ n. along a m.occupant n j k) i)

-- the kind of the face across an axis at a place
abbrev pub kind_at : Mesh → AxisName → Place → FaceKind
kind_at m a p = kind m a (index_along a p) (index_along (second a) p) (index_along (third a) p)

-- the area of the cross-section of a line of cells along an axis, in 10⁻⁸ m²
abbrev pub cross_section : Mesh → AxisName → ℕ → ℕ → ℚ
cross_section m a j k = m.width (second a) j *ℚ m.width (third a) k
