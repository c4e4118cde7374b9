-- The refinements of a body of boxes, and the mesh of each.
use Rattle.std.specs.Prelude.{ℕ, suc, ◌+◌, ◌-◌, ◌*◌, ◌<◌, ◌≤◌, Bool, ◌&&◌, nat_le, nat_lt, List, length, slice_index, map, Contains, Any, Option, pos}
use Rattle.std.specs.Option.{option_map}
use Rattle.std.specs.List.{find}
use Rattle.std.specs.List.Sorted.{IsStrictlyIncreasing}
use Rattle.tb_math.specs.Rational.{ℚ, int, ratio}
use Rattle.tb_places.specs.declared.AxisName.{AxisName}
use Rattle.tb_places.specs.declared.AxisName.TheVariants.{X, Y, Z}
use Rattle.tb_detail.specs.declared.Content.{Content}
use Rattle.tb_detail.specs.declared.SpaceBox.{SpaceBox}
use Rattle.tb_detail.specs.declared.Detail.{Detail}
use Rattle.tb_model.specs.Mesh.{Mesh}

-- A body of boxes, with the conductivity of each material along each axis, in 10⁻⁴ W/(m·K)
pub record Scene : Type 0 where
  pub boxes : List SpaceBox
  pub conductivity : ℕ → AxisName → ℚ

-- a detail's materials conduct alike along all axes
abbrev pub scene_of : Detail → Scene
scene_of d = record { boxes = d.boxes; conductivity = λ n a. int (pos (slice_index (map (λ m. m.lambda) d.materials) n)) }

-- the coordinates of a box on an axis
abbrev pub low : AxisName → SpaceBox → ℕ
low X b = b.span.x0
low Y b = b.span.y0
low Z b = b.span.z0

abbrev pub high : AxisName → SpaceBox → ℕ
high X b = b.span.x1
high Y b = b.span.y1
high Z b = b.span.z1

-- Three lists of lines. The line p stands at the coordinate p/scale.
pub record Refinement : Type 0 where
  pub scale : ℕ
  pub lines : AxisName → List ℕ

-- the line with an index along an axis
abbrev pub line : Refinement → AxisName → ℕ → ℕ
line r a i = slice_index (r.lines a) i

-- Rising lines, among them all box coordinates, none outside the hull of the boxes: so each list begins and
-- ends at the hull. There is no limit on lines or scale.
pub record Refines (s : Scene) (r : Refinement) : Type 0 where
  pub scaled : 0 < r.scale
  pub rising : (a : AxisName) → IsStrictlyIncreasing (r.lines a)
  pub has_lows : (a : AxisName) (b : SpaceBox) → Contains s.boxes b → Contains (r.lines a) (r.scale * low a b)
  pub has_highs : (a : AxisName) (b : SpaceBox) → Contains s.boxes b → Contains (r.lines a) (r.scale * high a b)
  pub from_hull : (a : AxisName) (p : ℕ) → Contains (r.lines a) p → Any (λ b. r.scale * low a b ≤ p) s.boxes
  pub to_hull : (a : AxisName) (p : ℕ) → Contains (r.lines a) p → Any (λ b. p ≤ r.scale * high a b) s.boxes

-- whether a box reaches over the middle between the lines i and i + 1 of an axis
abbrev pub reaches_middle : Refinement → SpaceBox → AxisName → ℕ → Bool
reaches_middle r b a i =
    nat_le (2 * (r.scale * low a b)) (line r a i + line r a (suc i))
    && nat_lt (line r a i + line r a (suc i)) (2 * (r.scale * high a b))

-- whether a box contains the middle of a cell
abbrev pub holds_middle : Refinement → ℕ → ℕ → ℕ → SpaceBox → Bool
holds_middle r i j k b = reaches_middle r b X i && reaches_middle r b Y j && reaches_middle r b Z k

-- what fills the one box that contains the middle of a cell
abbrev pub occupant : Scene → Refinement → ℕ → ℕ → ℕ → Option Content
occupant s r i j k = option_map (λ b. b.content) (find (holds_middle r i j k) s.boxes)

-- the cells between the lines, of widths in 0.1 mm
abbrev pub mesh : Scene → Refinement → Mesh
mesh s r = record {
  cells = λ a. length (r.lines a) - 1;
  width = λ a i. ratio (pos (line r a (suc i) - line r a i)) r.scale;
  occupant = occupant s r;
  conductivity = s.conductivity;
}
