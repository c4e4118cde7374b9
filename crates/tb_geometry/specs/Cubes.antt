-- Unit cubes, and the boxes of a body that hold them.
--
-- The unit cube at (x,y,z) reaches from x to x + 1 on the x axis, and likewise on the others, in 0.1 mm.
use Rattle.std.specs.Prelude.{ℕ, ◌-◌, ◌<◌, ◌≤◌, ◌≡◌, ◌⊎◌, List, length, slice_index_or}
use Rattle.std.specs.List.{Any, AllPairs}
use Rattle.tb_places.specs.declared.AxisName.{AxisName}
use Rattle.tb_places.specs.declared.AxisName.TheVariants.{X, Y, Z}
use Rattle.tb_places.specs.Ranges.{IsWithin}
use Rattle.tb_detail.specs.declared.SpaceBox.{SpaceBox}
use Rattle.tb_model.specs.Refinement.{low, high}

-- a box reaches over the coordinate x of an axis: it begins there or before, and ends behind
abbrev pub ReachesOver : AxisName → SpaceBox → ℕ → Type 0
ReachesOver a b = IsWithin (low a b) (high a b)

-- a box holds the unit cube at (x,y,z)
pub record HoldsCube (b : SpaceBox) (x y z : ℕ) : Type 0 where
  pub on_x : ReachesOver X b x
  pub on_y : ReachesOver Y b y
  pub on_z : ReachesOver Z b z

-- some box holds the cube
abbrev pub IsHeld : List SpaceBox → ℕ → ℕ → ℕ → Type 0
IsHeld boxes x y z = Any (λ b. HoldsCube b x y z) boxes

-- two boxes share a cube. Boxes that touch in a face share none
pub record ShareCube (b c : SpaceBox) : Type 0 where
  pub at_x : ℕ
  pub at_y : ℕ
  pub at_z : ℕ
  pub first : HoldsCube b at_x at_y at_z
  pub second : HoldsCube c at_x at_y at_z

-- no two boxes share a cube
abbrev pub AreApart : List SpaceBox → Type 0
AreApart boxes = AllPairs (λ b c. ¬ ShareCube b c) boxes

-- the boxes number i and j share a cube, counted from 1 and the earlier box first
pub record Overlap (boxes : List SpaceBox) (i j : ℕ) : Type 0 where
  pub counted : 0 < i
  pub in_order : i < j
  pub within : j ≤ length boxes
  pub shared : (d : SpaceBox) → ShareCube (slice_index_or boxes (i - 1) d) (slice_index_or boxes (j - 1) d)

-- these are the first two boxes that share a cube, by the number of the earlier box and then of the later one
pub record IsFirstOverlap (boxes : List SpaceBox) (i j : ℕ) : Type 0 where
  pub overlap : Overlap boxes i j
  pub first : (p q : ℕ) → Overlap boxes p q → (i < p) ⊎ ((i ≡ p) × (j ≤ q))

-- The hull is the smallest box around all boxes. A coordinate is in it on an axis where some box begins there or
-- before, and some box ends behind.
pub record IsInHullOn (a : AxisName) (boxes : List SpaceBox) (x : ℕ) : Type 0 where
  pub from : Any (λ b. low a b ≤ x) boxes
  pub below : Any (λ b. x < high a b) boxes

-- a cube is in the hull
pub record IsInHull (boxes : List SpaceBox) (x y z : ℕ) : Type 0 where
  pub on_x : IsInHullOn X boxes x
  pub on_y : IsInHullOn Y boxes y
  pub on_z : IsInHullOn Z boxes z

-- each cube of the hull is held by a box
abbrev pub IsCovered : List SpaceBox → Type 0
IsCovered boxes = (x y z : ℕ) → IsInHull boxes x y z → IsHeld boxes x y z
