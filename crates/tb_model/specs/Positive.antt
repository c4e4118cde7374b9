-- What is positive in a body: widths, conductivities and surface resistances.
use Rattle.std.specs.Prelude.{◌≡◌, ℕ, ◌<◌, ◌≤◌, Some, Bool, pos}
use Rattle.std.specs.List.{All}
use Rattle.tb_math.specs.Rational.{int, ◌<ℚ◌}
use Rattle.tb_places.specs.declared.AxisName.{AxisName}
use Rattle.tb_places.specs.Places.{second, third, IsCell}
use Rattle.tb_detail.specs.declared.Content.{Content}
use Rattle.tb_detail.specs.declared.Content.TheVariants.{Solid, Air}
use Rattle.tb_model.specs.declared.FaceKind.TheVariants.{Surface}
use Rattle.tb_model.specs.Mesh.{Mesh, kind}
use Rattle.tb_places.specs.Places.{place_at}
use Rattle.tb_model.specs.Refinement.{Scene}

-- On a mesh: every cell has an extent, what fills a solid cell conducts along each axis, and each surface has a
-- resistance.
pub record IsPhysical (m : Mesh) : Type 0 where
  pub widths : (a : AxisName) (i : ℕ) → i < m.cells a → int (pos 0) <ℚ m.width a i
  pub conductivities : (a : AxisName) (i j k material : ℕ) → IsCell m.cells (place_at i j k) → m.occupant i j k ≡ Some (Solid material) → int (pos 0) <ℚ m.conductivity material a
  pub resistances : (a : AxisName) (i j k environment rs : ℕ) (low_is_air : Bool) → i ≤ m.cells a → j < m.cells (second a) → k < m.cells (third a) → kind m a i j k ≡ Surface environment rs low_is_air → 0 < rs

-- in a body of boxes: each solid conducts along each axis, and each air's surfaces resist
abbrev pub IsPositive : Scene → Content → Type 0
IsPositive s (Solid material) = (a : AxisName) → int (pos 0) <ℚ s.conductivity material a
IsPositive s (Air environment rs) = 0 < rs

abbrev pub HasPositiveBoxes : Scene → Type 0
HasPositiveBoxes s = All (λ b. IsPositive s b.content) s.boxes
