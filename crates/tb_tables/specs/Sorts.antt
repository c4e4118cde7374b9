-- The weights of a sort of cells, and of a sort of faces.
use Rattle.std.specs.Prelude.{⊤, ◌≡◌, ◌*◌, Bool, true, false, ℕ, pos}
use Rattle.tb_math.specs.Rational.{int}
use Rattle.tb_terms.specs.Limits.{IsConductivity, IsResistance, IsWidth}
use Rattle.tb_weighted.specs.Weighted.{field_weight, flux_weight, surface_field_weight, surface_flux_weight}
use Rattle.tb_relax.specs.declared.table.CellWeights.{CellWeights}
use Rattle.tb_relax.specs.declared.table.FaceWeight.{FaceWeight}
use Rattle.tb_tables.specs.declared.sorts.CellSort.{CellSort}
use Rattle.tb_tables.specs.declared.sorts.CellSort.TheVariants.{Air, Solid}
use Rattle.tb_tables.specs.declared.sorts.FaceSort.{FaceSort}
use Rattle.tb_tables.specs.declared.sorts.FaceSort.TheVariants.{NoSurface, Surface}

-- conductivity and widths are within their limits
pub record AreWithin (lambda x y z : ℕ) : Type 0 where
  pub lambda_fits : IsConductivity lambda
  pub x_fits : IsWidth x
  pub y_fits : IsWidth y
  pub z_fits : IsWidth z

abbrev pub IsWithin : CellSort → Type 0
IsWithin Air = ⊤
IsWithin (Solid lambda x y z) = AreWithin lambda x y z

-- the weights of a solid cell
pub record AreSolid (lambda x y z : ℕ) (w : CellWeights) : Type 0 where
  pub along_x : pos w.x ≡ field_weight (int (pos lambda)) (int (pos x)) (int (pos (y * z)))
  pub along_y : pos w.y ≡ field_weight (int (pos lambda)) (int (pos y)) (int (pos (x * z)))
  pub along_z : pos w.z ≡ field_weight (int (pos lambda)) (int (pos z)) (int (pos (x * y)))
  pub flux_x : pos w.flux_x ≡ flux_weight (int (pos lambda)) (int (pos x)) (int (pos (y * z)))
  pub flux_y : pos w.flux_y ≡ flux_weight (int (pos lambda)) (int (pos y)) (int (pos (x * z)))
  pub flux_z : pos w.flux_z ≡ flux_weight (int (pos lambda)) (int (pos z)) (int (pos (x * y)))

-- the weights of a cell of air
pub record AreNone (w : CellWeights) : Type 0 where
  pub x : w.x ≡ 0
  pub y : w.y ≡ 0
  pub z : w.z ≡ 0
  pub flux_x : w.flux_x ≡ 0
  pub flux_y : w.flux_y ≡ 0
  pub flux_z : w.flux_z ≡ 0

abbrev pub HasSort : CellSort → CellWeights → Type 0
HasSort Air w = AreNone w
HasSort (Solid lambda x y z) w = AreSolid lambda x y z w

-- resistance and widths of a surface are within their limits
pub record IsSurfaceWithin (rs b c : ℕ) : Type 0 where
  pub rs_fits : IsResistance rs
  pub b_fits : IsWidth b
  pub c_fits : IsWidth c

abbrev pub IsFaceWithin : FaceSort → Type 0
IsFaceWithin (Surface rs b c inside low_is_air) = IsSurfaceWithin rs b c
IsFaceWithin (NoSurface counts) = ⊤

-- the weights of a surface, and what else its row tells
pub record IsSurfaceRow (rs b c : ℕ) (inside low_is_air : Bool) (w : FaceWeight) : Type 0 where
  pub field : pos w.field ≡ surface_field_weight rs (int (pos (b * c)))
  pub flux : pos w.flux ≡ surface_flux_weight rs (int (pos (b * c)))
  pub is_inside : w.inside ≡ inside
  pub low : w.low_is_air ≡ low_is_air
  pub counts : w.counts ≡ true

-- the row of a face that is no surface
pub record IsOtherRow (counts : Bool) (w : FaceWeight) : Type 0 where
  pub field : w.field ≡ 0
  pub flux : w.flux ≡ 0
  pub outside : w.inside ≡ false
  pub same : w.counts ≡ counts

abbrev pub HasFaceSort : FaceSort → FaceWeight → Type 0
HasFaceSort (Surface rs b c inside low_is_air) w = IsSurfaceRow rs b c inside low_is_air w
HasFaceSort (NoSurface counts) w = IsOtherRow counts w
