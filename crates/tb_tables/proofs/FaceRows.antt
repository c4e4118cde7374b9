-- The row of what a face is, is the row of the mesh's face.
use Rattle.std.proofs.Common.{◌≡◌, refl, sym, ap, ◌∙◌, subst, ℕ, ◌*◌, ◌-◌, ◌^◌, ◌<◌, Bool, true, Option, Some, None, List}
use Rattle.std.specs.Prelude.{IfSome, if◌then◌else◌}
use Rattle.std.specs.Option.{option_map}
use lib.IntN.{pos, negsuc}
use Rattle.tb_math.specs.Rational.{ℚ, int}
use Rattle.tb_places.specs.declared.AxisName.{AxisName}
use Rattle.tb_places.specs.declared.AxisName.TheVariants.{X, Y, Z}
use Rattle.tb_places.specs.declared.FacePlace.{FacePlace}
use Rattle.tb_places.specs.declared.Place.{Place}
use Rattle.tb_places.specs.Along.{index_along}
use Rattle.tb_places.specs.Places.{Counts, IsFace, along, second, third}
use Rattle.tb_detail.specs.declared.Content.{Content}
use Rattle.tb_detail.specs.declared.Content.TheVariants as content
use Rattle.tb_detail.specs.declared.Detail.{Detail}
use Rattle.tb_detail.specs.declared.Material.{Material}
use Rattle.tb_detail.specs.Limits.{InLimits}
use Rattle.tb_grid.specs.Direction.{width_of}
use Rattle.tb_grid.specs.Grid.{Axes, counts_of}
use Rattle.tb_model.specs.declared.FaceKind.{FaceKind}
use Rattle.tb_model.specs.declared.FaceKind.TheVariants.{Surface}
use Rattle.tb_model.specs.Energy.{Case, at_surface}
use Rattle.tb_model.specs.Mesh.{Mesh, above, below, cross_section, kind_at, kind_between}
use Rattle.tb_geometry.specs.Bodies.{filled_with}
use Rattle.tb_geometry.specs.Grids.{CarriesBody, mesh_on}
use Rattle.tb_terms.specs.Limits.{IsResistance, IsWidth}
use Rattle.tb_weighted.specs.FlowMoves.{counts_as}
use Rattle.tb_weighted.specs.Weighted.{surface_field_weight, surface_flux_weight}
use Rattle.tb_relax.specs.declared.table.FaceWeight.{FaceWeight}
use Rattle.tb_rows.proofs.Filled.{above_fits, below_fits}
use Rattle.tb_rows.proofs.Grids.{width_fits}
use Rattle.tb_rows.specs.Filled.{IsFilled}
use Rattle.tb_tables.specs.MeshRows.{IsFaceRow}
use Rattle.tb_tables.proofs.MeshRows.{whole_section, whole_width}

-- ---- the resistance of a surface is within the limits
resists : (materials : List Material) (lo hi : Option Content) (e rs : ℕ) (low : Bool) → kind_between lo hi ≡ Surface e rs low → IfSome (option_map (filled_with materials) lo) IsFilled → IfSome (option_map (filled_with materials) hi) IsFilled → IsResistance rs
resists materials (Some (content.Solid m)) (Some (content.Solid n)) e rs low k f g = cc
resists materials (Some (content.Solid m)) (Some (content.Air e' rs')) e rs low k f g = subst (λ (r : ℕ). IsResistance r) (same k) (g.resists e' rs' refl)
  where
    same : {x y u v : ℕ} {a b : Bool} → Surface x y a ≡ Surface u v b → y ≡ v
    same h = cc
resists materials (Some (content.Solid m)) None e rs low k f g = cc
resists materials (Some (content.Air e' rs')) (Some (content.Solid n)) e rs low k f g = subst (λ (r : ℕ). IsResistance r) (same k) (f.resists e' rs' refl)
  where
    same : {x y u v : ℕ} {a b : Bool} → Surface x y a ≡ Surface u v b → y ≡ v
    same h = cc
resists materials (Some (content.Air e' rs')) (Some (content.Air e'' rs'')) e rs low k f g = cc
resists materials (Some (content.Air e' rs')) None e rs low k f g = cc
resists materials None (Some (content.Solid n)) e rs low k f g = cc
resists materials None (Some (content.Air e' rs')) e rs low k f g = cc
resists materials None None e rs low k f g = cc

pub surface_resists : (d : Detail) (g : Axes) → InLimits d → (f : FacePlace) (e rs : ℕ) (low : Bool) → kind_at (mesh_on d g) f.axis f.place ≡ Surface e rs low → IsResistance rs
surface_resists d g limits f e rs low k = resists d.materials (below (λ n. along f.axis (mesh_on d g).occupant n j l) i) (above ((mesh_on d g).cells f.axis) (λ n. along f.axis (mesh_on d g).occupant n j l) i) e rs low k
    (below_fits d g limits f.axis i j l _ refl) (above_fits d g limits f.axis i j l _ refl)
  where
    i : ℕ
    i = index_along f.axis f.place

    j : ℕ
    j = index_along (second f.axis) f.place

    l : ℕ
    l = index_along (third f.axis) f.place

-- ---- widths across
pub second_fits : (d : Detail) (g : Axes) → InLimits d → CarriesBody g d → (a : AxisName) (p : Place) → IsFace (counts_of g) a p → IsWidth (width_of g (second a) p)
second_fits d g limits carries X p (x, y, z) = width_fits d g limits carries Y p.j y
second_fits d g limits carries Y p (x, y, z) = width_fits d g limits carries X p.i x
second_fits d g limits carries Z p (x, y, z) = width_fits d g limits carries X p.i x

pub third_fits : (d : Detail) (g : Axes) → InLimits d → CarriesBody g d → (a : AxisName) (p : Place) → IsFace (counts_of g) a p → IsWidth (width_of g (third a) p)
third_fits d g limits carries X p (x, y, z) = width_fits d g limits carries Z p.k z
third_fits d g limits carries Y p (x, y, z) = width_fits d g limits carries Z p.k z
third_fits d g limits carries Z p (x, y, z) = width_fits d g limits carries Y p.j y

pub second_within : (n : Counts) (a : AxisName) (p : Place) → IsFace n a p → index_along (second a) p < n (second a)
second_within n X p (x, y, z) = y
second_within n Y p (x, y, z) = x
second_within n Z p (x, y, z) = x

pub third_within : (n : Counts) (a : AxisName) (p : Place) → IsFace n a p → index_along (third a) p < n (third a)
third_within n X p (x, y, z) = z
third_within n Y p (x, y, z) = z
third_within n Z p (x, y, z) = y

-- ---- rows
module _ (d : Detail) (g : Axes) (inside : Case) (f : FacePlace) (w : FaceWeight) where
  abbrev m : Mesh
  m = mesh_on d g

  abbrev section : ℚ
  section = cross_section m f.axis (index_along (second f.axis) f.place) (index_along (third f.axis) f.place)

  level_of : (b c : Bool) → b ≡ c → (if b then pos (10 ^ 8) else pos 0) ≡ (if c then pos (10 ^ 8) else pos 0)
  level_of b c e = ap (λ (z : Bool). if z then pos (10 ^ 8) else pos 0) e

  pub surface_row : (e rs b c : ℕ) (low : Bool) → kind_at m f.axis f.place ≡ Surface e rs low → b ≡ width_of g (second f.axis) f.place → c ≡ width_of g (third f.axis) f.place
      → pos w.field ≡ surface_field_weight rs (int (pos (b * c))) → pos w.flux ≡ surface_flux_weight rs (int (pos (b * c))) → w.inside ≡ inside e → w.low_is_air ≡ low → w.counts ≡ true → IsFaceRow m inside f w
  surface_row e rs b c low k eb ec hf hx hi hl hc = record {
    field = hf ∙ ap (λ (q : ℚ). surface_field_weight rs q) whole ∙ sym (ap (λ (t : FaceKind). at_surface (pos 0) (λ e rs low. surface_field_weight rs section) t) k);
    flux = hx ∙ ap (λ (q : ℚ). surface_flux_weight rs q) whole ∙ sym (ap (λ (t : FaceKind). at_surface (pos 0) (λ e rs low. surface_flux_weight rs section) t) k);
    level = level_of w.inside (inside e) hi ∙ sym (ap (λ (t : FaceKind). at_surface (pos 0) (λ e rs low. if inside e then pos (10 ^ 8) else pos 0) t) k);
    source = source_at w.inside (inside e) w.low_is_air low hi hl ∙ sym (ap (λ (t : FaceKind). at_surface (pos 0) (λ e rs low. if inside e then (if low then negsuc (60 * 2 ^ 44 - 1) else pos (60 * 2 ^ 44)) else pos 0) t) k);
    counts = hc ∙ sym (ap counts_as k);
  }
    where
      whole : int (pos (b * c)) ≡ section
      whole = whole_section b c _ _ (whole_width g (second f.axis) f.place b d eb) (whole_width g (third f.axis) f.place c d ec)

      source_at : (x y u v : Bool) → x ≡ y → u ≡ v → (if x then (if u then negsuc (60 * 2 ^ 44 - 1) else pos (60 * 2 ^ 44)) else pos 0) ≡ (if y then (if v then negsuc (60 * 2 ^ 44 - 1) else pos (60 * 2 ^ 44)) else pos 0)
      source_at x y u v p q = rw (p, q) refl
