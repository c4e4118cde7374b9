-- Flags that mark the solid cells of a grid.
use Rattle.std.proofs.Common.{◌≡◌, ◌≢◌, ◌↔◌, ℕ, ◌+◌, ◌<◌, ⊎_elim, Bool, true, false, Option, Some, None, List, [], ◌∷◌, ◌++◌, length, refl, sym, ap, subst, ◌∙◌, arith}
use Rattle.std.proofs.Math.ListN.{get_or-append, length-append}
use Rattle.std.proofs.Math.Seq.{get_or-append_seam}
use Rattle.std.proofs.lemmas.Bool.{cases_eq}
use Rattle.std.specs.Option.{option_map}
use Rattle.tb_detail.specs.declared.Content.{Content}
use Rattle.tb_detail.specs.declared.Content.TheVariants as content
use Rattle.tb_detail.specs.declared.Material.{Material}
use Rattle.tb_detail.specs.declared.Detail.{Detail}
use Rattle.tb_places.specs.declared.AxisName.{AxisName}
use Rattle.tb_places.specs.declared.AxisName.TheVariants.{X, Y, Z}
use Rattle.tb_places.specs.declared.Place.{Place}
use Rattle.tb_places.specs.Inverse.{cell_place}
use Rattle.tb_places.specs.Places.{Counts, by_axis, cell_count, cell_number}
use Rattle.tb_places.proofs.ByAxis.{same_by_axis}
use Rattle.tb_grid.specs.Axis.{interval_count}
use Rattle.tb_places.proofs.Cells.{cell_number_below, cell_place_of_number}
use Rattle.tb_grid.specs.Grid.{Axes, counts_of}
use Rattle.tb_model.specs.Faults.{IsSolid}
use Rattle.tb_model.specs.Mesh.{Mesh}
use Rattle.tb_walk.specs.Isolated.{MarkSolids}
use Rattle.tb_walk.specs.Marks.{flag_at}
use Rattle.tb_walk.specs.Spreading.{flag}
use Rattle.tb_geometry.specs.Bodies.{filled_with}
use Rattle.tb_geometry.specs.Faults.{IsAccepted}
use Rattle.tb_geometry.specs.Grids.{CarriesBody, mesh_on}
use Rattle.tb_geometry.specs.declared.occupant.Occupant.TheVariants.{Solid}
use Rattle.tb_trees.specs.Flags.{TellSolids}
use Rattle.tb_trees.proofs.Air.{is_filled}

pub filled_solid : (materials : List Material) (o : Option Content) (lambda : ℕ) → Some (Solid lambda) ≡ option_map (filled_with materials) o →
    (material : ℕ) × (o ≡ Some (content.Solid material))
filled_solid materials (Some (content.Solid material)) lambda same = (material, refl)
filled_solid materials (Some (content.Air environment rs)) lambda same = absurd (cc same)
filled_solid materials None lambda same = absurd (cc same)

-- one cell more is told
pub told_next : (m : Mesh) (n : Counts) (flags more : List Bool) (k : ℕ) (b : Bool) → TellSolids m n flags k →
    (b ≡ true) ↔ IsSolid m (cell_place n k) → more ≡ flags ++ b ∷ [] → TellSolids m n more (k + 1)
told_next m n flags more k b told here is = record {
  long = ap length is ∙ length-append flags (b ∷ []) ∙ ap (λ (l : ℕ). l + 1) told.long;
  each = λ c below. subst (λ (all : List Bool). (flag all c ≡ true) ↔ IsSolid m (cell_place n c)) (sym is) (⊎_elim
      (λ (same : c ≡ k). subst (λ (x : ℕ). (flag (flags ++ b ∷ []) x ≡ true) ↔ IsSolid m (cell_place n x)) (sym same)
      (subst (λ (x : Bool). (x ≡ true) ↔ IsSolid m (cell_place n k)) (sym (at_end flags k b told.long)) here))
      (λ (other : c ≢ k). subst (λ (x : Bool). (x ≡ true) ↔ IsSolid m (cell_place n c))
      (sym (get_or-append flags (b ∷ []) false c (before flags c k told.long below other))) (told.each c (omega arith)))
      (cases_eq c k));
}
  where
    at_end : (flags : List Bool) (k : ℕ) (b : Bool) → length flags ≡ k → flag (flags ++ b ∷ []) k ≡ b
    at_end flags k b long = subst (λ (x : ℕ). flag (flags ++ b ∷ []) x ≡ b) long (get_or-append_seam flags b [] false)

    before : (flags : List Bool) (c k : ℕ) → length flags ≡ k → c < k + 1 → c ≢ k → c < length flags
    before flags c k long below other = omega arith

counts_along : (d : Detail) (g : Axes) (a : AxisName) → counts_of g a ≡ (mesh_on d g).cells a
counts_along d g X = refl
counts_along d g Y = refl
counts_along d g Z = refl

-- flags of all cells mark the solid ones
pub told_all : (d : Detail) (g : Axes) (flags : List Bool) (k : ℕ) → IsAccepted d → CarriesBody g d → k ≡ cell_count (counts_of g) →
    TellSolids (mesh_on d g) (counts_of g) flags k → MarkSolids (counts_of g) (mesh_on d g) flags
told_all d g flags k accepted carries all told = record {
  counts = counts_along d g;
  filled = is_filled d g accepted carries;
  marked = λ p cell.
      let below = cell_number_below (counts_of g) p cell in
      let here = told.each (cell_number (counts_of g) p) (omega arith) in
      subst (λ (q : Place). (flag_at (counts_of g) flags p ≡ true) ↔ IsSolid (mesh_on d g) q) (cell_place_of_number (counts_of g) p cell) here;
}

-- the counts of a grid, as a program reads them, are those of the mesh
pub counts_read : (d : Detail) (g : Axes) (x y z : ℕ) → x ≡ interval_count g.x → y ≡ interval_count g.y → z ≡ interval_count g.z →
    by_axis x y z ≡ (mesh_on d g).cells
counts_read d g x y z on_x on_y on_z = same_by_axis (mesh_on d g).cells x y z on_x on_y on_z

pub mesh_counts : (d : Detail) (g : Axes) → counts_of g ≡ (mesh_on d g).cells
mesh_counts d g = counts_read d g (interval_count g.x) (interval_count g.y) (interval_count g.z) refl refl refl

pub marks_read : (d : Detail) (g : Axes) (flags slice : List Bool) → slice ≡ flags → MarkSolids (counts_of g) (mesh_on d g) flags →
    MarkSolids (mesh_on d g).cells (mesh_on d g) slice
marks_read d g flags slice same marks =
    subst (λ (all : List Bool). MarkSolids (mesh_on d g).cells (mesh_on d g) all) (sym same)
    (subst (λ (n : Counts). MarkSolids n (mesh_on d g) flags) (mesh_counts d g) marks)
