-- What an outlet tree keeps.
use Rattle.std.proofs.Common.{◌≡◌, ℕ, ◌<◌, ◌∙◌, List, Bool, length, sym, ap, subst, arith}
use Rattle.tb_places.specs.Places.{Counts, by_axis, cell_count, face_count}
use Rattle.tb_places.proofs.ByAxis.{same_by_axis}
use Rattle.tb_detail.specs.declared.Detail.{Detail}
use Rattle.tb_grid.specs.Axis.{interval_count}
use Rattle.tb_grid.specs.Grid.{Axes, counts_of}
use Rattle.tb_grid.specs.declared.ids.CellId.{CellId}
use Rattle.tb_outlets.specs.declared.marks.Mark.{Mark}
use Rattle.tb_outlets.specs.declared.side.Side.{Side}
use Rattle.tb_outlets.specs.Repair.{MarkCarrying}
use Rattle.tb_outlets.specs.Trees.{IsTreeOn}
use Rattle.tb_cycles.specs.Ways.{LeadOut, LeadOutOn}
use Rattle.tb_cycles.specs.Entries.{IsEntry}
use Rattle.tb_outlets.specs.Searching.{distance_at}
use Rattle.tb_trees.specs.Bodies.{BodyOnGrid, KeepsTree, mesh_of}
use Rattle.tb_trees.proofs.Filled.{mesh_counts}

pub kept_read : (d e : Detail) (g h : Axes) (x y z : ℕ) (marks : List Mark) (sides : List Side) (order : List CellId) (passable solid : List Bool) →
    d ≡ e → g ≡ h → x ≡ interval_count h.x → y ≡ interval_count h.y → z ≡ interval_count h.z →
    KeepsTree (record { body = e; grid = h }) (counts_of h) marks sides order passable solid →
    KeepsTree (record { body = d; grid = g }) (by_axis x y z) marks sides order passable solid
kept_read d e g h x y z marks sides order passable solid body grid on_x on_y on_z keeps =
    subst (λ (b : Detail). KeepsTree (record { body = b; grid = g }) (by_axis x y z) marks sides order passable solid) (sym body)
    (subst (λ (a : Axes). KeepsTree (record { body = e; grid = a }) (by_axis x y z) marks sides order passable solid) (sym grid)
    (subst (λ (n : Counts). KeepsTree (record { body = e; grid = h }) n marks sides order passable solid)
    (sym (same_by_axis (counts_of h) x y z on_x on_y on_z)) keeps))

-- the counts that are kept are those of the mesh
pub kept_counts : (b : BodyOnGrid) (n : Counts) (marks : List Mark) (sides : List Side) (order : List CellId) (passable solid : List Bool) →
    KeepsTree b n marks sides order passable solid → n ≡ (mesh_of b).cells
kept_counts b n marks sides order passable solid keeps = keeps.counts ∙ mesh_counts b.body b.grid

module _ (b : BodyOnGrid) (n : Counts) (marks : List Mark) (sides : List Side) (order : List CellId) (passable solid : List Bool)
    (keeps : KeepsTree b n marks sides order passable solid) where
  pub cell_kept : (c : ℕ) → c < cell_count (counts_of b.grid) → c < cell_count n
  cell_kept c below = subst (λ (k : Counts). c < cell_count k) (sym keeps.counts) below

  pub marks_kept : length marks ≡ cell_count n
  marks_kept = keeps.tree.marked ∙ sym (ap (λ (k : Counts). cell_count k) (kept_counts b n marks sides order passable solid keeps))

  pub sides_kept : length sides ≡ cell_count n
  sides_kept = keeps.tree.count ∙ sym (ap (λ (k : Counts). cell_count k) (kept_counts b n marks sides order passable solid keeps))

  pub faces_kept : (long : ℕ) → long ≡ face_count (counts_of b.grid) → long ≡ face_count n
  faces_kept long is = is ∙ sym (ap (λ (k : Counts). face_count k) keeps.counts)

  pub passable_kept : (slice : List Bool) → slice ≡ passable → length slice ≡ face_count n
  passable_kept slice same = ap length same ∙ keeps.passes.count ∙ sym (ap (λ (k : Counts). face_count k) (kept_counts b n marks sides order passable solid keeps))

  pub tree_kept : IsTreeOn n marks sides order
  tree_kept = record { mesh = mesh_of b; counts = kept_counts b n marks sides order passable solid keeps; tree = keeps.tree }

  pub slice_passes : (slice : List Bool) → slice ≡ passable → MarkCarrying (mesh_of b) slice
  slice_passes slice same = subst (λ (flags : List Bool). MarkCarrying (mesh_of b) flags) (sym same) keeps.passes

-- the lists lead out
pub leads_out : (b : BodyOnGrid) (n : Counts) (marks : List Mark) (sides : List Side) (order : List CellId) (passable solid : List Bool) →
    KeepsTree b n marks sides order passable solid → LeadOut (mesh_of b) marks sides
leads_out b n marks sides order passable solid keeps = record {
  count = keeps.tree.count;
  marked = keeps.tree.marked;
  distances = keeps.tree.distances;
  found = keeps.tree.found;
  near = keeps.tree.near;
  outlets = keeps.tree.outlets;
}

module _ (b : BodyOnGrid) (n : Counts) (marks : List Mark) (sides : List Side) (order : List CellId) (passable solid : List Bool)
    (keeps : KeepsTree b n marks sides order passable solid) where
  -- as slices
  pub leads_read : (read : List Mark) (told : List Side) → read ≡ marks → told ≡ sides → LeadOut (mesh_of b) read told
  leads_read read told first second =
      subst (λ (all : List Mark). LeadOut (mesh_of b) all told) (sym first)
      (subst (λ (all : List Side). LeadOut (mesh_of b) marks all) (sym second) (leads_out b n marks sides order passable solid keeps))

  pub leads_read_on : (read : List Mark) (told : List Side) → read ≡ marks → told ≡ sides → LeadOutOn n read told
  leads_read_on read told first second =
      record { mesh = mesh_of b; counts = kept_counts b n marks sides order passable solid keeps; leads = leads_read read told first second }

  -- the cell at which a cycle enters is found
  pub found_at_entry : (f c : ℕ) (s : Side) → IsEntry (mesh_of b) f c s → 0 < distance_at marks c
  found_at_entry f c s entry = let long = (keeps.tree.distances c entry.solid).long in omega arith
