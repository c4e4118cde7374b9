-- Where cycles enter.
use Rattle.std.proofs.Common.{◌≡◌, ◌≢◌, inl, ℕ, List, Bool, sym, ap, subst, ◌∙◌, ⊎_elim}
use Rattle.tb_places.specs.Inverse.{cell_place}
use Rattle.tb_places.proofs.Cells.{cell_number_of_place, cell_place_within}
use Rattle.tb_model.specs.Mesh.{Mesh}
use Rattle.tb_walk.specs.Isolated.{IsSurface, MarkSolids}
use Rattle.tb_walk.specs.Spreading.{flag}
use Rattle.tb_outlets.specs.declared.side.Side.{Side}
use Rattle.tb_outlets.specs.Outlets.{AreOutlets, IsFirstNearer, IsRoot, IsSolidAt}
use Rattle.tb_outlets.specs.Searching.{IsOpening}
use Rattle.tb_outlets.specs.Sides.{kind_on}
use Rattle.tb_outlets.proofs.MeshCycles.{on_one}
use Rattle.tb_outlets.proofs.OneOutlet.{one_outlet}
use Rattle.tb_outlets.proofs.Sides.{faces_apart}
use Rattle.tb_outlets.proofs.SurfaceSides.{opening_is_surface, surface_is_opening}
use Rattle.tb_outlets.proofs.Trees.{no_surface_between}
use Rattle.tb_cycles.specs.Entries.{HasCycle, IsEntry}

-- the flag of a cell tells whether it is solid
solid_marked : (m : Mesh) (flags : List Bool) (f c : ℕ) (s : Side) → MarkSolids m.cells m flags → IsOpening m.cells flags f c s → IsSolidAt m c
solid_marked m flags f c s marks is =
    let cell = cell_place_within m.cells c is.cell in
    (is.cell, (cell, (marks.marked (cell_place m.cells c) cell).0 (ap (flag flags) (cell_number_of_place m.cells c) ∙ is.in_set)))

pub entry_of : (m : Mesh) (flags : List Bool) (outlet : ℕ → Side) (f c : ℕ) (s : Side) → MarkSolids m.cells m flags → AreOutlets m outlet →
    IsOpening m.cells flags f c s → outlet c ≢ s → IsEntry m f c s
entry_of m flags outlet f c s marks outlets is other =
    let solid = solid_marked m flags f c s marks is in
    record {
      solid = solid;
      at = is.face;
      surface = opening_is_surface m flags marks c s solid.1 is.opening;
      no_root = λ root. other (sym (one_outlet m (cell_place m.cells c) s (outlet c) solid.1 (inl root) (outlets c solid)));
    }

-- the root has no cycle
pub root_has_none : (m : Mesh) (outlet : ℕ → Side) (f c : ℕ) (s : Side) → AreOutlets m outlet → outlet c ≡ s → ¬ IsEntry m f c s
root_has_none m outlet f c s outlets same entry = ⊎_elim
    (λ (root : IsRoot m (cell_place m.cells c) (cell_place m.cells c) (outlet c)).
    absurd (entry.no_root (subst (λ (t : Side). IsRoot m (cell_place m.cells c) (cell_place m.cells c) t) same root)))
    (λ (is : IsFirstNearer m (cell_place m.cells c) (outlet c)).
    absurd (no_surface_between m (outlet c) (cell_place m.cells c) is.leads.next is.leads.beyond entry.solid.1 is.leads.solid
    (subst (λ (t : Side). IsSurface (kind_on m t (cell_place m.cells c))) (sym same) entry.surface)))
    (outlets c entry.solid)

pub outlet_has_none : (m : Mesh) (flags : List Bool) (outlet : ℕ → Side) (f c : ℕ) (s : Side) → MarkSolids m.cells m flags → AreOutlets m outlet →
    IsOpening m.cells flags f c s → outlet c ≡ s → ¬ HasCycle m f
outlet_has_none m flags outlet f c s marks outlets is same has =
    let here = solid_marked m flags f c s marks is in
    let there = has.entry in
    let surface = opening_is_surface m flags marks c s here.1 is.opening in
    let one : has.cell ≡ c = on_one m c has.cell has.side s here there.solid surface (there.at ∙ sym is.face) in
    let entry : IsEntry m f c has.side = subst (λ (d : ℕ). IsEntry m f d has.side) one there in
    let side : has.side ≡ s = faces_apart m.cells (cell_place m.cells c) has.side s here.1.0 (entry.at ∙ sym is.face) in
    root_has_none m outlet f c s outlets same (subst (λ (t : Side). IsEntry m f c t) side entry)

pub none_has_none : (m : Mesh) (flags : List Bool) (f : ℕ) → MarkSolids m.cells m flags → ((c : ℕ) (s : Side) → ¬ IsOpening m.cells flags f c s) → ¬ HasCycle m f
none_has_none m flags f marks none has =
    let entry = has.entry in
    none has.cell has.side (record {
      cell = entry.solid.0;
      in_set = sym (ap (flag flags) (cell_number_of_place m.cells has.cell)) ∙ (marks.marked (cell_place m.cells has.cell) entry.solid.1.0).1 entry.solid.1.1;
      opening = surface_is_opening m flags marks has.cell has.side entry.solid.1 entry.surface;
      face = entry.at;
    })
