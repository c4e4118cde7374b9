-- Where the search is done, the marks of the solid cells of a mesh are their distances.
use Rattle.std.proofs.Common.{◌≡◌, inl, inr, ℕ, ◌-◌, ◌<◌, List, length, Bool, arith, sym, ap, subst, ◌∙◌}
use Rattle.tb_places.specs.declared.Place.{Place}
use Rattle.tb_places.specs.Inverse.{cell_place}
use Rattle.tb_places.specs.Places.{face_count}
use Rattle.tb_places.proofs.Cells.{cell_number_of_place, cell_place_of_number, cell_place_within}
use Rattle.tb_grid.specs.declared.ids.CellId.{CellId}
use Rattle.tb_model.specs.Mesh.{Mesh}
use Rattle.tb_walk.specs.Isolated.{HasSurface, IsSolidCell, IsSurface, MarkSolids, NoneIsolated}
use Rattle.tb_walk.specs.Spreading.{flag}
use Rattle.tb_outlets.specs.declared.side.Side.{Side}
use Rattle.tb_outlets.specs.declared.side.Side.TheVariants.{Low, High}
use Rattle.tb_outlets.specs.declared.marks.Mark.{Mark}
use Rattle.tb_outlets.specs.Sides.{kind_on, number_on}
use Rattle.tb_outlets.specs.Outlets.{AreDistances, IsDistance, IsRoot, IsWay}
use Rattle.tb_outlets.specs.Searching.{distance_at}
use Rattle.tb_outlets.proofs.Sides.{number_below}
use Rattle.tb_outlets.proofs.SurfaceSides.{opening_is_surface, surface_is_opening}
use Rattle.tb_outlets.proofs.Ways.{AreFlags, HasWay, IsAlong, IsDone, along_way, exit_in_set, found_back, number_of, way_to_root}

solid_flags : (m : Mesh) (flags : List Bool) → MarkSolids m.cells m flags → AreFlags m.cells flags (IsSolidCell m)
solid_flags m flags marks = record {
  cell = λ p here. here.0;
  set = λ p here. (marks.marked p here.0).1 here.1;
  back = λ c below set.
      let within = cell_place_within m.cells c below in
      (within, (marks.marked (cell_place m.cells c) within).0 (ap (flag flags) (cell_number_of_place m.cells c) ∙ set));
}

-- a surface of a cell is on one of its sides
surface_on_side : (m : Mesh) (p : Place) → HasSurface m p → (s : Side) × IsSurface (kind_on m s p)
surface_on_side m p (a, inl surface) = (Low a, surface)
surface_on_side m p (a, inr surface) = (High a, surface)

-- each solid cell is found
pub all_found : (m : Mesh) (flags : List Bool) (marks : List Mark) (order : List CellId) → MarkSolids m.cells m flags → NoneIsolated m →
    IsDone m.cells flags (face_count m.cells) marks order → (p : Place) → IsSolidCell m p → 0 < distance_at marks (number_of m.cells p)
all_found m flags marks order mark reach done p solid =
    let inside = solid_flags m flags mark in
    let n = m.cells in
    let way = reach p solid in
    let q = way.exit in
    let there : IsSolidCell m q = exit_in_set (IsSolidCell m) p way.path q solid way.leads in
    let c = number_of n q in
    let at : cell_place n c ≡ q = cell_place_of_number n q there.0 in
    let surface = surface_on_side m q way.is_open in
    let solid_c : IsSolidCell m (cell_place n c) = subst (IsSolidCell m) (sym at) there in
    let opening = surface_is_opening m flags mark c surface.0 solid_c (subst (λ (r : Place). IsSurface (kind_on m surface.0 r)) (sym at) surface.1) in
    found_back n flags (face_count n) marks order (IsSolidCell m) done inside way.path p q solid way.leads
    (done.begun c surface.0 (inside.set q there) opening (number_below n (cell_place n c) surface.0 solid_c.0))

-- along a way between solid cells
along : (m : Mesh) (flags : List Bool) (marks : List Mark) (order : List CellId) → MarkSolids m.cells m flags →
    IsDone m.cells flags (face_count m.cells) marks order → (c : ℕ) → 0 < distance_at marks c → IsSolidCell m (cell_place m.cells c) →
    (q : Place) (way : List Place) → IsWay m (cell_place m.cells c) way q → IsAlong marks c (number_of m.cells q) (length way)
along m flags marks order mark done c found solid q way leads =
    subst (λ (x : ℕ). IsAlong marks x (number_of m.cells q) (length way)) (cell_number_of_place m.cells c)
    (along_way m.cells flags (face_count m.cells) marks order (IsSolidCell m) done (solid_flags m flags mark) way (cell_place m.cells c) q solid
    (subst (λ (x : ℕ). 0 < distance_at marks x) (sym (cell_number_of_place m.cells c)) found) leads)

pub root_of : (m : Mesh) (flags : List Bool) (marks : List Mark) (order : List CellId) → MarkSolids m.cells m flags →
    IsDone m.cells flags (face_count m.cells) marks order → (c : ℕ) → 0 < distance_at marks c → IsSolidCell m (cell_place m.cells c) →
    (way : HasWay m.cells flags marks (IsSolidCell m) c) → IsRoot m (cell_place m.cells c) (cell_place m.cells way.end) way.root.side
root_of m flags marks order mark done c found solid way =
    let n = m.cells in
    let there : IsSolidCell m (cell_place n way.end) = exit_in_set (IsSolidCell m) (cell_place n c) way.way (cell_place n way.end) solid way.leads in
    record {
      solid = there;
      linked = (way.way, way.leads);
      surface = opening_is_surface m flags mark way.end way.root.side there way.root.opening;
      least = λ q s solid_q linked surface.
          let d = number_of n q in
          let at : cell_place n d ≡ q = cell_place_of_number n q solid_q.0 in
          let on = along m flags marks order mark done c found solid q linked.0 linked.1 in
          let opening = surface_is_opening m flags mark d s (subst (IsSolidCell m) (sym at) solid_q) (subst (λ (r : Place). IsSurface (kind_on m s r)) (sym at) surface) in
          let low = done.least d s on.found opening in
          let face = ap (λ (r : Place). number_on n s r) at in
          let root = way.root.root in
          let same = way.same_root in
          let same_there = on.same_root in
          omega arith;
    }

distance_of : (m : Mesh) (flags : List Bool) (marks : List Mark) (order : List CellId) → MarkSolids m.cells m flags →
    IsDone m.cells flags (face_count m.cells) marks order → (c : ℕ) → 0 < distance_at marks c → IsSolidCell m (cell_place m.cells c) →
    HasWay m.cells flags marks (IsSolidCell m) c → IsDistance m (cell_place m.cells c) (distance_at marks c)
distance_of m flags marks order mark done c found solid way =
    let end = cell_place m.cells way.end in
    record {
      solid = solid;
      cell = end;
      side = way.root.side;
      root = root_of m flags marks order mark done c found solid way;
      way = way.way;
      leads = way.leads;
      long = way.long;
      least = λ other leads.
          let on = along m flags marks order mark done c found solid end other leads in
          let close = on.close in
          let same = ap (distance_at marks) (cell_number_of_place m.cells way.end) in
          let first = way.root.first in
          omega arith;
    }

pub are_distances : (m : Mesh) (flags : List Bool) (marks : List Mark) (order : List CellId) → MarkSolids m.cells m flags → NoneIsolated m →
    IsDone m.cells flags (face_count m.cells) marks order → AreDistances m (distance_at marks)
are_distances m flags marks order mark reach done c here =
    let found : 0 < distance_at marks c = subst (λ (x : ℕ). 0 < distance_at marks x) (cell_number_of_place m.cells c)
    (all_found m flags marks order mark reach done (cell_place m.cells c) here.1) in
    distance_of m flags marks order mark done c found here.1
    (way_to_root m.cells flags (face_count m.cells) marks order (IsSolidCell m) done (solid_flags m flags mark) (distance_at marks c - 1) c (omega arith))
