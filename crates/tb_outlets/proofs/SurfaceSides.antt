-- A side of a solid cell is a Surface just where air lies beyond it.
use Rattle.std.proofs.Common.{◌≡◌, ℕ, List, Bool, true, arith, refl, sym, ap, subst, ◌∙◌}
use Rattle.std.proofs.lemmas.Bool.{false_from_ne_true, false≢true}
use Rattle.tb_places.specs.declared.AxisName.TheVariants.{X, Y, Z}
use Rattle.tb_places.specs.declared.Place.{Place}
use Rattle.tb_places.specs.Inverse.{cell_place}
use Rattle.tb_places.specs.Places.{IsCell, cell_number, place_at}
use Rattle.tb_places.proofs.Cells.{cell_number_below, cell_number_of_place, cell_place_of_number, cell_place_within}
use Rattle.tb_places.proofs.Rows.{same_place}
use Rattle.tb_places.specs.Along.{ahead}
use Rattle.tb_model.specs.Mesh.{Mesh}
use Rattle.tb_walk.specs.Isolated.{IsSolidCell, IsSurface, MarkSolids}
use Rattle.tb_model.specs.Mesh.{kind_at}
use Rattle.tb_walk.specs.Spreading.{flag}
use Rattle.tb_walk.proofs.Meshes.{IsAir, air_or_solid, high_air, is_of_solid, kind_between_next, low_air, not_solid, surface_above, surface_below}
use Rattle.tb_outlets.specs.declared.side.Side.{Side}
use Rattle.tb_outlets.specs.declared.side.Side.TheVariants.{Low, High}
use Rattle.tb_outlets.specs.Searching.{HasOpeningAt}
use Rattle.tb_outlets.specs.Sides.{IsBeyond, kind_on}

pub surface_side : (m : Mesh) (s : Side) (p q : Place) → IsBeyond s p q → IsSolidCell m p → IsCell m.cells q →
    IsAir (m.occupant q.i q.j q.k) → IsSurface (kind_on m s p)
surface_side m (High a) p q beyond solid cell air =
    let cell' = subst (IsCell m.cells) (sym beyond) cell in
    let air' = subst (λ (r : Place). IsAir (m.occupant r.i r.j r.k)) (sym beyond) air in
    subst IsSurface (sym (kind_between_next m a p cell')) (surface_above _ _ (is_of_solid m p solid.1) air')
surface_side m (Low a) p q beyond solid cell air =
    let solid' = subst (IsSolidCell m) (sym beyond) solid in
    subst (λ (r : Place). IsSurface (kind_at m a r)) beyond
    (subst IsSurface (sym (kind_between_next m a q solid'.0)) (surface_below _ _ air (is_of_solid m (ahead a 1 q) solid'.1)))

-- what lies beyond a Surface
pub record HasAirAt (m : Mesh) (s : Side) (p : Place) : Type 0 where
  pub next : Place
  pub beyond : IsBeyond s p next
  pub cell : IsCell m.cells next
  pub air : IsAir (m.occupant next.i next.j next.k)

pub beyond_surface : (m : Mesh) (s : Side) (p : Place) → IsSolidCell m p → IsSurface (kind_on m s p) → HasAirAt m s p
beyond_surface m (High X) p solid surface =
    let found = high_air (m.cells X) p.i (λ n. m.occupant n p.j p.k) (is_of_solid m p solid.1) surface in
    record { next = ahead X 1 p; beyond = refl; cell = (found.within, solid.0.1, solid.0.2); air = found.air }
beyond_surface m (High Y) p solid surface =
    let found = high_air (m.cells Y) p.j (λ n. m.occupant p.i n p.k) (is_of_solid m p solid.1) surface in
    record { next = ahead Y 1 p; beyond = refl; cell = (solid.0.0, found.within, solid.0.2); air = found.air }
beyond_surface m (High Z) p solid surface =
    let found = high_air (m.cells Z) p.k (λ n. m.occupant p.i p.j n) (is_of_solid m p solid.1) surface in
    record { next = ahead Z 1 p; beyond = refl; cell = (solid.0.0, solid.0.1, found.within); air = found.air }
beyond_surface m (Low X) p solid surface =
    let found = low_air (m.cells X) p.i (λ n. m.occupant n p.j p.k) solid.0.0 (is_of_solid m p solid.1) surface in
    let q : Place = place_at found.index p.j p.k in
    record { next = q; beyond = same_place (ahead X 1 q) p found.is refl refl; cell = (omega arith, solid.0.1, solid.0.2); air = found.air }
beyond_surface m (Low Y) p solid surface =
    let found = low_air (m.cells Y) p.j (λ n. m.occupant p.i n p.k) solid.0.1 (is_of_solid m p solid.1) surface in
    let q : Place = place_at p.i found.index p.k in
    record { next = q; beyond = same_place (ahead Y 1 q) p refl found.is refl; cell = (solid.0.0, omega arith, solid.0.2); air = found.air }
beyond_surface m (Low Z) p solid surface =
    let found = low_air (m.cells Z) p.k (λ n. m.occupant p.i p.j n) solid.0.2 (is_of_solid m p solid.1) surface in
    let q : Place = place_at p.i p.j found.index in
    record { next = q; beyond = same_place (ahead Z 1 q) p refl refl found.is; cell = (solid.0.0, solid.0.1, omega arith); air = found.air }

-- ---- flags that mark the solid cells

solid_flag : (m : Mesh) (flags : List Bool) → MarkSolids m.cells m flags → (p : Place) → IsSolidCell m p → flag flags (cell_number m.cells p) ≡ true
solid_flag m flags marks p solid = (marks.marked p solid.0).1 solid.1

pub opening_is_surface : (m : Mesh) (flags : List Bool) → MarkSolids m.cells m flags → (c : ℕ) (s : Side) → IsSolidCell m (cell_place m.cells c) →
    HasOpeningAt m.cells flags c s → IsSurface (kind_on m s (cell_place m.cells c))
opening_is_surface m flags marks c s solid opening =
    let q = cell_place m.cells opening.next in
    let cell = cell_place_within m.cells opening.next opening.in_grid in
    surface_side m s (cell_place m.cells c) q opening.beyond solid cell
    (air_or_solid _ (marks.filled q cell) (λ other. false≢true (sym opening.unmarked ∙ sym (ap (flag flags) (cell_number_of_place m.cells opening.next))
    ∙ (marks.marked q cell).1 (record { material = other.material; fills = other.fills }))))

pub surface_is_opening : (m : Mesh) (flags : List Bool) → MarkSolids m.cells m flags → (c : ℕ) (s : Side) → IsSolidCell m (cell_place m.cells c) →
    IsSurface (kind_on m s (cell_place m.cells c)) → HasOpeningAt m.cells flags c s
surface_is_opening m flags marks c s solid surface =
    let found = beyond_surface m s (cell_place m.cells c) solid surface in
    let q = found.next in
    record {
      next = cell_number m.cells q;
      in_grid = cell_number_below m.cells q found.cell;
      beyond = subst (IsBeyond s (cell_place m.cells c)) (sym (cell_place_of_number m.cells q found.cell)) found.beyond;
      unmarked = false_from_ne_true _ (λ set. let solid_there = (marks.marked q found.cell).0 set in
          not_solid _ found.air (record { material = solid_there.material; fills = solid_there.fills }));
    }
