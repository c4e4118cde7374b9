-- In an accepted body there is air, and so no solid cell of any grid that carries it is isolated.
use Rattle.std.proofs.Common.{◌≡◌, ℕ, ◌<◌, List, length, get_or, Some, inl, inr, sym, ap, subst, ◌∙◌, arith}
use Rattle.std.specs.List.{Contains}
use Rattle.std.specs.Prelude.{Option}
use Rattle.std.specs.Option.{option_map}
use Rattle.tb_places.specs.declared.AxisName.{AxisName}
use Rattle.tb_places.specs.declared.AxisName.TheVariants.{X, Y, Z}
use Rattle.tb_places.specs.declared.Place.{Place}
use Rattle.tb_places.specs.Places.{IsCell, place_at}
use Rattle.tb_detail.specs.declared.Content.TheVariants.{Air}
use Rattle.tb_detail.specs.declared.Detail.{Detail}
use Rattle.tb_detail.specs.declared.SpaceBox.{SpaceBox}
use Rattle.tb_detail.specs.Limits.{InLimits}
use Rattle.tb_grid.specs.Axis.{interval_count}
use Rattle.tb_grid.specs.Grid.{Axes, lines_of}
use Rattle.tb_grid.proofs.RisingLists.{before_from, line_of_member}
use Rattle.tb_model.specs.Refinement.{high, low}
use Rattle.tb_walk.specs.Isolated.{HasSurface, IsFilled, IsSolidCell, NoneIsolated}
use Rattle.tb_walk.proofs.Sets.{exit_in_set}
use Rattle.tb_walk.proofs.Together.{none_isolated}
use Rattle.tb_outlets.specs.declared.side.Side.TheVariants.{Low, High}
use Rattle.tb_outlets.proofs.SurfaceSides.{beyond_surface}
use Rattle.tb_geometry.specs.Base.{IsBaseCell, base_mesh}
use Rattle.tb_geometry.specs.Bodies.{AreBoxes, IsProper}
use Rattle.tb_geometry.specs.Cubes.{HoldsCube, IsInHull, IsInHullOn, ReachesOver}
use Rattle.tb_geometry.specs.Faults.{IsAccepted}
use Rattle.tb_geometry.specs.Grids.{CarriesBody, mesh_on}
use Rattle.tb_geometry.proofs.Covers.{base_cell_of_cube, hull_cell}
use Rattle.tb_geometry.proofs.Finer.{carried_has_lines}
use Rattle.tb_geometry.proofs.Middles.{HoldsLowCorner, found_box}
use Rattle.tb_geometry.proofs.Occupants.{cell_filled, occupant_holds}
use Rattle.tb_geometry.proofs.Steps.{boxes_in_limits}
use Rattle.tb_geometry.proofs.Whole.{cell_in_box}

-- ---- a solid base cell, and the air beside its part

proper_member : (boxes : List SpaceBox) (b : SpaceBox) → AreBoxes boxes → Contains boxes b → IsProper b
proper_member boxes b are (n, within, at) = subst IsProper at (are.proper n b within)

-- the cube at the low corner of a box is in the hull, and in the box
low_in_hull : (a : AxisName) (boxes : List SpaceBox) (b : SpaceBox) → AreBoxes boxes → Contains boxes b → IsInHullOn a boxes (low a b)
low_in_hull a boxes b are (n, within, at) =
    let proper = proper_member boxes b are (n, within, at) a in
    record { from = (n, b, within, at, omega arith); below = (n, b, within, at, proper) }

low_reached : (a : AxisName) (boxes : List SpaceBox) (b : SpaceBox) → AreBoxes boxes → Contains boxes b → ReachesOver a b (low a b)
low_reached a boxes b are there = record { from = omega arith; below = proper_member boxes b are there a }

record HasSolidCell (d : Detail) : Type 0 where
  cell : Place
  solid : IsSolidCell (base_mesh d) cell

solid_cell : (d : Detail) → AreBoxes d.boxes → IsAccepted d → HasSolidCell d
solid_cell d are accepted =
    let (n, b, within, at, solid) = accepted.solid in
    let there : Contains d.boxes b = (n, within, at) in
    let hull : IsInHull d.boxes (low X b) (low Y b) (low Z b) = record {
      on_x = low_in_hull X d.boxes b are there;
      on_y = low_in_hull Y d.boxes b are there;
      on_z = low_in_hull Z d.boxes b are there;
    } in
    let holds : HoldsCube b (low X b) (low Y b) (low Z b) = record {
      on_x = low_reached X d.boxes b are there;
      on_y = low_reached Y d.boxes b are there;
      on_z = low_reached Z d.boxes b are there;
    } in
    let (p, has) = hull_cell d.boxes (low X b) (low Y b) (low Z b) hull in
    record {
      cell = p;
      solid = (
        base_cell_of_cube d.boxes p (low X b) (low Y b) (low Z b) has,
        record { material = solid.material; fills = occupant_holds d b p (low X b) (low Y b) (low Z b) accepted.apart there has holds ∙ ap Some solid.fills },
      );
    }

-- a box filled with air
record HasAirBox (d : Detail) : Type 0 where
  box : SpaceBox
  there : Contains d.boxes box
  environment : ℕ
  rs : ℕ
  air : box.content ≡ Air environment rs

box_of_air : (d : Detail) (q : Place) (environment rs : ℕ) → AreBoxes d.boxes → IsAccepted d → IsBaseCell d.boxes q →
    (base_mesh d).occupant q.i q.j q.k ≡ Some (Air environment rs) → HasAirBox d
box_of_air d q environment rs are accepted cell air =
    let filled = cell_filled d q are accepted.apart accepted.covered cell in
    let fills = filled.fills in
    record { box = filled.box; there = filled.there; environment = environment; rs = rs; air = cc (fills, air) }

air_beside : (d : Detail) (p : Place) → AreBoxes d.boxes → IsAccepted d → IsSolidCell (base_mesh d) p → HasSurface (base_mesh d) p → HasAirBox d
air_beside d p are accepted solid (a, inl surface) =
    let found = beyond_surface (base_mesh d) (Low a) p solid surface in
    box_of_air d found.next found.air.environment found.air.resistance are accepted found.cell found.air.fills
air_beside d p are accepted solid (a, inr surface) =
    let found = beyond_surface (base_mesh d) (High a) p solid surface in
    box_of_air d found.next found.air.environment found.air.resistance are accepted found.cell found.air.fills

air_box : (d : Detail) → AreBoxes d.boxes → IsAccepted d → HasAirBox d
air_box d are accepted =
    let first = solid_cell d are accepted in
    let way = accepted.linked first.cell first.solid in
    air_beside d way.exit are accepted
    (exit_in_set (IsSolidCell (base_mesh d)) first.cell way.path way.exit first.solid way.leads) way.is_open

-- ---- a cell of a grid at the low corner of a box

record BeginsAt (g : Axes) (a : AxisName) (b : SpaceBox) : Type 0 where
  index : ℕ
  cell : index < interval_count (lines_of g a)
  reached : ReachesOver a b (get_or (lines_of g a) index 0)

begins : (d : Detail) (g : Axes) (a : AxisName) (b : SpaceBox) → AreBoxes d.boxes → CarriesBody g d → Contains d.boxes b → BeginsAt g a b
begins d g a b are carries there =
    let has = carried_has_lines d g carries in
    let (i, at) = line_of_member (lines_of g a) (low a b) (has.lows a b there) in
    let (j, end) = line_of_member (lines_of g a) (high a b) (has.highs a b there) in
    let proper : low a b < high a b = proper_member d.boxes b are there a in
    let low_line : get_or (lines_of g a) i 0 ≡ low a b = at.stands in
    let high_line : get_or (lines_of g a) j 0 ≡ high a b = end.stands in
    let inside : i < length (lines_of g a) = at.within in
    let last : j < length (lines_of g a) = end.within in
    let order : i < j = before_from (lines_of g a) (has.rising a) i j inside (omega arith) in
    record { index = i; cell = omega arith; reached = record { from = omega arith; below = omega arith } }

pub record HasAirCell (d : Detail) (g : Axes) : Type 0 where
  pub cell : Place
  pub in_grid : IsCell (mesh_on d g).cells cell
  pub environment : ℕ
  pub rs : ℕ
  pub air : (mesh_on d g).occupant cell.i cell.j cell.k ≡ Some (Air environment rs)

pub air_cell : (d : Detail) (g : Axes) → AreBoxes d.boxes → IsAccepted d → CarriesBody g d → HasAirCell d g
air_cell d g are accepted carries =
    let found = air_box d are accepted in
    let b = found.box in
    let (n, within, at) = found.there in
    let x = begins d g X b are carries found.there in
    let y = begins d g Y b are carries found.there in
    let z = begins d g Z b are carries found.there in
    let p : Place = place_at x.index y.index z.index in
    let cell : IsCell (mesh_on d g).cells p = (x.cell, y.cell, z.cell) in
    let holds : HoldsLowCorner (lines_of g) p b = record { on_x = x.reached; on_y = y.reached; on_z = z.reached } in
    let box = found_box d.boxes (lines_of g) (carried_has_lines d g carries) accepted.apart p cell n b within
    (subst (HoldsLowCorner (lines_of g) p) (sym at) holds) in
    record {
      cell = p;
      in_grid = cell;
      environment = found.environment;
      rs = found.rs;
      air = ap (λ (box : Option SpaceBox). option_map (λ c. c.content) box) box ∙ ap (λ (box : SpaceBox). Some box.content) at ∙ ap Some found.air;
    }

-- ---- all solid cells

pub is_filled : (d : Detail) (g : Axes) → IsAccepted d → CarriesBody g d → IsFilled (mesh_on d g)
is_filled d g accepted carries p cell none =
    let fills = (cell_in_box d g p accepted.apart accepted.covered carries cell).fills in
    absurd (cc (fills, none))

pub none_isolated_on : (d : Detail) (g : Axes) → InLimits d → IsAccepted d → CarriesBody g d → NoneIsolated (mesh_on d g)
none_isolated_on d g limits accepted carries =
    let air = air_cell d g (boxes_in_limits d limits) accepted carries in
    none_isolated (mesh_on d g) air.cell air.environment air.rs (is_filled d g accepted carries) air.in_grid air.air
