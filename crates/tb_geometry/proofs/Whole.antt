-- Each cell of a grid that carries a body lies in one box. The base grid is such a grid.
use Rattle.std.proofs.Common.{◌≡◌, ℕ, suc, ◌*◌, ◌<◌, ◌≤◌, List, get_or, Option, Some, refl, sym, ap, subst, ◌∙◌, arith}
use Rattle.std.specs.List.{Contains}
use Rattle.std.specs.List.Sorted.{IsStrictlyIncreasing}
use Rattle.std.specs.Option.{option_map}
use Rattle.std.proofs.lemmas.List.Elements.{Contains-get_or}
use Rattle.tb_places.specs.declared.AxisName.{AxisName}
use Rattle.tb_places.specs.declared.AxisName.TheVariants.{X, Y, Z}
use Rattle.tb_places.specs.declared.Place.{Place}
use Rattle.tb_places.specs.Places.{IsCell}
use Rattle.tb_detail.specs.declared.Detail.{Detail}
use Rattle.tb_detail.specs.declared.SpaceBox.{SpaceBox}
use Rattle.tb_grid.specs.Axis.{IsIntervalOf, interval_count}
use Rattle.tb_places.specs.Along.{index_along}
use Rattle.tb_grid.specs.Grid.{Axes, counts_of, lines_of}
use Rattle.tb_model.specs.Refinement.{high, low}
use Rattle.tb_places.specs.Places.{by_axis}
use Rattle.tb_geometry.specs.Base.{base_axes, base_lines}
use Rattle.tb_geometry.specs.Bodies.{AreBoxes}
use Rattle.tb_geometry.specs.Cubes.{AreApart, HoldsCube, IsCovered, IsInHullOn, ReachesOver}
use Rattle.tb_geometry.specs.Grids.{CarriesBody, IsInBox, low_side}
use Rattle.tb_geometry.proofs.Carrying.{spans_along}
use Rattle.tb_geometry.proofs.Finer.{carried_has_lines}
use Rattle.tb_geometry.proofs.Hulls.{base_refines}
use Rattle.tb_grid.proofs.Intervals.{above_high_end}
use Rattle.tb_grid.proofs.RisingLists.{rises}
use Rattle.tb_geometry.proofs.Middles.{found_box}

-- ---- the low corner of a cell is in the hull
corner_in_hull : (d : Detail) (g : Axes) → CarriesBody g d → (a : AxisName) (i : ℕ) → i < interval_count (lines_of g a) →
    IsInHullOn a d.boxes (get_or (lines_of g a) i 0)
corner_in_hull d g carries a i within =
    let spans = spans_along d g carries a in
    let up : get_or (lines_of g a) i 0 < get_or (lines_of g a) (suc i) 0 =
    rises (lines_of g a) (carries.rising a) i (suc i) (omega arith) (omega arith) in
    let (n, b, inside, at, holds) = spans.to (get_or (lines_of g a) (suc i) 0) (Contains-get_or (lines_of g a) (suc i) 0 (omega arith)) in
    let reach : get_or (lines_of g a) (suc i) 0 ≤ high a b = holds in
    record {
      from = spans.from (get_or (lines_of g a) i 0) (Contains-get_or (lines_of g a) i 0 (omega arith));
      below = (n, b, inside, at, omega arith);
    }

-- ---- the box that holds the low corner holds the whole cell
reach_along : (g : Axes) (p : Place) (b : SpaceBox) → HoldsCube b (low_side g X p) (low_side g Y p) (low_side g Z p) → (a : AxisName) →
    ReachesOver a b (low_side g a p)
reach_along g p b holds X = holds.on_x
reach_along g p b holds Y = holds.on_y
reach_along g p b holds Z = holds.on_z

reach_whole : (d : Detail) (g : Axes) → CarriesBody g d → (a : AxisName) (b : SpaceBox) → Contains d.boxes b → (x i : ℕ) → IsIntervalOf (lines_of g a) x i →
    ReachesOver a b (get_or (lines_of g a) i 0) → ReachesOver a b x
reach_whole d g carries a b there x i interval reach =
    let from : low a b ≤ get_or (lines_of g a) i 0 = reach.from in
    let low_end : get_or (lines_of g a) i 0 ≤ x = interval.holds.from in
    record {
      from = omega arith;
      below = above_high_end (lines_of g a) (carries.rising a) x i (high a b) interval ((spans_along d g carries a).highs b there) reach.below;
    }

pub cell_in_box : (d : Detail) (g : Axes) (p : Place) → AreApart d.boxes → IsCovered d.boxes → CarriesBody g d → IsCell (counts_of g) p → IsInBox d g p
cell_in_box d g p apart covered carries cell =
    let (n, b, within, at, holds) = covered (low_side g X p) (low_side g Y p) (low_side g Z p) (record {
      on_x = corner_in_hull d g carries X p.i cell.0;
      on_y = corner_in_hull d g carries Y p.j cell.1;
      on_z = corner_in_hull d g carries Z p.k cell.2;
    }) in
    let found = found_box d.boxes (lines_of g) (carried_has_lines d g carries) apart p cell n b within
    (subst (λ (box : SpaceBox). HoldsCube box (low_side g X p) (low_side g Y p) (low_side g Z p)) (sym at) holds) in
    record {
      box = b;
      there = (n, within, at);
      whole = λ a x interval. reach_whole d g carries a b (n, within, at) x (index_along a p) interval (reach_along g p b holds a);
      fills = ap (λ (box : Option SpaceBox). option_map (λ c. c.content) box) found ∙ ap (λ (box : SpaceBox). Some box.content) at;
    }

-- ---- the base grid
base_same : (boxes : List SpaceBox) (a : AxisName) →
    base_lines a boxes ≡ by_axis (base_lines X boxes) (base_lines Y boxes) (base_lines Z boxes) a
base_same boxes X = refl
base_same boxes Y = refl
base_same boxes Z = refl

pub base_carries : (d : Detail) → AreBoxes d.boxes → CarriesBody (base_axes d.boxes) d
base_carries d are =
    let r = base_refines d are in
    let same = base_same d.boxes in
    record {
      scaled = r.scaled;
      rising = λ a. subst (λ (lines : List ℕ). IsStrictlyIncreasing lines) (same a) (r.rising a);
      has_lows = λ a b there. subst (λ (lines : List ℕ). Contains lines (1 * low a b)) (same a) (r.has_lows a b there);
      has_highs = λ a b there. subst (λ (lines : List ℕ). Contains lines (1 * high a b)) (same a) (r.has_highs a b there);
      from_hull = λ a p there. r.from_hull a p (subst (λ (lines : List ℕ). Contains lines p) (sym (same a)) there);
      to_hull = λ a p there. r.to_hull a p (subst (λ (lines : List ℕ). Contains lines p) (sym (same a)) there);
    }
