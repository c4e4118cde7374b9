-- What the table of holders says of cubes.
use Rattle.std.proofs.Common.{◌≡◌, ◌≢◌, ℕ, ◌+◌, ◌<◌, ◌≤◌, ⊎_elim, List, length, get_or, refl, subst, sym, ◌∙◌, ap, arith}
use Rattle.std.specs.List.{Contains, EachIndex}
use Rattle.std.proofs.lemmas.List.{get_or_default}
use Rattle.tb_places.specs.declared.AxisName.{AxisName}
use Rattle.tb_places.specs.declared.AxisName.TheVariants.{X, Y, Z}
use Rattle.tb_places.specs.declared.Place.{Place}
use Rattle.tb_places.specs.Inverse.{cell_place}
use Rattle.tb_places.specs.Places.{cell_count}
use Rattle.tb_places.proofs.Cells.{cell_number_below, cell_number_of_place, cell_place_within}
use Rattle.tb_detail.specs.declared.SpaceBox.{SpaceBox}
use Rattle.tb_grid.specs.Axis.{IsIntervalOf}
use Rattle.tb_grid.specs.Grid.{Axes, counts_of}
use Rattle.tb_model.specs.Refinement.{low, high}
use Rattle.tb_geometry.specs.Base.{base_axes, HasCube, IsBaseCell, IsCoveredCell, IsFirstUncovered, IsUncoveredCell, base_counts, base_lines, base_number}
use Rattle.tb_geometry.specs.Bodies.{HasHolders, HoldsCorner, IsFirstFree, IsTable, holder, no_box}
use Rattle.tb_geometry.specs.Cubes.{HoldsCube, IsCovered, IsInHull, IsInHullOn, ReachesOver}
use Rattle.tb_geometry.proofs.Coordinates.{high_line, low_line}
use Rattle.tb_grid.proofs.Intervals.{above_high_end, from_low_end, interval_below, low_end_in}
use Rattle.tb_grid.proofs.RisingLists.{line_of_member, never_falls}
use Rattle.tb_geometry.proofs.Lines.{base_rises}

-- ---- a box holds all cubes of a base cell or none
reach_low : (a : AxisName) (boxes : List SpaceBox) (b : SpaceBox) (x i : ℕ) → Contains boxes b → IsIntervalOf (base_lines a boxes) x i →
    ReachesOver a b x → ReachesOver a b (get_or (base_lines a boxes) i 0)
reach_low a boxes b x i there interval reach =
    let low_end : get_or (base_lines a boxes) i 0 ≤ x = interval.holds.from in
    let below : x < high a b = reach.below in
    record {
      from = from_low_end (base_lines a boxes) (base_rises a boxes) x i (low a b) interval (low_line a boxes b there) reach.from;
      below = omega arith;
    }

reach_cube : (a : AxisName) (boxes : List SpaceBox) (b : SpaceBox) (x i : ℕ) → Contains boxes b → IsIntervalOf (base_lines a boxes) x i →
    ReachesOver a b (get_or (base_lines a boxes) i 0) → ReachesOver a b x
reach_cube a boxes b x i there interval reach =
    let low_end : get_or (base_lines a boxes) i 0 ≤ x = interval.holds.from in
    let from : low a b ≤ get_or (base_lines a boxes) i 0 = reach.from in
    record {
      from = omega arith;
      below = above_high_end (base_lines a boxes) (base_rises a boxes) x i (high a b) interval (high_line a boxes b there) reach.below;
    }

pub corner_from_cube : (boxes : List SpaceBox) (b : SpaceBox) (p : Place) (x y z : ℕ) → Contains boxes b → HasCube boxes p x y z →
    HoldsCube b x y z → HoldsCorner boxes p b
corner_from_cube boxes b p x y z there has holds =
    record {
      on_x = reach_low X boxes b x p.i there has.on_x holds.on_x;
      on_y = reach_low Y boxes b y p.j there has.on_y holds.on_y;
      on_z = reach_low Z boxes b z p.k there has.on_z holds.on_z;
    }

pub cube_from_corner : (boxes : List SpaceBox) (b : SpaceBox) (p : Place) (x y z : ℕ) → Contains boxes b → HasCube boxes p x y z →
    HoldsCorner boxes p b → HoldsCube b x y z
cube_from_corner boxes b p x y z there has holds =
    record {
      on_x = reach_cube X boxes b x p.i there has.on_x holds.on_x;
      on_y = reach_cube Y boxes b y p.j there has.on_y holds.on_y;
      on_z = reach_cube Z boxes b z p.k there has.on_z holds.on_z;
    }

-- a cell with a cube is in the base grid, and each base cell has a cube at its low corner
pub base_cell_of_cube : (boxes : List SpaceBox) (p : Place) (x y z : ℕ) → HasCube boxes p x y z → IsBaseCell boxes p
base_cell_of_cube boxes p x y z has =
    let on_x : p.i + 1 < length (base_lines X boxes) = has.on_x.within in
    let on_y : p.j + 1 < length (base_lines Y boxes) = has.on_y.within in
    let on_z : p.k + 1 < length (base_lines Z boxes) = has.on_z.within in
    (omega arith, omega arith, omega arith)

pub corner_cube : (boxes : List SpaceBox) (p : Place) → IsBaseCell boxes p →
    HasCube boxes p (get_or (base_lines X boxes) p.i 0) (get_or (base_lines Y boxes) p.j 0) (get_or (base_lines Z boxes) p.k 0)
corner_cube boxes p (on_x, on_y, on_z) =
    record {
      on_x = low_end_in (base_lines X boxes) (base_rises X boxes) p.i on_x;
      on_y = low_end_in (base_lines Y boxes) (base_rises Y boxes) p.j on_y;
      on_z = low_end_in (base_lines Z boxes) (base_rises Z boxes) p.k on_z;
    }

-- ---- the hull
hull_interval : (a : AxisName) (boxes : List SpaceBox) (x : ℕ) → IsInHullOn a boxes x → (i : ℕ) × IsIntervalOf (base_lines a boxes) x i
hull_interval a boxes x hull =
    let (p, b, b_within, b_is, from) = hull.from in
    let (q, c, c_within, c_is, below) = hull.below in
    let first = line_of_member (base_lines a boxes) (low a b) (low_line a boxes b (p, b_within, b_is)) in
    let last = line_of_member (base_lines a boxes) (high a c) (high_line a boxes c (q, c_within, c_is)) in
    let first_within : first.0 < length (base_lines a boxes) = first.1.within in
    let last_within : last.0 < length (base_lines a boxes) = last.1.within in
    let first_at : get_or (base_lines a boxes) first.0 0 ≡ low a b = first.1.stands in
    let last_at : get_or (base_lines a boxes) last.0 0 ≡ high a c = last.1.stands in
    let least : get_or (base_lines a boxes) 0 0 ≤ get_or (base_lines a boxes) first.0 0 =
    never_falls (base_lines a boxes) (base_rises a boxes) 0 first.0 (omega arith) first_within in
    interval_below (base_lines a boxes) x last.0 last_within (omega arith) (omega arith)

-- each cube of the hull is in a base cell
pub hull_cell : (boxes : List SpaceBox) (x y z : ℕ) → IsInHull boxes x y z → (p : Place) × HasCube boxes p x y z
hull_cell boxes x y z hull =
    let on_x = hull_interval X boxes x hull.on_x in
    let on_y = hull_interval Y boxes y hull.on_y in
    let on_z = hull_interval Z boxes z hull.on_z in
    (record { i = on_x.0; j = on_y.0; k = on_z.0 }, record { on_x = on_x.1; on_y = on_y.1; on_z = on_z.1 })

-- ---- the whole table
-- a base cell with a holder is covered
held_cell : (boxes : List SpaceBox) (table : List ℕ) → IsTable boxes (length boxes) table → (p : Place) → IsBaseCell boxes p →
    holder boxes table p ≢ 65535 → IsCoveredCell boxes p
held_cell boxes table is p cell filled x y z has =
    let n : ℕ = holder boxes table p in
    let within : holder boxes table p < length boxes = ⊎_elim (λ below. below) (λ none. absurd (filled none)) (is.either p cell) in
    let b : SpaceBox = get_or boxes n no_box in
    let at : get_or boxes n b ≡ b = get_or_default boxes n b no_box within in
    (n, b, within, at, cube_from_corner boxes b p x y z (n, within, at) has (is.held p cell n no_box refl within))

-- and one without is uncovered
free_cell : (boxes : List SpaceBox) (table : List ℕ) → IsTable boxes (length boxes) table → (p : Place) → IsBaseCell boxes p →
    holder boxes table p ≡ 65535 → IsUncoveredCell boxes p
free_cell boxes table is p cell none x y z has (n, b, within, at, holds) =
    is.left_free p cell none n b within
    (subst (λ (box : SpaceBox). HoldsCorner boxes p box) (sym at) (corner_from_cube boxes b p x y z (n, within, at) has holds))

pub covered_from_table : (boxes : List SpaceBox) (table : List ℕ) → IsTable boxes (length boxes) table →
    EachIndex table (λ n. get_or table n 0 ≢ 65535) → IsCovered boxes
covered_from_table boxes table is full x y z hull =
    let (p, has) = hull_cell boxes x y z hull in
    let cell = base_cell_of_cube boxes p x y z has in
    let number : base_number boxes p < cell_count (base_counts boxes) = cell_number_below (base_counts boxes) p cell in
    let long : length table ≡ cell_count (base_counts boxes) = is.each_cell in
    held_cell boxes table is p cell (full (base_number boxes p) (omega arith)) x y z has

pub holders_from_table : (boxes : List SpaceBox) (table : List ℕ) → IsTable boxes (length boxes) table →
    EachIndex table (λ n. get_or table n 0 ≢ 65535) → HasHolders boxes table
holders_from_table boxes table is full =
    let within : (p : Place) → IsBaseCell boxes p → holder boxes table p < length boxes =
    λ p cell.
    let number : base_number boxes p < cell_count (base_counts boxes) = cell_number_below (base_counts boxes) p cell in
    let long : length table ≡ cell_count (base_counts boxes) = is.each_cell in
    ⊎_elim (λ below. below) (λ none. absurd (full (base_number boxes p) (omega arith) none)) (is.either p cell) in
    record {
      each_cell = is.each_cell;
      within = within;
      holds = λ p e cell. is.held p cell (holder boxes table p) e refl (within p cell);
    }

-- the first free place of the table is that of the first base cell in no box
pub uncovered_from_table : (g : Axes) (boxes : List SpaceBox) (table : List ℕ) (n x y z : ℕ) → g ≡ base_axes boxes →
    IsTable boxes (length boxes) table → IsFirstFree table n → x ≡ get_or g.x (cell_place (counts_of g) n).i 0 →
    y ≡ get_or g.y (cell_place (counts_of g) n).j 0 → z ≡ get_or g.z (cell_place (counts_of g) n).k 0 → IsFirstUncovered boxes x y z
uncovered_from_table g boxes table n x y z base is found at_x at_y at_z =
    let p : Place = cell_place (base_counts boxes) n in
    let within : n < length table = found.in_set in
    let long : length table ≡ cell_count (base_counts boxes) = is.each_cell in
    let cell : IsBaseCell boxes p = cell_place_within (base_counts boxes) n (omega arith) in
    let number : base_number boxes p ≡ n = cell_number_of_place (base_counts boxes) n in
    let lower : (q : Place) → IsBaseCell boxes q → base_number boxes q < length table =
    λ q inside. subst (λ (m : ℕ). base_number boxes q < m) (sym long) (cell_number_below (base_counts boxes) q inside) in
    record {
      cell = p;
      first = record {
        in_set = cell;
        is_bad = free_cell boxes table is p cell (ap (λ (m : ℕ). get_or table m 0) number ∙ found.is_bad);
        before = λ q inside below. held_cell boxes table is q inside
            (found.before (base_number boxes q) (lower q inside) (subst (λ (m : ℕ). base_number boxes q < m) number below));
      };
      corner = record {
        on_x = subst (λ (axes : Axes). x ≡ get_or axes.x (cell_place (counts_of axes) n).i 0) base at_x;
        on_y = subst (λ (axes : Axes). y ≡ get_or axes.y (cell_place (counts_of axes) n).j 0) base at_y;
        on_z = subst (λ (axes : Axes). z ≡ get_or axes.z (cell_place (counts_of axes) n).k 0) base at_z;
      };
    }
