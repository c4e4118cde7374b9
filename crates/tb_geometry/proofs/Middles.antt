-- Lines that are all coordinates of boxes: a box holds the middle of a cell between them exactly where it holds the
-- cube at the cell's low corner. So where boxes are apart, the box that holds this cube is found by the middle.
use Rattle.std.proofs.Common.{◌≡◌, ℕ, suc, ◌+◌, ◌*◌, ◌<◌, ◌≤◌, ⊎_elim, ◌&&◌, true, List, length, get_or, Some, ap, ◌∙◌, arith, ltb, leb}
use Rattle.std.specs.List.{Contains, find, slice_get}
use Rattle.std.specs.List.Sorted.{IsStrictlyIncreasing}
use Rattle.std.proofs.lemmas.Bool.{and_parts, cases_lt, false_from_ne_true, leb-true, lt-ltb, le-leb, ltb-true}
use Rattle.std.proofs.lemmas.List.Elements.{Contains-get_or}
use Rattle.std.proofs.lemmas.List.Folds.{find_at}
use Rattle.std.proofs.lemmas.List.Sums.{position_or_len_is}
use Rattle.std.proofs.lemmas.Option.{slice_get-get_or}
use Rattle.tb_places.specs.declared.AxisName.{AxisName}
use Rattle.tb_places.specs.declared.AxisName.TheVariants.{X, Y, Z}
use Rattle.tb_places.specs.declared.Place.{Place}
use Rattle.tb_places.specs.Places.{Counts, IsCell}
use Rattle.tb_detail.specs.declared.SpaceBox.{SpaceBox}
use Rattle.tb_grid.specs.Axis.{interval_count}
use Rattle.tb_model.specs.Refinement.{Refinement, high, holds_middle, low, reaches_middle}
use Rattle.tb_geometry.specs.Cubes.{AreApart, HoldsCube, ReachesOver}
use Rattle.tb_grid.proofs.RisingLists.{before_from, line_of_member, never_falls, rises}

-- ---- the middle between two lines
-- a line at or below the middle between two neighbouring lines is at or below the lower of the two,
low_from_middle : (lines : List ℕ) → IsStrictlyIncreasing lines → (i lo : ℕ) → suc i < length lines → Contains lines lo →
    2 * lo ≤ get_or lines i 0 + get_or lines (suc i) 0 → lo ≤ get_or lines i 0
low_from_middle lines rising i lo within there middle =
    let (p, at) = line_of_member lines lo there in
    let inside : p < length lines = at.within in
    let stands : get_or lines p 0 ≡ lo = at.stands in
    let up : get_or lines i 0 < get_or lines (suc i) 0 = rises lines rising i (suc i) (omega arith) within in
    ⊎_elim (λ (late : i < p). let above : get_or lines (suc i) 0 ≤ get_or lines p 0 = never_falls lines rising (suc i) p (omega arith) inside in absurd (omega arith))
    (λ (early : p ≤ i). let below : get_or lines p 0 ≤ get_or lines i 0 = never_falls lines rising p i early (omega arith) in omega arith)
    (cases_lt i p)

-- and a line above the lower of the two is above the middle
middle_below : (lines : List ℕ) → IsStrictlyIncreasing lines → (i hi : ℕ) → suc i < length lines → Contains lines hi →
    get_or lines i 0 < hi → get_or lines i 0 + get_or lines (suc i) 0 < 2 * hi
middle_below lines rising i hi within there below =
    let (q, at) = line_of_member lines hi there in
    let inside : q < length lines = at.within in
    let stands : get_or lines q 0 ≡ hi = at.stands in
    let order : i < q = before_from lines rising i q (omega arith) (omega arith) in
    let above : get_or lines (suc i) 0 ≤ get_or lines q 0 = never_falls lines rising (suc i) q (omega arith) inside in
    omega arith

-- ---- lines at all coordinates of boxes
pub record HasBoxLines (boxes : List SpaceBox) (lines : AxisName → List ℕ) : Type 0 where
  pub rising : (a : AxisName) → IsStrictlyIncreasing (lines a)
  pub lows : (a : AxisName) (b : SpaceBox) → Contains boxes b → Contains (lines a) (low a b)
  pub highs : (a : AxisName) (b : SpaceBox) → Contains boxes b → Contains (lines a) (high a b)

abbrev pub at_scale_1 : (AxisName → List ℕ) → Refinement
at_scale_1 lines = record { scale = 1; lines = lines }

abbrev pub counts_between : (AxisName → List ℕ) → Counts
counts_between lines a = interval_count (lines a)

-- a box holds the cube at the low corner of the cell at a place
abbrev pub HoldsLowCorner : (AxisName → List ℕ) → Place → SpaceBox → Type 0
HoldsLowCorner lines p b = HoldsCube b (get_or (lines X) p.i 0) (get_or (lines Y) p.j 0) (get_or (lines Z) p.k 0)

reach_from_middle : (boxes : List SpaceBox) (lines : AxisName → List ℕ) → HasBoxLines boxes lines → (a : AxisName) (b : SpaceBox) → Contains boxes b →
    (i : ℕ) → i < interval_count (lines a) → reaches_middle (at_scale_1 lines) b a i ≡ true → ReachesOver a b (get_or (lines a) i 0)
reach_from_middle boxes lines has a b there i within middle =
    let both = and_parts (leb (2 * (1 * low a b)) (get_or (lines a) i 0 + get_or (lines a) (suc i) 0))
    (ltb (get_or (lines a) i 0 + get_or (lines a) (suc i) 0) (2 * (1 * high a b))) middle in
    let from : 2 * (1 * low a b) ≤ get_or (lines a) i 0 + get_or (lines a) (suc i) 0 =
    leb-true (2 * (1 * low a b)) (get_or (lines a) i 0 + get_or (lines a) (suc i) 0) both.0 in
    let below : get_or (lines a) i 0 + get_or (lines a) (suc i) 0 < 2 * (1 * high a b) =
    ltb-true (get_or (lines a) i 0 + get_or (lines a) (suc i) 0) (2 * (1 * high a b)) both.1 in
    let up : get_or (lines a) i 0 < get_or (lines a) (suc i) 0 = rises (lines a) (has.rising a) i (suc i) (omega arith) (omega arith) in
    record {
      from = low_from_middle (lines a) (has.rising a) i (low a b) (omega arith) (has.lows a b there) (omega arith);
      below = omega arith;
    }

middle_from_reach : (boxes : List SpaceBox) (lines : AxisName → List ℕ) → HasBoxLines boxes lines → (a : AxisName) (b : SpaceBox) → Contains boxes b →
    (i : ℕ) → i < interval_count (lines a) → ReachesOver a b (get_or (lines a) i 0) → reaches_middle (at_scale_1 lines) b a i ≡ true
middle_from_reach boxes lines has a b there i within reach =
    let from : low a b ≤ get_or (lines a) i 0 = reach.from in
    let up : get_or (lines a) i 0 < get_or (lines a) (suc i) 0 = rises (lines a) (has.rising a) i (suc i) (omega arith) (omega arith) in
    let below : get_or (lines a) i 0 + get_or (lines a) (suc i) 0 < 2 * high a b =
    middle_below (lines a) (has.rising a) i (high a b) (omega arith) (has.highs a b there) reach.below in
    rw (
      le-leb (2 * (1 * low a b)) (get_or (lines a) i 0 + get_or (lines a) (suc i) 0) (omega arith),
      lt-ltb (get_or (lines a) i 0 + get_or (lines a) (suc i) 0) (2 * (1 * high a b)) (omega arith),
    )

corner_from_middle : (boxes : List SpaceBox) (lines : AxisName → List ℕ) → HasBoxLines boxes lines → (p : Place) →
    IsCell (counts_between lines) p → (b : SpaceBox) → Contains boxes b → holds_middle (at_scale_1 lines) p.i p.j p.k b ≡ true → HoldsLowCorner lines p b
corner_from_middle boxes lines has p cell b there middle =
    let x = reaches_middle (at_scale_1 lines) b X p.i in
    let y = reaches_middle (at_scale_1 lines) b Y p.j in
    let z = reaches_middle (at_scale_1 lines) b Z p.k in
    let all = and_parts (x && y) z middle in
    let two = and_parts x y all.0 in
    record {
      on_x = reach_from_middle boxes lines has X b there p.i cell.0 two.0;
      on_y = reach_from_middle boxes lines has Y b there p.j cell.1 two.1;
      on_z = reach_from_middle boxes lines has Z b there p.k cell.2 all.1;
    }

middle_from_corner : (boxes : List SpaceBox) (lines : AxisName → List ℕ) → HasBoxLines boxes lines → (p : Place) →
    IsCell (counts_between lines) p → (b : SpaceBox) → Contains boxes b → HoldsLowCorner lines p b → holds_middle (at_scale_1 lines) p.i p.j p.k b ≡ true
middle_from_corner boxes lines has p cell b there holds =
    rw (
      middle_from_reach boxes lines has X b there p.i cell.0 holds.on_x,
      middle_from_reach boxes lines has Y b there p.j cell.1 holds.on_y,
      middle_from_reach boxes lines has Z b there p.k cell.2 holds.on_z,
    )

-- ---- the one box
pub found_box : (boxes : List SpaceBox) (lines : AxisName → List ℕ) → HasBoxLines boxes lines → AreApart boxes → (p : Place) →
    IsCell (counts_between lines) p → (n : ℕ) (e : SpaceBox) → n < length boxes → HoldsLowCorner lines p (get_or boxes n e) →
    find (holds_middle (at_scale_1 lines) p.i p.j p.k) boxes ≡ Some (get_or boxes n e)
found_box boxes lines has apart p cell n e within holds =
    let first = position_or_len_is (holds_middle (at_scale_1 lines) p.i p.j p.k) boxes n e (omega arith)
    (λ k before. false_from_ne_true _ (λ other. apart k n e before within (record {
      at_x = get_or (lines X) p.i 0;
      at_y = get_or (lines Y) p.j 0;
      at_z = get_or (lines Z) p.k 0;
      first = corner_from_middle boxes lines has p cell (get_or boxes k e) (Contains-get_or boxes k e (omega arith)) other;
      second = holds;
    })))
    (λ _. middle_from_corner boxes lines has p cell (get_or boxes n e) (Contains-get_or boxes n e within) holds) in
    find_at (holds_middle (at_scale_1 lines) p.i p.j p.k) boxes ∙ ap (slice_get boxes) first ∙ slice_get-get_or boxes n e within
