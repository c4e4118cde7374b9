-- The table of holders grows box by box.
use Rattle.std.proofs.Common.{◌≡◌, ℕ, ◌+◌, ◌<◌, ◌≤◌, inl, inr, ⊎_elim, List, length, get_or, subst, sym, ◌∙◌, ap, arith}
use Rattle.std.specs.List.{EachIndex}
use Rattle.std.specs.List.Sorted.{IsStrictlyIncreasing}
use Rattle.std.proofs.lemmas.Bool.{cases_lt}
use Rattle.std.proofs.lemmas.List.{get_or_default}
use Rattle.tb_places.specs.declared.AxisName.{AxisName}
use Rattle.tb_places.specs.declared.AxisName.TheVariants.{X, Y, Z}
use Rattle.tb_places.specs.declared.Place.{Place}
use Rattle.tb_places.specs.Places.{cell_count}
use Rattle.tb_places.proofs.Cells.{cell_number_below}
use Rattle.tb_detail.specs.declared.SpaceBox.{SpaceBox}
use Rattle.tb_grid.specs.Axis.{IsLineAt, interval_count}
use Rattle.tb_places.specs.Along.{index_along}
use Rattle.tb_grid.specs.Grid.{Axes, lines_of}
use Rattle.tb_places.specs.Places.{by_axis}
use Rattle.tb_places.proofs.ByAxis.{same_by_axis}
use Rattle.tb_model.specs.Refinement.{low, high}
use Rattle.tb_geometry.specs.declared.painting.CellRange.{CellRange}
use Rattle.tb_geometry.specs.Base.{base_axes, IsBaseCell, base_counts, base_lines, base_number}
use Rattle.tb_geometry.specs.Bodies.{HoldsCorner, IsProper, IsRangeOf, IsTable, holder}
use Rattle.tb_geometry.specs.Painting.{FitsIn, HasCell, IsPainted}
use Rattle.tb_places.specs.Ranges.{IsWithin}
use Rattle.tb_grid.proofs.RisingLists.{at_most_from, before_from, never_falls, rises}
use Rattle.tb_geometry.proofs.Lines.{base_rises}
use Rattle.tb_geometry.proofs.Painted.{cell_known}

-- ---- the range of a box
-- between the lines of a box are just the intervals over which it reaches
reach_from : (lines : List ℕ) → IsStrictlyIncreasing lines → (lo hi f t i : ℕ) → IsLineAt lines lo f → IsLineAt lines hi t →
    IsWithin f t i → (lo ≤ get_or lines i 0) × (get_or lines i 0 < hi)
reach_from lines rising lo hi f t i from to within =
    let a : f ≤ i = within.from in
    let b : i < t = within.below in
    let c : t < length lines = to.within in
    let d : get_or lines f 0 ≡ lo = from.stands in
    let e : get_or lines t 0 ≡ hi = to.stands in
    let up : get_or lines f 0 ≤ get_or lines i 0 = never_falls lines rising f i a (omega arith) in
    let on : get_or lines i 0 < get_or lines t 0 = rises lines rising i t b c in
    (omega arith, omega arith)

within_from : (lines : List ℕ) → IsStrictlyIncreasing lines → (lo hi f t i : ℕ) → IsLineAt lines lo f → IsLineAt lines hi t →
    i < interval_count lines → lo ≤ get_or lines i 0 → get_or lines i 0 < hi → IsWithin f t i
within_from lines rising lo hi f t i from to inside above below =
    let c : f < length lines = from.within in
    let d : get_or lines f 0 ≡ lo = from.stands in
    let e : get_or lines t 0 ≡ hi = to.stands in
    record {
      from = at_most_from lines rising f i c (omega arith);
      below = before_from lines rising i t (omega arith) (omega arith);
    }

pub corner_from_cell : (boxes : List SpaceBox) (b : SpaceBox) (r : CellRange) (p : Place) → IsRangeOf boxes b r → HasCell r p → HoldsCorner boxes p b
corner_from_cell boxes b r p range has =
    let x = reach_from (base_lines X boxes) (base_rises X boxes) (low X b) (high X b) r.from.i r.to.i p.i (range.from X) (range.to X) has.on_x in
    let y = reach_from (base_lines Y boxes) (base_rises Y boxes) (low Y b) (high Y b) r.from.j r.to.j p.j (range.from Y) (range.to Y) has.on_y in
    let z = reach_from (base_lines Z boxes) (base_rises Z boxes) (low Z b) (high Z b) r.from.k r.to.k p.k (range.from Z) (range.to Z) has.on_z in
    record {
      on_x = record { from = x.0; below = x.1 };
      on_y = record { from = y.0; below = y.1 };
      on_z = record { from = z.0; below = z.1 };
    }

pub cell_from_corner : (boxes : List SpaceBox) (b : SpaceBox) (r : CellRange) (p : Place) → IsRangeOf boxes b r → IsBaseCell boxes p →
    HoldsCorner boxes p b → HasCell r p
cell_from_corner boxes b r p range cell holds =
    record {
      on_x = within_from (base_lines X boxes) (base_rises X boxes) (low X b) (high X b) r.from.i r.to.i p.i (range.from X) (range.to X) cell.0 holds.on_x.from holds.on_x.below;
      on_y = within_from (base_lines Y boxes) (base_rises Y boxes) (low Y b) (high Y b) r.from.j r.to.j p.j (range.from Y) (range.to Y) cell.1 holds.on_y.from holds.on_y.below;
      on_z = within_from (base_lines Z boxes) (base_rises Z boxes) (low Z b) (high Z b) r.from.k r.to.k p.k (range.from Z) (range.to Z) cell.2 holds.on_z.from holds.on_z.below;
    }

-- a box that reaches from one line up to a higher one has an interval between them
spans : (lines : List ℕ) → IsStrictlyIncreasing lines → (lo hi f t : ℕ) → IsLineAt lines lo f → IsLineAt lines hi t → lo < hi →
    (f < t) × (t ≤ interval_count lines)
spans lines rising lo hi f t from to apart =
    let a : f < length lines = from.within in
    let b : t < length lines = to.within in
    let c : get_or lines f 0 ≡ lo = from.stands in
    let d : get_or lines t 0 ≡ hi = to.stands in
    (before_from lines rising f t a (omega arith), omega arith)

pub range_fits : (boxes : List SpaceBox) (b : SpaceBox) (r : CellRange) → IsProper b → IsRangeOf boxes b r → FitsIn (base_counts boxes) r
range_fits boxes b r proper range =
    let x = spans (base_lines X boxes) (base_rises X boxes) (low X b) (high X b) r.from.i r.to.i (range.from X) (range.to X) (proper X) in
    let y = spans (base_lines Y boxes) (base_rises Y boxes) (low Y b) (high Y b) r.from.j r.to.j (range.from Y) (range.to Y) (proper Y) in
    let z = spans (base_lines Z boxes) (base_rises Z boxes) (low Z b) (high Z b) r.from.k r.to.k (range.from Z) (range.to Z) (proper Z) in
    record { some_x = x.0; some_y = y.0; some_z = z.0; end_x = x.1; end_y = y.1; end_z = z.1 }

-- ---- the table
pub table_of_none : (boxes : List SpaceBox) (table : List ℕ) → length table ≡ cell_count (base_counts boxes) →
    EachIndex table (λ n. get_or table n 0 ≡ 65535) → IsTable boxes 0 table
table_of_none boxes table long unpainted =
    record {
      each_cell = long;
      held = λ p cell b e is below. absurd (omega arith);
      left_free = λ p cell is b e below. absurd (omega arith);
      either = λ p cell.
          let number : base_number boxes p < cell_count (base_counts boxes) = cell_number_below (base_counts boxes) p cell in
          inr (unpainted (base_number boxes p) (omega arith));
    }

pub table_of_one_more : (boxes : List SpaceBox) (n : ℕ) (e : SpaceBox) (r : CellRange) (old new : List ℕ) → n < length boxes → n < 512 →
    IsRangeOf boxes (get_or boxes n e) r → IsTable boxes n old → IsPainted (base_counts boxes) (HasCell r) n old new →
    IsTable boxes (n + 1) new
table_of_one_more boxes n e r old new within few range table painted =
    record {
      each_cell = painted.same_length ∙ table.each_cell;
      held = λ p cell b d is below. ⊎_elim
          (λ (has : HasCell r p).
          let value : holder boxes new p ≡ n = painted.hit p cell has in
          let same : n ≡ b = sym value ∙ is in
          subst (λ (m : ℕ). HoldsCorner boxes p (get_or boxes m d)) same
          (subst (λ (box : SpaceBox). HoldsCorner boxes p box) (get_or_default boxes n e d within)
          (corner_from_cell boxes (get_or boxes n e) r p range has)))
          (λ (not : ¬ HasCell r p).
          let value : holder boxes new p ≡ holder boxes old p = painted.miss p cell not in
          ⊎_elim (λ (early : holder boxes old p < n). table.held p cell b d (sym value ∙ is) (omega arith))
          (λ (none : holder boxes old p ≡ 65535). absurd (omega arith)) (table.either p cell))
          (cell_known r p);
      left_free = λ p cell is b d below holds. ⊎_elim
          (λ (has : HasCell r p). let value : holder boxes new p ≡ n = painted.hit p cell has in omega arith)
          (λ (not : ¬ HasCell r p).
          let value : holder boxes new p ≡ holder boxes old p = painted.miss p cell not in
          ⊎_elim (λ (early : b < n). table.left_free p cell (sym value ∙ is) b d early holds)
          (λ (late : n ≤ b).
          let same : b ≡ n = omega arith in
          not (cell_from_corner boxes (get_or boxes n e) r p range cell
          (subst (λ (box : SpaceBox). HoldsCorner boxes p box) (get_or_default boxes n d e within)
          (subst (λ (m : ℕ). HoldsCorner boxes p (get_or boxes m d)) same holds))))
          (cases_lt b n))
          (cell_known r p);
      either = λ p cell. ⊎_elim
          (λ (has : HasCell r p). let value : holder boxes new p ≡ n = painted.hit p cell has in inl (omega arith))
          (λ (not : ¬ HasCell r p).
          let value : holder boxes new p ≡ holder boxes old p = painted.miss p cell not in
          ⊎_elim (λ (early : holder boxes old p < n). inl (omega arith)) (λ (none : holder boxes old p ≡ 65535). inr (value ∙ none)) (table.either p cell))
          (cell_known r p);
    }

-- ---- in terms of the base grid
pub base_lines_of : (g : Axes) (boxes : List SpaceBox) → g ≡ base_axes boxes → (a : AxisName) → lines_of g a ≡ base_lines a boxes
base_lines_of g boxes is X = ap (λ (axes : Axes). axes.x) is
base_lines_of g boxes is Y = ap (λ (axes : Axes). axes.y) is
base_lines_of g boxes is Z = ap (λ (axes : Axes). axes.z) is

pub base_counts_of : (g : Axes) (boxes : List SpaceBox) (x y z : ℕ) → g ≡ base_axes boxes → x ≡ interval_count g.x → y ≡ interval_count g.y →
    z ≡ interval_count g.z → by_axis x y z ≡ base_counts boxes
base_counts_of g boxes x y z is on_x on_y on_z =
    same_by_axis (base_counts boxes) x y z
    (on_x ∙ ap interval_count (base_lines_of g boxes is X))
    (on_y ∙ ap interval_count (base_lines_of g boxes is Y))
    (on_z ∙ ap interval_count (base_lines_of g boxes is Z))

pub range_of : (g : Axes) (boxes : List SpaceBox) (b : SpaceBox) (r : CellRange) → g ≡ base_axes boxes →
    ((a : AxisName) → IsLineAt (lines_of g a) (low a b) (index_along a r.from)) →
    ((a : AxisName) → IsLineAt (lines_of g a) (high a b) (index_along a r.to)) → IsRangeOf boxes b r
range_of g boxes b r is from to =
    record {
      from = λ a. subst (λ (lines : List ℕ). IsLineAt lines (low a b) (index_along a r.from)) (base_lines_of g boxes is a) (from a);
      to = λ a. subst (λ (lines : List ℕ). IsLineAt lines (high a b) (index_along a r.to)) (base_lines_of g boxes is a) (to a);
    }
