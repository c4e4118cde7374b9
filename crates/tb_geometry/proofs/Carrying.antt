-- Which grids carry a body: those that begin and end with the base lines, and have them all.
use Rattle.std.proofs.Common.{◌≡◌, ℕ, ◌-◌, ◌*◌, ◌<◌, ◌≤◌, ⊎_elim, List, length, get_or, refl, sym, subst, arith}
use Rattle.std.specs.List.{Any, Contains}
use Rattle.std.specs.List.Sorted.{IsStrictlyIncreasing}
use Rattle.std.proofs.lemmas.List.Elements.{Contains-get_or}
use Rattle.tb_places.specs.declared.AxisName.{AxisName}
use Rattle.tb_places.specs.declared.AxisName.TheVariants.{X, Y, Z}
use Rattle.tb_places.specs.declared.Place.{Place}
use Rattle.tb_detail.specs.declared.SpaceBox.{SpaceBox}
use Rattle.tb_detail.specs.declared.Detail.{Detail}
use Rattle.tb_grid.specs.Axis.{IsAxis}
use Rattle.tb_places.specs.Along.{index_along}
use Rattle.tb_grid.specs.Grid.{Axes, IsGrid, lines_of}
use Rattle.tb_model.specs.Refinement.{high, low}
use Rattle.tb_geometry.specs.Base.{IsBaseCell, base_axes, base_lines}
use Rattle.tb_geometry.specs.Bodies.{HasHolders, HoldsCorner, holder, no_box}
use Rattle.tb_geometry.specs.Cubes.{ReachesOver}
use Rattle.tb_geometry.specs.Grids.{CarriesBody, CarriesLines, HasLines}
use Rattle.tb_geometry.proofs.Coordinates.{high_line, low_line}
use Rattle.tb_geometry.proofs.Hulls.{line_of_box}
use Rattle.tb_grid.proofs.RisingLists.{before_from, line_of_member, never_falls}
use Rattle.tb_geometry.proofs.Lines.{base_rises}
use Rattle.tb_geometry.proofs.Tables.{base_lines_of}

-- ---- the least and the greatest line
pub first_is_least : (lines : List ℕ) → IsStrictlyIncreasing lines → (x : ℕ) → Contains lines x → get_or lines 0 0 ≤ x
first_is_least lines rising x there =
    let (k, at) = line_of_member lines x there in
    let within : k < length lines = at.within in
    let stands : get_or lines k 0 ≡ x = at.stands in
    let up : get_or lines 0 0 ≤ get_or lines k 0 = never_falls lines rising 0 k (omega arith) within in
    omega arith

pub last_is_greatest : (lines : List ℕ) → IsStrictlyIncreasing lines → (x : ℕ) → Contains lines x → x ≤ get_or lines (length lines - 1) 0
last_is_greatest lines rising x there =
    let (k, at) = line_of_member lines x there in
    let within : k < length lines = at.within in
    let stands : get_or lines k 0 ≡ x = at.stands in
    let up : get_or lines k 0 ≤ get_or lines (length lines - 1) 0 = never_falls lines rising k (length lines - 1) (omega arith) (omega arith) in
    omega arith

-- ---- the lines of a grid at scale 1
once : (n : ℕ) → n ≡ 1 * n
once n = omega arith

-- ---- the boxes at the ends of the hull
-- a box that holds a base cell reaches over its low line on each axis
reaches_corner : (boxes : List SpaceBox) (p : Place) (b : SpaceBox) → HoldsCorner boxes p b → (a : AxisName) →
    ReachesOver a b (get_or (base_lines a boxes) (index_along a p) 0)
reaches_corner boxes p b holds X = holds.on_x
reaches_corner boxes p b holds Y = holds.on_y
reaches_corner boxes p b holds Z = holds.on_z

-- the holder of a base cell
pub record IsHolderOf (boxes : List SpaceBox) (p : Place) : Type 0 where
  pub box : SpaceBox
  pub there : Contains boxes box
  pub holds : HoldsCorner boxes p box

pub holder_of : (boxes : List SpaceBox) (table : List ℕ) → HasHolders boxes table → (p : Place) → IsBaseCell boxes p → IsHolderOf boxes p
holder_of boxes table has p cell =
    record {
      box = get_or boxes (holder boxes table p) no_box;
      there = Contains-get_or boxes (holder boxes table p) no_box (has.within p cell);
      holds = has.holds p no_box cell;
    }

abbrev first_cell : Place
first_cell = record { i = 0; j = 0; k = 0 }

abbrev last_cell : List SpaceBox → Place
last_cell boxes = record {
  i = length (base_lines X boxes) - 2;
  j = length (base_lines Y boxes) - 2;
  k = length (base_lines Z boxes) - 2;
}

first_along : (a : AxisName) → index_along a first_cell ≡ 0
first_along X = refl
first_along Y = refl
first_along Z = refl

last_along : (boxes : List SpaceBox) (a : AxisName) → index_along a (last_cell boxes) ≡ length (base_lines a boxes) - 2
last_along boxes X = refl
last_along boxes Y = refl
last_along boxes Z = refl

-- some box begins at the first base line of an axis,
first_held : (boxes : List SpaceBox) (table : List ℕ) → HasHolders boxes table → ((a : AxisName) → IsAxis (base_lines a boxes)) → (a : AxisName) →
    Any (λ b. low a b ≤ get_or (base_lines a boxes) 0 0) boxes
first_held boxes table has axes a =
    let x : 2 ≤ length (base_lines X boxes) = (axes X).least in
    let y : 2 ≤ length (base_lines Y boxes) = (axes Y).least in
    let z : 2 ≤ length (base_lines Z boxes) = (axes Z).least in
    let h = holder_of boxes table has first_cell (omega arith, omega arith, omega arith) in
    let (n, within, at) = h.there in (
      n,
      h.box,
      within,
      at,
      subst (λ (i : ℕ). low a h.box ≤ get_or (base_lines a boxes) i 0) (first_along a) (reaches_corner boxes first_cell h.box h.holds a).from,
    )

-- a line above the last but one is at the last or above
reaches_last : (lines : List ℕ) → IsStrictlyIncreasing lines → (x : ℕ) → 2 ≤ length lines → Contains lines x → get_or lines (length lines - 2) 0 < x →
    get_or lines (length lines - 1) 0 ≤ x
reaches_last lines rising x long there above =
    let (k, at) = line_of_member lines x there in
    let within : k < length lines = at.within in
    let stands : get_or lines k 0 ≡ x = at.stands in
    let behind : length lines - 2 < k = before_from lines rising (length lines - 2) k (omega arith) (omega arith) in
    let up : get_or lines (length lines - 1) 0 ≤ get_or lines k 0 = never_falls lines rising (length lines - 1) k (omega arith) within in
    omega arith

-- and some box ends at the last
last_held : (boxes : List SpaceBox) (table : List ℕ) → HasHolders boxes table → ((a : AxisName) → IsAxis (base_lines a boxes)) → (a : AxisName) →
    Any (λ b. get_or (base_lines a boxes) (length (base_lines a boxes) - 1) 0 ≤ high a b) boxes
last_held boxes table has axes a =
    let x : 2 ≤ length (base_lines X boxes) = (axes X).least in
    let y : 2 ≤ length (base_lines Y boxes) = (axes Y).least in
    let z : 2 ≤ length (base_lines Z boxes) = (axes Z).least in
    let h = holder_of boxes table has (last_cell boxes) (omega arith, omega arith, omega arith) in
    let (n, within, at) = h.there in (
      n,
      h.box,
      within,
      at,
      reaches_last (base_lines a boxes) (base_rises a boxes) (high a h.box) (axes a).least (high_line a boxes h.box h.there)
          (subst (λ (i : ℕ). get_or (base_lines a boxes) i 0 < high a h.box) (last_along boxes a) (reaches_corner boxes (last_cell boxes) h.box h.holds a).below),
    )

-- ---- on one axis: what a refinement has there
pub record Spans (a : AxisName) (boxes : List SpaceBox) (lines : List ℕ) : Type 0 where
  pub lows : (b : SpaceBox) → Contains boxes b → Contains lines (low a b)
  pub highs : (b : SpaceBox) → Contains boxes b → Contains lines (high a b)
  pub from : (p : ℕ) → Contains lines p → Any (λ b. low a b ≤ p) boxes
  pub to : (p : ℕ) → Contains lines p → Any (λ b. p ≤ high a b) boxes

pub spans_along : (d : Detail) (g : Axes) → CarriesBody g d → (a : AxisName) → Spans a d.boxes (lines_of g a)
spans_along d g r a =
    record {
      lows = λ b there. subst (λ (n : ℕ). Contains (lines_of g a) n) (sym (once (low a b))) (r.has_lows a b there);
      highs = λ b there. subst (λ (n : ℕ). Contains (lines_of g a) n) (sym (once (high a b))) (r.has_highs a b there);
      from = λ p there.
          let (n, b, within, at, holds) = r.from_hull a p there in
          let below : 1 * low a b ≤ p = holds in
          (n, b, within, at, omega arith);
      to = λ p there.
          let (n, b, within, at, holds) = r.to_hull a p there in
          let above : p ≤ 1 * high a b = holds in
          (n, b, within, at, omega arith);
    }

refines_from_spans : (d : Detail) (g : Axes) → IsGrid g → ((a : AxisName) → Spans a d.boxes (lines_of g a)) → CarriesBody g d
refines_from_spans d g grid spans =
    record {
      scaled = omega arith;
      rising = λ a. (grid.axes a).rising;
      has_lows = λ a b there. subst (λ (n : ℕ). Contains (lines_of g a) n) (once (low a b)) ((spans a).lows b there);
      has_highs = λ a b there. subst (λ (n : ℕ). Contains (lines_of g a) n) (once (high a b)) ((spans a).highs b there);
      from_hull = λ a p there.
          let (n, b, within, at, holds) = (spans a).from p there in
          let below : low a b ≤ p = holds in
          (n, b, within, at, omega arith);
      to_hull = λ a p there.
          let (n, b, within, at, holds) = (spans a).to p there in
          let above : p ≤ high a b = holds in
          (n, b, within, at, omega arith);
    }

-- lines that carry the base lines span the boxes
spans_from_carries : (boxes : List SpaceBox) (table : List ℕ) → HasHolders boxes table → ((a : AxisName) → IsAxis (base_lines a boxes)) →
    (a : AxisName) (lines : List ℕ) → IsStrictlyIncreasing lines → CarriesLines (base_lines a boxes) lines → Spans a boxes lines
spans_from_carries boxes table has axes a lines rising carries =
    record {
      lows = λ b there. carries.has_all (low a b) (low_line a boxes b there);
      highs = λ b there. carries.has_all (high a b) (high_line a boxes b there);
      from = λ p there.
          let (n, b, within, at, holds) = first_held boxes table has axes a in
          let below : low a b ≤ get_or (base_lines a boxes) 0 0 = holds in
          let least : get_or lines 0 0 ≤ p = first_is_least lines rising p there in
          let first : get_or lines 0 0 ≡ get_or (base_lines a boxes) 0 0 = carries.first in
          (n, b, within, at, omega arith);
      to = λ p there.
          let (n, b, within, at, holds) = last_held boxes table has axes a in
          let above : get_or (base_lines a boxes) (length (base_lines a boxes) - 1) 0 ≤ high a b = holds in
          let greatest : p ≤ get_or lines (length lines - 1) 0 = last_is_greatest lines rising p there in
          let last : get_or lines (length lines - 1) 0 ≡ get_or (base_lines a boxes) (length (base_lines a boxes) - 1) 0 = carries.last in
          (n, b, within, at, omega arith);
    }

-- and lines that span the boxes carry the base lines
has_base_lines : (boxes : List SpaceBox) (a : AxisName) (lines : List ℕ) → Spans a boxes lines → HasLines (base_lines a boxes) lines
has_base_lines boxes a lines spans x there =
    let (n, b, within, at, end) = line_of_box a boxes x there in
    ⊎_elim (λ (is : low a b ≡ x). subst (λ (y : ℕ). Contains lines y) is (spans.lows b (n, within, at)))
    (λ (is : high a b ≡ x). subst (λ (y : ℕ). Contains lines y) is (spans.highs b (n, within, at))) end

carries_from_spans : (boxes : List SpaceBox) (a : AxisName) (lines : List ℕ) → IsAxis (base_lines a boxes) → IsAxis lines → Spans a boxes lines →
    CarriesLines (base_lines a boxes) lines
carries_from_spans boxes a lines base axis spans =
    let all = has_base_lines boxes a lines spans in
    let base_long : 2 ≤ length (base_lines a boxes) = base.least in
    let long : 2 ≤ length lines = axis.least in
    let ends : ℕ = length (base_lines a boxes) - 1 in
    let (n, b, b_within, b_at, b_holds) = spans.from (get_or lines 0 0) (Contains-get_or lines 0 0 (omega arith)) in
    let (m, c, c_within, c_at, c_holds) = spans.to (get_or lines (length lines - 1) 0) (Contains-get_or lines (length lines - 1) 0 (omega arith)) in
    let b_below : low a b ≤ get_or lines 0 0 = b_holds in
    let c_above : get_or lines (length lines - 1) 0 ≤ high a c = c_holds in
    let b_least : get_or (base_lines a boxes) 0 0 ≤ low a b =
    first_is_least (base_lines a boxes) base.rising (low a b) (low_line a boxes b (n, b_within, b_at)) in
    let c_greatest : high a c ≤ get_or (base_lines a boxes) (length (base_lines a boxes) - 1) 0 =
    last_is_greatest (base_lines a boxes) base.rising (high a c) (high_line a boxes c (m, c_within, c_at)) in
    let least : get_or lines 0 0 ≤ get_or (base_lines a boxes) 0 0 =
    first_is_least lines axis.rising (get_or (base_lines a boxes) 0 0) (all (get_or (base_lines a boxes) 0 0) (Contains-get_or (base_lines a boxes) 0 0 (omega arith))) in
    let greatest : get_or (base_lines a boxes) (length (base_lines a boxes) - 1) 0 ≤ get_or lines (length lines - 1) 0 =
    last_is_greatest lines axis.rising (get_or (base_lines a boxes) (length (base_lines a boxes) - 1) 0)
    (all (get_or (base_lines a boxes) (length (base_lines a boxes) - 1) 0) (Contains-get_or (base_lines a boxes) (length (base_lines a boxes) - 1) 0 (omega arith))) in
    record { has_all = all; first = omega arith; last = omega arith }

-- ---- a grid that carries the base grid is a refinement of the body, and the converse
base_axes_are : (boxes : List SpaceBox) (base : Axes) → base ≡ base_axes boxes → IsGrid base → (a : AxisName) → IsAxis (base_lines a boxes)
base_axes_are boxes base is grid a = subst (λ (lines : List ℕ). IsAxis lines) (base_lines_of base boxes is a) (grid.axes a)

pub refines_from_carries : (d : Detail) (base g : Axes) (table : List ℕ) → base ≡ base_axes d.boxes → HasHolders d.boxes table → IsGrid base → IsGrid g →
    ((a : AxisName) → CarriesLines (lines_of base a) (lines_of g a)) → CarriesBody g d
refines_from_carries d base g table is has base_grid grid carries =
    refines_from_spans d g grid
    (λ a. spans_from_carries d.boxes table has (base_axes_are d.boxes base is base_grid) a (lines_of g a) (grid.axes a).rising
    (subst (λ (lines : List ℕ). CarriesLines lines (lines_of g a)) (base_lines_of base d.boxes is a) (carries a)))

pub carries_from_refines : (d : Detail) (base g : Axes) → base ≡ base_axes d.boxes → IsGrid base → IsGrid g → CarriesBody g d →
    (a : AxisName) → CarriesLines (lines_of base a) (lines_of g a)
carries_from_refines d base g is base_grid grid refines a =
    subst (λ (lines : List ℕ). CarriesLines lines (lines_of g a)) (sym (base_lines_of base d.boxes is a))
    (carries_from_spans d.boxes a (lines_of g a) (base_axes_are d.boxes base is base_grid a) (grid.axes a) (spans_along d g refines a))
