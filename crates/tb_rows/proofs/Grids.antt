-- A grid that carries a body: how many cells it has, how wide they are, and its base lines.
use Rattle.std.proofs.Common.{◌≡◌, ◌∙◌, refl, sym, subst, ap, ℕ, ◌+◌, ◌-◌, ◌<◌, ◌≤◌, List, length, get_or, arith}
use Rattle.std.specs.List.{Contains}
use Rattle.std.specs.List.Sorted.{IsStrictlyIncreasing}
use Rattle.std.proofs.lemmas.List.Elements.{Contains-get_or}
use Rattle.tb_places.specs.declared.AxisName.{AxisName}
use Rattle.tb_places.specs.declared.AxisName.TheVariants.{X, Y, Z}
use Rattle.tb_detail.specs.Limits.{BoxInLimits, InLimits}
use Rattle.tb_detail.specs.declared.Detail.{Detail}
use Rattle.tb_detail.specs.declared.SpaceBox.{SpaceBox}
use Rattle.tb_grid.specs.Axis.{IsIntervalOf, IsLineAt, interval_count, interval_width}
use Rattle.tb_grid.specs.Grid.{Axes, IsGrid, counts_of, lines_of}
use Rattle.tb_grid.proofs.RisingLists.{at_most_from, before_from, never_falls, rises}
use Rattle.tb_model.specs.Refinement.{high}
use Rattle.tb_terms.specs.Limits.{IsWidth}
use Rattle.tb_geometry.specs.Base.{base_axes}
use Rattle.tb_geometry.specs.Grids.{CarriesBody}
use Rattle.tb_geometry.proofs.Carrying.{carries_from_refines, spans_along}
use Rattle.tb_rows.specs.Widths.{AreWidths}

pub counts_are : (g : Axes) (a : AxisName) → counts_of g a ≡ interval_count (lines_of g a)
counts_are g X = refl
counts_are g Y = refl
counts_are g Z = refl

pub few_cells : (g : Axes) (a : AxisName) → IsGrid g → counts_of g a ≤ 1023
few_cells g a grid = let few = (grid.axes a).most in let is = counts_are g a in omega (arith, few, is)

-- ---- widths
high_within : (d : Detail) (b : SpaceBox) → BoxInLimits d b → (a : AxisName) → high a b ≤ 500000
high_within d b limits X = limits.span.x.in_range.high
high_within d b limits Y = limits.span.y.in_range.high
high_within d b limits Z = limits.span.z.in_range.high

coordinate_within : (d : Detail) (g : Axes) → InLimits d → CarriesBody g d → (a : AxisName) (p : ℕ) → Contains (lines_of g a) p → p ≤ 500000
coordinate_within d g limits carries a p there =
    let (n, b, within, at, holds) = (spans_along d g carries a).to p there in
    let above : p ≤ high a b = holds in
    let most : high a b ≤ 500000 = high_within d b (subst (λ (box : SpaceBox). BoxInLimits d box) at (limits.boxes n b within)) a in
    omega arith

width_of_lines : (lines : List ℕ) → IsStrictlyIncreasing lines → ((p : ℕ) → Contains lines p → p ≤ 500000) → (i : ℕ) → i + 1 < length lines →
    IsWidth (get_or lines (i + 1) 0 - get_or lines i 0)
width_of_lines lines rising within i l =
    let up : get_or lines i 0 < get_or lines (i + 1) 0 = rises lines rising i (i + 1) (omega arith) l in
    let most : get_or lines (i + 1) 0 ≤ 500000 = within (get_or lines (i + 1) 0) (Contains-get_or lines (i + 1) 0 l) in
    record { above_zero = omega arith; at_most = omega arith }

pub width_fits : (d : Detail) (g : Axes) → InLimits d → CarriesBody g d → (a : AxisName) (i : ℕ) → i < counts_of g a → IsWidth (interval_width (lines_of g a) i)
width_fits d g limits carries a i l =
    let is = counts_are g a in
    width_of_lines (lines_of g a) (carries.rising a) (coordinate_within d g limits carries a) i (omega (arith, is, l))

pub widths_fit : (d : Detail) (g : Axes) → InLimits d → CarriesBody g d → AreWidths g.x
widths_fit d g limits carries =
    record {
      rises = λ i l. never_falls g.x (carries.rising X) i (i + 1) (omega arith) l;
      each = λ i l. width_of_lines g.x (carries.rising X) (coordinate_within d g limits carries X) i l;
    }

-- ---- base lines
pub base_line_there : (d : Detail) (base g : Axes) → base ≡ base_axes d.boxes → IsGrid base → IsGrid g → CarriesBody g d → (a : AxisName) (b : ℕ) →
    b < length (lines_of base a) → Contains (lines_of g a) (get_or (lines_of base a) b 0)
base_line_there d base g is base_grid grid carries a b l =
    (carries_from_refines d base g is base_grid grid carries a).has_all (get_or (lines_of base a) b 0) (Contains-get_or (lines_of base a) b 0 l)

-- between the lines that stand at one base line and the next all lines lie in that base interval
pub record IsBetween (base lines : List ℕ) (b from to : ℕ) : Type 0 where
  pub up : from < to
  pub within : to ≤ interval_count lines
  pub lies : (i : ℕ) → from ≤ i → i < to → IsIntervalOf base (get_or lines i 0) b

pub between_lines : (base lines : List ℕ) → IsStrictlyIncreasing base → IsStrictlyIncreasing lines → (b from to : ℕ) → b + 1 < length base →
    IsLineAt lines (get_or base b 0) from → IsLineAt lines (get_or base (b + 1) 0) to → IsBetween base lines b from to
between_lines base lines base_rises rising b from to l f t =
    let step : get_or base b 0 < get_or base (b + 1) 0 = rises base base_rises b (b + 1) (omega arith) l in
    let from_within : from < length lines = f.within in
    let to_within : to < length lines = t.within in
    let at_from : get_or lines from 0 ≡ get_or base b 0 = f.stands in
    let at_to : get_or lines to 0 ≡ get_or base (b + 1) 0 = t.stands in
    record {
      up = before_from lines rising from to from_within (omega arith);
      within = omega arith;
      lies = λ i low high.
          let above : get_or lines from 0 ≤ get_or lines i 0 = never_falls lines rising from i low (omega arith) in
          let below : get_or lines i 0 < get_or lines to 0 = rises lines rising i to high to_within in
          record { within = l; holds = record { from = omega arith; below = omega arith } };
    }

-- a rising list has one line at a coordinate
pub one_line : (lines : List ℕ) → IsStrictlyIncreasing lines → (i j : ℕ) → i < length lines → j < length lines → get_or lines i 0 ≡ get_or lines j 0 → i ≡ j
one_line lines rising i j l m e =
    let a : i ≤ j = at_most_from lines rising i j l (omega arith) in
    let b : j ≤ i = at_most_from lines rising j i m (omega arith) in
    omega arith

-- the first and the last base line stand at the first and the last line of the grid
pub first_line : (d : Detail) (base g : Axes) → base ≡ base_axes d.boxes → IsGrid base → IsGrid g → CarriesBody g d → (from : ℕ) →
    IsLineAt g.x (get_or (lines_of base X) 0 0) from → from ≡ 0
first_line d base g is base_grid grid carries from at =
    let long = (grid.axes X).least in
    let first = (carries_from_refines d base g is base_grid grid carries X).first in
    one_line g.x (carries.rising X) from 0 at.within (omega (arith, long)) (at.stands ∙ sym first)

pub last_line : (d : Detail) (base g : Axes) → base ≡ base_axes d.boxes → IsGrid base → IsGrid g → CarriesBody g d → (n to : ℕ) →
    n ≡ interval_count (lines_of base X) → IsLineAt g.x (get_or (lines_of base X) n 0) to → to ≡ counts_of g X
last_line d base g is base_grid grid carries n to e at =
    let long = (grid.axes X).least in
    let last = (carries_from_refines d base g is base_grid grid carries X).last in
    one_line g.x (carries.rising X) to (length g.x - 1) at.within (omega (arith, long)) (at.stands ∙ ap (λ (m : ℕ). get_or (lines_of base X) m 0) e ∙ sym last)

-- a line's index is at most the number of cells
pub line_within : (g : Axes) (i : ℕ) → i < length g.x → i ≤ counts_of g X
line_within g i l = let is = counts_are g X in omega (arith, l, is)
