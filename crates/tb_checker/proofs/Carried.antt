-- A case that was read is on a grid that carries its body, and can be judged.
use Rattle.std.proofs.Common.{◌≡◌, refl, sym, subst, ℕ, ◌-◌, ◌*◌, ◌^◌, ◌≤◌, ℤ, pos, ◌≤ℤ◌, unsigned_abs, List, length, get_or, arith, All}
use Rattle.std.proofs.lemmas.Int.{ints}
use Rattle.std.specs.List.{Any, Contains}
use Rattle.std.proofs.lemmas.List.Elements.{Contains-get_or}
use Rattle.tb_places.specs.declared.AxisName.{AxisName}
use Rattle.tb_places.specs.declared.AxisName.TheVariants.{X, Y, Z}
use Rattle.tb_detail.specs.declared.Detail.{Detail}
use Rattle.tb_detail.specs.Limits.{InLimits}
use Rattle.tb_grid.specs.Grid.{Axes, IsGrid, lines_of}
use Rattle.tb_model.specs.Refinement.{high, low}
use Rattle.tb_geometry.specs.Base.{base_axes, base_lines}
use Rattle.tb_geometry.specs.Grids.{CarriesBody}
use Rattle.tb_geometry.proofs.Carrying.{first_is_least, last_is_greatest}
use Rattle.tb_geometry.proofs.Steps.{boxes_in_limits}
use Rattle.tb_geometry.proofs.Tables.{base_lines_of}
use Rattle.tb_geometry.proofs.Whole.{base_carries}
use Rattle.tb_field.specs.Fields.{AreTemperatures, IsTemperature}
use Rattle.tb_flux.specs.Fluxes.{AreFlows}
use Rattle.tb_case_records.specs.declared.case.CaseProof.{CaseProof}
use Rattle.tb_case_records.specs.Limits.{CaseInLimits, IsFaceValue, IsNodeValue, IsOnBase}
use Rattle.tb_bundle.specs.Bodies.{case_form}
use Rattle.tb_checker.specs.Contents.{IsJudgeable}

-- ---- lines that carry the base lines refine the body

module _ (d : Detail) (limits : InLimits d) (g : Axes) (grid : IsGrid g) (on : (a : AxisName) → IsOnBase (base_lines a d.boxes) (lines_of g a)) where
  abbrev base : Axes
  base = base_axes d.boxes

  refines : CarriesBody base d
  refines = base_carries d (boxes_in_limits d limits)

  -- a base line is a line of the grid
  kept : (a : AxisName) (x : ℕ) → Contains (lines_of base a) x → Contains (lines_of g a) x
  kept a x there = (on a).carries.has_all x (subst (λ (lines : List ℕ). Contains lines x) (base_lines_of base d.boxes refl a) there)

  base_has : (a : AxisName) (x : ℕ) → Contains (base_lines a d.boxes) x → Contains (lines_of base a) x
  base_has a x there = subst (λ (lines : List ℕ). Contains lines x) (sym (base_lines_of base d.boxes refl a)) there

  from_hull : (a : AxisName) (p : ℕ) → Contains (lines_of g a) p → Any (λ b. 1 * low a b ≤ p) d.boxes
  from_hull a p there =
      let some : 1 ≤ length (base_lines a d.boxes) = (on a).some in
      let (n, b, within, at, holds) = refines.from_hull a (get_or (base_lines a d.boxes) 0 0) (base_has a (get_or (base_lines a d.boxes) 0 0) (Contains-get_or (base_lines a d.boxes) 0 0 (omega arith))) in
      let below : 1 * low a b ≤ get_or (base_lines a d.boxes) 0 0 = holds in
      let least : get_or (lines_of g a) 0 0 ≤ p = first_is_least (lines_of g a) (grid.axes a).rising p there in
      let same : get_or (lines_of g a) 0 0 ≡ get_or (base_lines a d.boxes) 0 0 = (on a).carries.first in
      (n, b, within, at, omega arith)

  to_hull : (a : AxisName) (p : ℕ) → Contains (lines_of g a) p → Any (λ b. p ≤ 1 * high a b) d.boxes
  to_hull a p there =
      let some : 1 ≤ length (base_lines a d.boxes) = (on a).some in
      let last : ℕ = length (base_lines a d.boxes) - 1 in
      let (n, b, within, at, holds) = refines.to_hull a (get_or (base_lines a d.boxes) last 0) (base_has a (get_or (base_lines a d.boxes) last 0) (Contains-get_or (base_lines a d.boxes) last 0 (omega arith))) in
      let above : get_or (base_lines a d.boxes) last 0 ≤ 1 * high a b = holds in
      let greatest : p ≤ get_or (lines_of g a) (length (lines_of g a) - 1) 0 = last_is_greatest (lines_of g a) (grid.axes a).rising p there in
      let same : get_or (lines_of g a) (length (lines_of g a) - 1) 0 ≡ get_or (base_lines a d.boxes) last 0 = (on a).carries.last in
      (n, b, within, at, omega arith)

  pub carries : CarriesBody g d
  carries = record {
    scaled = omega arith;
    rising = λ a. (grid.axes a).rising;
    has_lows = λ a b there. kept a (1 * low a b) (refines.has_lows a b there);
    has_highs = λ a b there. kept a (1 * high a b) (refines.has_highs a b there);
    from_hull = from_hull;
    to_hull = to_hull;
  }

-- ---- a case that was read can be judged

temperature : (z : ℤ) → IsNodeValue z → IsTemperature z
temperature z h =
    let least : pos 0 ≤ℤ z = h.0 in
    let size : unsigned_abs z ≤ 10 ^ 8 = h.1 in
    record { least = least; most = omega (arith, ints) }

temperatures : (values : List ℤ) → All IsNodeValue values → AreTemperatures values
temperatures values each = λ k e within. temperature (get_or values k e) (each k e within)

flows : (values : List ℤ) → All IsFaceValue values → AreFlows values
flows values each = λ k e within. record { at_most = each k e within }

pub judgeable : (d : Detail) (number mask : ℕ) (c : CaseProof) → InLimits d → CaseInLimits (case_form d number mask) c → IsJudgeable d c
judgeable d number mask c limits h =
    record {
      carries = carries d limits c.grid h.grid on_base;
      nodes = h.field.one_each;
      temperatures = temperatures c.field h.field.each;
      faces = h.flux.one_each;
      flows = flows c.flux h.flux.each;
      low_end = h.low_end;
      high_end = h.high_end;
      width = h.width;
    }
  where
    on_base : (a : AxisName) → IsOnBase (base_lines a d.boxes) (lines_of c.grid a)
    on_base X = h.on_x
    on_base Y = h.on_y
    on_base Z = h.on_z
