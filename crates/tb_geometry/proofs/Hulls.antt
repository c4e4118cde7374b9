-- Base lines are coordinates of boxes, so base cells lie in the hull, and the base grid is a refinement.
use Rattle.std.proofs.Common.{◌≡◌, ℕ, zero, suc, ◌+◌, ◌*◌, ◌<◌, ◌≤◌, ◌⊎◌, inl, inr, ⊎_elim, List, [], ◌∷◌, length, get_or, refl, subst, arith}
use Rattle.std.specs.List.{Any, Contains}
use Rattle.std.proofs.lemmas.List.Elements.{Contains-append_cases, Contains-get_or}
use Rattle.tb_places.specs.declared.AxisName.{AxisName}
use Rattle.tb_places.specs.declared.AxisName.TheVariants.{X, Y, Z}
use Rattle.tb_places.specs.declared.Place.{Place}
use Rattle.tb_places.proofs.Rows.{same_place}
use Rattle.tb_grid.specs.Axis.{IsIntervalOf}
use Rattle.tb_detail.specs.declared.Detail.{Detail}
use Rattle.tb_detail.specs.declared.SpaceBox.{SpaceBox}
use Rattle.tb_model.specs.Refinement.{Refines, high, low, scene_of}
use Rattle.tb_geometry.specs.Base.{HasCube, IsBaseCell, base_lines, base_of, coordinates}
use Rattle.tb_geometry.specs.Bodies.{AreBoxes}
use Rattle.tb_geometry.specs.Cubes.{IsInHull, IsInHullOn}
use Rattle.tb_geometry.proofs.Coordinates.{high_line, low_line}
use Rattle.tb_geometry.proofs.Covers.{corner_cube}
use Rattle.tb_grid.proofs.Intervals.{one_interval}
use Rattle.tb_geometry.proofs.Lines.{base_rises, base_through}

-- ---- a coordinate is that of some box
ends_cases : (x y n : ℕ) → Contains (x ∷ y ∷ []) n → (x ≡ n) ⊎ (y ≡ n)
ends_cases x y n (zero, within, is) = inl is
ends_cases x y n (suc zero, within, is) = inr is
ends_cases x y n (suc (suc k), within, is) = absurd (omega arith)

end_of_box : (a : AxisName) (boxes : List SpaceBox) (n : ℕ) → Contains (coordinates a boxes) n → Any (λ b. (low a b ≡ n) ⊎ (high a b ≡ n)) boxes
end_of_box a [] n (k, within, is) = absurd (omega arith)
end_of_box a (b ∷ boxes) n there =
    ⊎_elim (λ here. (0, b, omega arith, refl, ends_cases (low a b) (high a b) n here))
    (λ later. let (k, c, within, is, end) = end_of_box a boxes n later in (suc k, c, omega arith, is, end))
    (Contains-append_cases (low a b ∷ high a b ∷ []) (coordinates a boxes) n there)

pub line_of_box : (a : AxisName) (boxes : List SpaceBox) (n : ℕ) → Contains (base_lines a boxes) n → Any (λ b. (low a b ≡ n) ⊎ (high a b ≡ n)) boxes
line_of_box a boxes n there = end_of_box a boxes n (((base_through a boxes).same n).0 there)

-- ---- a base line is in the hull
proper_box : (boxes : List SpaceBox) (a : AxisName) (k : ℕ) (b : SpaceBox) → AreBoxes boxes → k < length boxes → get_or boxes k b ≡ b → low a b < high a b
proper_box boxes a k b are within is = subst (λ (box : SpaceBox). low a box < high a box) is (are.proper k b within a)

pub line_from : (a : AxisName) (boxes : List SpaceBox) (n : ℕ) → AreBoxes boxes → Contains (base_lines a boxes) n → Any (λ b. low a b ≤ n) boxes
line_from a boxes n are there =
    let (k, b, within, is, end) = line_of_box a boxes n there in
    let proper : low a b < high a b = proper_box boxes a k b are within is in
    (k, b, within, is, ⊎_elim (λ (at_low : low a b ≡ n). omega arith) (λ (at_high : high a b ≡ n). omega arith) end)

pub line_to : (a : AxisName) (boxes : List SpaceBox) (n : ℕ) → AreBoxes boxes → Contains (base_lines a boxes) n → Any (λ b. n ≤ high a b) boxes
line_to a boxes n are there =
    let (k, b, within, is, end) = line_of_box a boxes n there in
    let proper : low a b < high a b = proper_box boxes a k b are within is in
    (k, b, within, is, ⊎_elim (λ (at_low : low a b ≡ n). omega arith) (λ (at_high : high a b ≡ n). omega arith) end)

-- ---- scale 1
once : (n : ℕ) → 1 * n ≡ n
once n = omega arith

pub base_refines : (d : Detail) → AreBoxes d.boxes → Refines (scene_of d) (base_of d.boxes)
base_refines d are =
    record {
      scaled = omega arith;
      rising = λ a. base_rises a d.boxes;
      has_lows = λ a b there. rw (once (low a b)) (low_line a d.boxes b there);
      has_highs = λ a b there. rw (once (high a b)) (high_line a d.boxes b there);
      from_hull = λ a n there. let (k, b, within, is, reach) = line_from a d.boxes n are there in (k, b, within, is, rw (once (low a b)) reach);
      to_hull = λ a n there. let (k, b, within, is, reach) = line_to a d.boxes n are there in (k, b, within, is, rw (once (high a b)) reach);
    }

-- ---- the base cells divide the hull
interval_in_hull : (a : AxisName) (boxes : List SpaceBox) (x i : ℕ) → AreBoxes boxes → IsIntervalOf (base_lines a boxes) x i → IsInHullOn a boxes x
interval_in_hull a boxes x i are interval =
    let lines = base_lines a boxes in
    let within : i + 1 < length lines = interval.within in
    let low_end : get_or lines i 0 ≤ x = interval.holds.from in
    let high_end : x < get_or lines (i + 1) 0 = interval.holds.below in
    let (k, b, b_within, b_is, from) = line_from a boxes (get_or lines i 0) are (Contains-get_or lines i 0 (omega arith)) in
    let (n, c, c_within, c_is, to) = line_to a boxes (get_or lines (i + 1) 0) are (Contains-get_or lines (i + 1) 0 (omega arith)) in
    record { from = (k, b, b_within, b_is, omega arith); below = (n, c, c_within, c_is, omega arith) }

pub cube_in_hull : (boxes : List SpaceBox) (p : Place) (x y z : ℕ) → AreBoxes boxes → HasCube boxes p x y z → IsInHull boxes x y z
cube_in_hull boxes p x y z are has =
    record {
      on_x = interval_in_hull X boxes x p.i are has.on_x;
      on_y = interval_in_hull Y boxes y p.j are has.on_y;
      on_z = interval_in_hull Z boxes z p.k are has.on_z;
    }

pub one_cell : (boxes : List SpaceBox) (p q : Place) (x y z : ℕ) → HasCube boxes p x y z → HasCube boxes q x y z → p ≡ q
one_cell boxes p q x y z has also =
    same_place p q
    (one_interval (base_lines X boxes) (base_rises X boxes) x p.i q.i has.on_x also.on_x)
    (one_interval (base_lines Y boxes) (base_rises Y boxes) y p.j q.j has.on_y also.on_y)
    (one_interval (base_lines Z boxes) (base_rises Z boxes) z p.k q.k has.on_z also.on_z)

-- the low corner of a base cell is in the hull
pub corner_in_hull : (boxes : List SpaceBox) (p : Place) → AreBoxes boxes → IsBaseCell boxes p →
    IsInHull boxes (get_or (base_lines X boxes) p.i 0) (get_or (base_lines Y boxes) p.j 0) (get_or (base_lines Z boxes) p.k 0)
corner_in_hull boxes p are cell =
    cube_in_hull boxes p (get_or (base_lines X boxes) p.i 0) (get_or (base_lines Y boxes) p.j 0) (get_or (base_lines Z boxes) p.k 0) are
    (corner_cube boxes p cell)
