-- What leaves a cell, from what leaves it along each axis.
use Rattle.std.proofs.Common.{◌≡◌, ℕ, List, ◌≤◌, ◌*◌, ◌^◌, arith, refl, ap, ◌∙◌}
use Rattle.std.specs.Prelude.{ℤ, ◌+ℤ◌, ◌-ℤ◌, unsigned_abs}
use Rattle.std.proofs.lemmas.Int.{ints}
use mir.Syntax.{w64}
use mir.Val.{to_z, of_z}
use Rattle.tb_places.specs.declared.AxisName.{AxisName}
use Rattle.tb_places.specs.declared.AxisName.TheVariants.{X, Y, Z}
use Rattle.tb_places.specs.declared.Place.{Place}
use Rattle.tb_places.specs.Inverse.{cell_place}
use Rattle.tb_places.specs.Places.{Counts}
use Rattle.tb_outlets.specs.declared.side.Side.{Side}
use Rattle.tb_outlets.specs.declared.side.Side.TheVariants.{Low, High}
use Rattle.tb_outlets.specs.Flows.{net}
use Rattle.tb_outlets.specs.Sides.{face_of, number_on}
use Rattle.tb_outlets.specs.Balancing.{flow, balancing}

abbrev pub along_axis : Counts → List ℤ → Place → AxisName → ℤ
along_axis n values p a = flow values (number_on n (High a) p) -ℤ flow values (number_on n (Low a) p)

pub net_sum : (n : Counts) (values : List ℤ) (c : ℕ) (p : Place) (x y z : ℤ) → p ≡ cell_place n c →
    x ≡ along_axis n values p X → y ≡ along_axis n values p Y → z ≡ along_axis n values p Z →
    (x +ℤ y) +ℤ z ≡ net (face_of n) (flow values) c
net_sum n values c p x y z place on_x on_y on_z =
    let plus = λ (u : ℤ) (v : ℤ). u +ℤ v in
    let one : (x +ℤ y) +ℤ z ≡ (along_axis n values p X +ℤ along_axis n values p Y) +ℤ along_axis n values p Z = rw (on_x, on_y, on_z) refl in
    one ∙ ap (λ (q : Place). (along_axis n values q X +ℤ along_axis n values q Y) +ℤ along_axis n values q Z) place

pub stored_sum : (x y z : ℤ) → unsigned_abs x ≤ 2 * 10 ^ 12 → unsigned_abs y ≤ 2 * 10 ^ 12 → unsigned_abs z ≤ 2 * 10 ^ 12 →
    to_z w64 (of_z w64 (to_z w64 (of_z w64 (to_z w64 (of_z w64 x) +ℤ to_z w64 (of_z w64 y))) +ℤ to_z w64 (of_z w64 z))) ≡ (x +ℤ y) +ℤ z
stored_sum x y z on_x on_y on_z = omega (arith, ints)

pub least_sum : (x y z : ℤ) → unsigned_abs x ≤ 2 * 10 ^ 12 → unsigned_abs y ≤ 2 * 10 ^ 12 → unsigned_abs z ≤ 2 * 10 ^ 12 →
    unsigned_abs ((x +ℤ y) +ℤ z) ≤ 6 * 10 ^ 12
least_sum x y z on_x on_y on_z = omega (arith, ints)

pub stored_low : (x y : ℤ) → unsigned_abs x ≤ 10 ^ 12 → unsigned_abs y ≤ 6 * 10 ^ 12 → to_z w64 (of_z w64 (to_z w64 (of_z w64 x) +ℤ to_z w64 (of_z w64 y))) ≡ x +ℤ y
stored_low x y on_x on_y = omega (arith, ints)

pub stored_high : (x y : ℤ) → unsigned_abs x ≤ 10 ^ 12 → unsigned_abs y ≤ 6 * 10 ^ 12 → to_z w64 (of_z w64 (to_z w64 (of_z w64 x) -ℤ to_z w64 (of_z w64 y))) ≡ x -ℤ y
stored_high x y on_x on_y = omega (arith, ints)

-- the value at the face on a side, where it was found by the cell's place
pub found_at : (n : Counts) (values : List ℤ) (c : ℕ) (p : Place) (f : ℕ) (s : Side) (x : ℤ) → p ≡ cell_place n c →
    f ≡ number_on n s p → x ≡ flow values f → x ≡ flow values (face_of n c s)
found_at n values c p f s x place face value =
    value ∙ ap (flow values) face ∙ ap (λ (q : Place). flow values (number_on n s q)) place

pub at_low : (n : Counts) (values : List ℤ) (c : ℕ) (s : Side) (a : AxisName) (x y : ℤ) → s ≡ Low a → x ≡ flow values (face_of n c s) →
    y ≡ net (face_of n) (flow values) c → x +ℤ y ≡ balancing (face_of n) (flow values) c s
at_low n values c (Low b) a x y is value lost = rw (value, lost) refl
at_low n values c (High b) a x y is value lost = absurd (cc is)

pub at_high : (n : Counts) (values : List ℤ) (c : ℕ) (s : Side) (a : AxisName) (x y : ℤ) → s ≡ High a → x ≡ flow values (face_of n c s) →
    y ≡ net (face_of n) (flow values) c → x -ℤ y ≡ balancing (face_of n) (flow values) c s
at_high n values c (Low b) a x y is value lost = absurd (cc is)
at_high n values c (High b) a x y is value lost = rw (value, lost) refl
