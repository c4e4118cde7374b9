-- Boxes that share no cube cover their hull exactly where their volumes add up to its volume.
--
-- The boxes that hold a cube are counted over all cubes of the hull, once cube by cube and once box by box.
use Rattle.std.proofs.Common.{◌≡◌, ◌∙◌, sym, ◌+◌, ◌-◌, ◌*◌, ◌<◌, ◌≤◌, ℕ, suc, List, [], ◌∷◌, get_or, arith}
use Rattle.std.proofs.lemmas.List.{get_or_default}
use Rattle.std.proofs.lemmas.List.Sums.{sum_by-cons}
use Rattle.std.specs.List.{All, sum_by}
use Rattle.tb_math.specs.Sums.{total_ℕ}
use Rattle.tb_places.specs.declared.AxisName.{AxisName}
use Rattle.tb_places.specs.declared.AxisName.TheVariants.{X, Y, Z}
use Rattle.tb_detail.specs.declared.SpaceBox.{SpaceBox}
use Rattle.tb_model.specs.Refinement.{low, high}
use Rattle.tb_geometry.specs.Cubes.{AreApart, IsCovered, IsInHull, IsInHullOn}
use Rattle.tb_geometry.specs.Volumes.{IsHull, box_volume, volume}
use Rattle.tb_geometry.proofs.CubeCounts.{has_holder, held, holder_count, holder_of, one_holder}
use Rattle.tb_geometry.proofs.Reaches.{reach, reach_total}
use Rattle.tb_geometry.proofs.Totals.{triple, triple_at_most, triple_each, triple_full, triple_none, triple_plus, triple_product}

-- where a box has an extent along an axis, it lies between lo and hi
abbrev IsBetween : (AxisName → ℕ) → (AxisName → ℕ) → SpaceBox → Type 0
IsBetween lo hi b = (a : AxisName) → low a b < high a b → (lo a ≤ low a b) × (high a b ≤ hi a)

boxes_between : (boxes : List SpaceBox) (lo hi : AxisName → ℕ) → IsHull boxes lo hi → All (IsBetween lo hi) boxes
boxes_between boxes lo hi hull k e within a extent =
    let b : SpaceBox = get_or boxes k e in
    let at : get_or boxes k b ≡ b = get_or_default boxes k b e within in
    let first : IsInHullOn a boxes (low a b) = record { from = (k, b, within, at, omega arith); below = (k, b, within, at, omega arith) } in
    let last : IsInHullOn a boxes (high a b - 1) = record { from = (k, b, within, at, omega arith); below = (k, b, within, at, omega arith) } in
    let from = (hull a (low a b)).0 first in
    let to = (hull a (high a b - 1)).0 last in
    (from.from, omega (arith, to.below))

-- the sum of f over the cubes from lo up to hi
abbrev over : (AxisName → ℕ) → (AxisName → ℕ) → (ℕ → ℕ → ℕ → ℕ) → ℕ
over lo hi f = triple (hi X - lo X) (hi Y - lo Y) (hi Z - lo Z) (λ i j k. f (lo X + i) (lo Y + j) (lo Z + k))

times_same : (a b c p q r : ℕ) → a ≡ p → b ≡ q → c ≡ r → a * (b * c) ≡ p * q * r
times_same a b c p q r e f g = rw (e, f, g) (omega arith)

-- a box holds as many of the cubes as its volume says
box_counted : (lo hi : AxisName → ℕ) (b : SpaceBox) → IsBetween lo hi b → over lo hi (held b) ≡ box_volume b
box_counted lo hi b between =
    triple_product (hi X - lo X) (hi Y - lo Y) (hi Z - lo Z) (λ i. reach (low X b) (high X b) (lo X + i))
    (λ j. reach (low Y b) (high Y b) (lo Y + j)) (λ k. reach (low Z b) (high Z b) (lo Z + k))
    ∙ times_same _ _ _ _ _ _ (along X) (along Y) (along Z)
  where
    along : (a : AxisName) → total_ℕ (hi a - lo a) (λ i. reach (low a b) (high a b) (lo a + i)) ≡ high a b - low a b
    along a = reach_total (lo a) (low a b) (high a b) (hi a) (between a)

-- so over all cubes the boxes that hold them add up to the volumes
boxes_counted : (lo hi : AxisName → ℕ) (bs : List SpaceBox) → All (IsBetween lo hi) bs → over lo hi (holder_count bs) ≡ sum_by box_volume bs
boxes_counted lo hi [] h = triple_none (hi X - lo X) (hi Y - lo Y) (hi Z - lo Z)
boxes_counted lo hi (b ∷ bs) h =
    let first = box_counted lo hi b (h 0 b (omega arith)) in
    let rest = boxes_counted lo hi bs (λ k d below. h (suc k) d (omega arith)) in
    let both = triple_plus (hi X - lo X) (hi Y - lo Y) (hi Z - lo Z) (λ i j k. held b (lo X + i) (lo Y + j) (lo Z + k))
    (λ i j k. holder_count bs (lo X + i) (lo Y + j) (lo Z + k)) in
    both ∙ rw (first, rest) (sym (sum_by-cons box_volume b bs))

one_each : (a b c : ℕ) → a * (b * (c * 1)) ≡ a * b * c
one_each a b c = omega arith

pub at_most : (boxes : List SpaceBox) (lo hi : AxisName → ℕ) → IsHull boxes lo hi → AreApart boxes → sum_by box_volume boxes ≤ volume lo hi
at_most boxes lo hi hull apart =
    let few = triple_at_most (hi X - lo X) (hi Y - lo Y) (hi Z - lo Z) (λ i j k. holder_count boxes (lo X + i) (lo Y + j) (lo Z + k))
    (λ i j k t u v. one_holder boxes (lo X + i) (lo Y + j) (lo Z + k) apart) in
    rw (← boxes_counted lo hi boxes (boxes_between boxes lo hi hull), ← one_each (hi X - lo X) (hi Y - lo Y) (hi Z - lo Z)) few

pub volumes_of_cover : (boxes : List SpaceBox) (lo hi : AxisName → ℕ) → IsHull boxes lo hi → AreApart boxes → IsCovered boxes → sum_by box_volume boxes ≡ volume lo hi
volumes_of_cover boxes lo hi hull apart cover =
    sym (boxes_counted lo hi boxes (boxes_between boxes lo hi hull))
    ∙ triple_each (hi X - lo X) (hi Y - lo Y) (hi Z - lo Z) (λ i j k. holder_count boxes (lo X + i) (lo Y + j) (lo Z + k)) one
    ∙ one_each (hi X - lo X) (hi Y - lo Y) (hi Z - lo Z)
  where
    one : (i j k : ℕ) → i < hi X - lo X → j < hi Y - lo Y → k < hi Z - lo Z → holder_count boxes (lo X + i) (lo Y + j) (lo Z + k) ≡ 1
    one i j k t u v =
        let cube : IsInHull boxes (lo X + i) (lo Y + j) (lo Z + k) = record {
          on_x = (hull X (lo X + i)).1 (record { from = omega arith; below = omega arith });
          on_y = (hull Y (lo Y + j)).1 (record { from = omega arith; below = omega arith });
          on_z = (hull Z (lo Z + k)).1 (record { from = omega arith; below = omega arith });
        } in
        let some = has_holder boxes (lo X + i) (lo Y + j) (lo Z + k) (cover (lo X + i) (lo Y + j) (lo Z + k) cube) in
        let few = one_holder boxes (lo X + i) (lo Y + j) (lo Z + k) apart in
        omega (arith, some, few)

from_low : (lo x : ℕ) → lo ≤ x → lo + (x - lo) ≡ x
from_low lo x h = omega arith

pub cover_of_volumes : (boxes : List SpaceBox) (lo hi : AxisName → ℕ) → IsHull boxes lo hi → AreApart boxes → sum_by box_volume boxes ≡ volume lo hi → IsCovered boxes
cover_of_volumes boxes lo hi hull apart full x y z cube =
    let all = boxes_counted lo hi boxes (boxes_between boxes lo hi hull) ∙ full ∙ sym (one_each (hi X - lo X) (hi Y - lo Y) (hi Z - lo Z)) in
    let on_x = (hull X x).0 cube.on_x in
    let on_y = (hull Y y).0 cube.on_y in
    let on_z = (hull Z z).0 cube.on_z in
    let one = triple_full (hi X - lo X) (hi Y - lo Y) (hi Z - lo Z) (λ i j k. holder_count boxes (lo X + i) (lo Y + j) (lo Z + k))
    (λ i j k t u v. one_holder boxes (lo X + i) (lo Y + j) (lo Z + k) apart) all
    (x - lo X) (y - lo Y) (z - lo Z) (omega (arith, on_x.from, on_x.below)) (omega (arith, on_y.from, on_y.below)) (omega (arith, on_z.from, on_z.below)) in
    holder_of boxes x y z (rw (from_low (lo X) x on_x.from, from_low (lo Y) y on_y.from, from_low (lo Z) z on_z.from) at one)
