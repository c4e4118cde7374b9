-- a parabola that opens upwards is least where its slopes turn
use mathlib.Core.Path.{◌≡◌, refl, subst}
use mathlib.Core.List.{[], ◌∷◌}
use Prim.Native.Nat.{◌≤◌}
use native.Mathlib.Omega.{arith}
use Rattle.std.proofs.lemmas.Int.{ints, by_lt_z}
use lib.IntN.{ℤ, pos, ◌+ℤ◌, ◌-ℤ◌, ◌*ℤ◌, neg_ℤ}
use lib.Signed.{◌≤ℤ◌, ◌<ℤ◌}
use Rattle.tb_math.specs.Integers.{mul-nonneg}
use Rattle.tb_math.proofs.ReadIntegers.{by_reading, reading}
use Rattle.tb_weighted.specs.Least.{IsNearestLeast, parabola, apart}

-- the slope from t to t + 1, and that from t to t - 1
abbrev pub up_slope : ℤ → ℤ → ℤ → ℤ
up_slope a b t = a *ℤ (pos 2 *ℤ t +ℤ pos 1) +ℤ b

abbrev pub down_slope : ℤ → ℤ → ℤ → ℤ
down_slope a b t = a *ℤ (pos 2 *ℤ t -ℤ pos 1) +ℤ b

from_sum : (x y d : ℤ) → y ≡ x +ℤ d → pos 0 ≤ℤ d → x ≤ℤ y
from_sum x y d e h = omega (arith, ints)

step_is : (a b s u : ℤ) → parabola a b (s +ℤ (u +ℤ pos 1)) ≡ parabola a b s +ℤ ((u +ℤ pos 1) *ℤ up_slope a b s +ℤ a *ℤ ((u +ℤ pos 1) *ℤ u))
step_is a b s u = by_reading {atoms = a ∷ b ∷ s ∷ u ∷ []} (search reading depth 60 fits 100000) (search reading depth 60 fits 100000) refl

rises_by : (a b s u : ℤ) → pos 0 ≤ℤ a → pos 0 ≤ℤ u → pos 0 ≤ℤ up_slope a b s → parabola a b s ≤ℤ parabola a b (s +ℤ (u +ℤ pos 1))
rises_by a b s u ha hu hs =
    let hv : pos 0 ≤ℤ (u +ℤ pos 1) = omega (arith, ints) in
    from_sum (parabola a b s) (parabola a b (s +ℤ (u +ℤ pos 1))) ((u +ℤ pos 1) *ℤ up_slope a b s +ℤ a *ℤ ((u +ℤ pos 1) *ℤ u)) (step_is a b s u)
    (sum_pos ((u +ℤ pos 1) *ℤ up_slope a b s) (a *ℤ ((u +ℤ pos 1) *ℤ u)) (mul-nonneg (u +ℤ pos 1) (up_slope a b s) hv hs) (mul-nonneg a ((u +ℤ pos 1) *ℤ u) ha (mul-nonneg (u +ℤ pos 1) u hv hu)))
  where
    sum_pos : (x y : ℤ) → pos 0 ≤ℤ x → pos 0 ≤ℤ y → pos 0 ≤ℤ (x +ℤ y)
    sum_pos x y h k = omega (arith, ints)

gap_is : (s t : ℤ) → s +ℤ ((t -ℤ s -ℤ pos 1) +ℤ pos 1) ≡ t
gap_is s t = omega (arith, ints)

-- past s it rises, where the step up from s does not fall
pub rises : (a b s t : ℤ) → pos 0 ≤ℤ a → s <ℤ t → pos 0 ≤ℤ up_slope a b s → parabola a b s ≤ℤ parabola a b t
rises a b s t ha l hs =
    let hu : pos 0 ≤ℤ (t -ℤ s -ℤ pos 1) = omega (arith, ints) in
    subst (λ (z : ℤ). parabola a b s ≤ℤ parabola a b z) (gap_is s t) (rises_by a b s (t -ℤ s -ℤ pos 1) ha hu hs)

less_is : (a b t : ℤ) → parabola a b t ≡ parabola a (b -ℤ pos 1) t +ℤ t
less_is a b t = by_reading {atoms = a ∷ b ∷ t ∷ []} (search reading depth 60 fits 100000) (search reading depth 60 fits 100000) refl

slope_less : (a b s : ℤ) → up_slope a b s ≡ up_slope a (b -ℤ pos 1) s +ℤ pos 1
slope_less a b s = by_reading {atoms = a ∷ b ∷ s ∷ []} (search reading depth 60 fits 100000) (search reading depth 60 fits 100000) refl

pub rises_strictly : (a b s t : ℤ) → pos 0 ≤ℤ a → s <ℤ t → pos 0 <ℤ up_slope a b s → parabola a b s <ℤ parabola a b t
rises_strictly a b s t ha l hs =
    last (parabola a b s) (parabola a b t) (parabola a (b -ℤ pos 1) s) (parabola a (b -ℤ pos 1) t) (less_is a b s) (less_is a b t)
    (rises a (b -ℤ pos 1) s t ha l (lower (up_slope a b s) (up_slope a (b -ℤ pos 1) s) (slope_less a b s) hs))
  where
    last : (x y x' y' : ℤ) → x ≡ x' +ℤ s → y ≡ y' +ℤ t → x' ≤ℤ y' → x <ℤ y
    last x y x' y' e f h = omega (arith, ints)

    lower : (x y : ℤ) → x ≡ y +ℤ pos 1 → pos 0 <ℤ x → pos 0 ≤ℤ y
    lower x y e h = omega (arith, ints)

mirror : (a b t : ℤ) → parabola a (neg_ℤ b) (neg_ℤ t) ≡ parabola a b t
mirror a b t = by_reading {atoms = a ∷ b ∷ t ∷ []} (search reading depth 60 fits 100000) (search reading depth 60 fits 100000) refl

mirror_slope : (a b t : ℤ) → up_slope a (neg_ℤ b) (neg_ℤ t) ≡ neg_ℤ (down_slope a b t)
mirror_slope a b t = by_reading {atoms = a ∷ b ∷ t ∷ []} (search reading depth 60 fits 100000) (search reading depth 60 fits 100000) refl

flip_le : (x y : ℤ) → x ≡ neg_ℤ y → y ≤ℤ pos 0 → pos 0 ≤ℤ x
flip_le x y e h = omega (arith, ints)

flip_lt : (x y : ℤ) → x ≡ neg_ℤ y → y <ℤ pos 0 → pos 0 <ℤ x
flip_lt x y e h = omega (arith, ints)

-- before s it falls, where the step down from s does not fall
pub falls : (a b s t : ℤ) → pos 0 ≤ℤ a → t <ℤ s → down_slope a b s ≤ℤ pos 0 → parabola a b s ≤ℤ parabola a b t
falls a b s t ha l hs =
    let m : neg_ℤ s <ℤ neg_ℤ t = omega (arith, ints) in
    subst (λ (z : ℤ). z ≤ℤ parabola a b t) (mirror a b s) (subst (λ (z : ℤ). parabola a (neg_ℤ b) (neg_ℤ s) ≤ℤ z) (mirror a b t)
    (rises a (neg_ℤ b) (neg_ℤ s) (neg_ℤ t) ha m (flip_le (up_slope a (neg_ℤ b) (neg_ℤ s)) (down_slope a b s) (mirror_slope a b s) hs)))

pub falls_strictly : (a b s t : ℤ) → pos 0 ≤ℤ a → t <ℤ s → down_slope a b s <ℤ pos 0 → parabola a b s <ℤ parabola a b t
falls_strictly a b s t ha l hs =
    let m : neg_ℤ s <ℤ neg_ℤ t = omega (arith, ints) in
    subst (λ (z : ℤ). z <ℤ parabola a b t) (mirror a b s) (subst (λ (z : ℤ). parabola a (neg_ℤ b) (neg_ℤ s) <ℤ z) (mirror a b t)
    (rises_strictly a (neg_ℤ b) (neg_ℤ s) (neg_ℤ t) ha m (flip_lt (up_slope a (neg_ℤ b) (neg_ℤ s)) (down_slope a b s) (mirror_slope a b s) hs)))

-- the slopes of a least place: they are tests on s and its neighbours alone
pub record Turns (a b lo hi s : ℤ) : Type 0 where
  pub above : lo ≤ℤ s
  pub below : s ≤ℤ hi
  pub rise : s <ℤ hi → pos 0 ≤ℤ up_slope a b s
  pub fall : lo <ℤ s → down_slope a b s ≤ℤ pos 0
  pub back_up : s <ℤ pos 0 → pos 0 <ℤ up_slope a b s
  pub back_down : pos 0 <ℤ s → down_slope a b s <ℤ pos 0

pub turns_least : (a b lo hi s : ℤ) → pos 0 ≤ℤ a → Turns a b lo hi s → IsNearestLeast (parabola a b) lo hi (pos 0) s
turns_least a b lo hi s ha k = record { above = k.above; below = k.below; least = least; nearest = nearest }
  where
    same : (y : ℤ) → s ≤ℤ y → y ≤ℤ s → parabola a b s ≤ℤ parabola a b y
    same y h l = let e : s ≡ y = omega (arith, ints) in subst (λ (z : ℤ). parabola a b s ≤ℤ parabola a b z) e (le_refl (parabola a b s))
      where
        le_refl : (x : ℤ) → x ≤ℤ x
        le_refl x = omega (arith, ints)

    least : (y : ℤ) → lo ≤ℤ y → y ≤ℤ hi → parabola a b s ≤ℤ parabola a b y
    least y l h = by_lt_z s y (λ m. let n : s <ℤ hi = omega (arith, ints) in rises a b s y ha m (k.rise n))
        (λ m. by_lt_z y s (λ n. let o : lo <ℤ s = omega (arith, ints) in falls a b s y ha n (k.fall o)) (λ n. same y n m))

    against : (x y : ℤ) {P : Type 0} → x <ℤ y → y ≤ℤ x → P
    against x y h l = absurd (omega (arith, ints))

    nearest : (y : ℤ) → lo ≤ℤ y → y ≤ℤ hi → parabola a b y ≤ℤ parabola a b s → apart s (pos 0) ≤ apart y (pos 0)
    nearest y l h e =
        by_lt_z (pos 0) s
        (λ m. by_lt_z y s (λ n. against (parabola a b s) (parabola a b y) (falls_strictly a b s y ha n (k.back_down m)) e) (λ n. omega (arith, ints)))
        (λ m. by_lt_z s (pos 0)
        (λ n. by_lt_z s y (λ o. against (parabola a b s) (parabola a b y) (rises_strictly a b s y ha o (k.back_up n)) e) (λ o. omega (arith, ints)))
        (λ n. omega (arith, ints)))
