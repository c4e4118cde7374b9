-- there is one nearest least place of a parabola, and the form of the function does not matter
use mathlib.Core.Path.{◌≡◌, refl, sym, ap, ◌∙◌, subst}
use mathlib.Core.List.{[], ◌∷◌}
use Prim.Native.Nat.{◌≤◌}
use native.Mathlib.Omega.{arith}
use Rattle.std.proofs.lemmas.Int.{ints, by_lt_z}
use lib.IntN.{ℤ, pos, ◌+ℤ◌, ◌-ℤ◌, ◌*ℤ◌}
use lib.Signed.{◌≤ℤ◌}
use Rattle.tb_math.specs.Integers.{mul-nonneg, square-nonneg}
use Rattle.tb_math.proofs.ReadIntegers.{by_reading, reading}
use Rattle.tb_weighted.specs.Least.{IsNearestLeast, parabola, apart}

-- of a place p - d and a place p + d the middle gives no more than the mean
middle_is : (a b p d : ℤ) → parabola a b (p -ℤ d) +ℤ parabola a b (p +ℤ d) ≡ pos 2 *ℤ parabola a b p +ℤ pos 2 *ℤ (a *ℤ (d *ℤ d))
middle_is a b p d = by_reading {atoms = a ∷ b ∷ p ∷ d ∷ []} (search reading depth 60 fits 100000) (search reading depth 60 fits 100000) refl

middle_below : (x y m e : ℤ) → x +ℤ y ≡ pos 2 *ℤ m +ℤ pos 2 *ℤ e → pos 0 ≤ℤ e → x ≤ℤ y → y ≤ℤ x → m ≤ℤ x
middle_below x y m e h k l n = omega (arith, ints)

-- apart by d on the two sides of p
opposite : (a b lo hi p x y : ℤ) → pos 0 ≤ℤ a → lo ≤ℤ p → p ≤ℤ hi → IsNearestLeast (parabola a b) lo hi p x → IsNearestLeast (parabola a b) lo hi p y → x +ℤ y ≡ pos 2 *ℤ p → x ≡ y
opposite a b lo hi p x y ha l h k m e = both_near (k.nearest p l h pm) (m.nearest p l h pm')
  where
    d : ℤ
    d = p -ℤ x

    near_0 : apart p p ≤ 0
    near_0 = omega (arith, ints)

    both_near : apart x p ≤ apart p p → apart y p ≤ apart p p → x ≡ y
    both_near f g = omega (arith, ints)

    x_is : (x y p : ℤ) → x +ℤ y ≡ pos 2 *ℤ p → p -ℤ (p -ℤ x) ≡ x
    x_is x y p e = omega (arith, ints)

    y_is : (x y p : ℤ) → x +ℤ y ≡ pos 2 *ℤ p → p +ℤ (p -ℤ x) ≡ y
    y_is x y p e = omega (arith, ints)

    sums : parabola a b x +ℤ parabola a b y ≡ pos 2 *ℤ parabola a b p +ℤ pos 2 *ℤ (a *ℤ ((p -ℤ x) *ℤ (p -ℤ x)))
    sums = subst (λ (z : ℤ). parabola a b z +ℤ parabola a b y ≡ pos 2 *ℤ parabola a b p +ℤ pos 2 *ℤ (a *ℤ ((p -ℤ x) *ℤ (p -ℤ x)))) (x_is x y p e)
        (subst (λ (z : ℤ). parabola a b (p -ℤ (p -ℤ x)) +ℤ parabola a b z ≡ pos 2 *ℤ parabola a b p +ℤ pos 2 *ℤ (a *ℤ ((p -ℤ x) *ℤ (p -ℤ x)))) (y_is x y p e) (middle_is a b p (p -ℤ x)))

    pm : parabola a b p ≤ℤ parabola a b x
    pm = middle_below (parabola a b x) (parabola a b y) (parabola a b p) (a *ℤ ((p -ℤ x) *ℤ (p -ℤ x))) sums (mul-nonneg a ((p -ℤ x) *ℤ (p -ℤ x)) ha (square-nonneg (p -ℤ x))) (k.least y m.above m.below) (m.least x k.above k.below)

    pm' : parabola a b p ≤ℤ parabola a b y
    pm' = trans (parabola a b p) (parabola a b x) (parabola a b y) pm (k.least y m.above m.below)
      where
        trans : (u v w : ℤ) → u ≤ℤ v → v ≤ℤ w → u ≤ℤ w
        trans u v w f g = omega (arith, ints)

pub unique : (a b lo hi p x y : ℤ) → pos 0 ≤ℤ a → lo ≤ℤ p → p ≤ℤ hi → IsNearestLeast (parabola a b) lo hi p x → IsNearestLeast (parabola a b) lo hi p y → x ≡ y
unique a b lo hi p x y ha l h k m = cases (k.nearest y m.above m.below (m.least x k.above k.below)) (m.nearest x k.above k.below (k.least y m.above m.below))
  where
    cases : apart x p ≤ apart y p → apart y p ≤ apart x p → x ≡ y
    cases f g = by_lt_z x y
        (λ n. opposite a b lo hi p x y ha l h k m (omega (arith, ints)))
        (λ n. by_lt_z y x (λ o. opposite a b lo hi p x y ha l h k m (omega (arith, ints))) (λ o. omega (arith, ints)))

-- a function whose value at p + t is the parabola's at t, and something that stays
pub record IsParabola (f : ℤ → ℤ) (a b c : ℤ) : Type 0 where
  pub at : (t : ℤ) → f t ≡ parabola a b t +ℤ c

pub carried : (e : ℤ → ℤ) (a b c lo hi p t : ℤ) → IsParabola (λ s. e (p +ℤ s)) a b c → IsNearestLeast (parabola a b) (lo -ℤ p) (hi -ℤ p) (pos 0) t → IsNearestLeast e lo hi p (p +ℤ t)
carried e a b c lo hi p t f k = record {
  above = let h = k.above in omega (arith, ints);
  below = let h = k.below in omega (arith, ints);
  least = λ y l h. up (e (p +ℤ t)) (e y) (parabola a b t) (parabola a b (y -ℤ p)) (f.at t) (at_y y) (k.least (y -ℤ p) (omega (arith, ints)) (omega (arith, ints)));
  nearest = λ y l h m. far y (k.nearest (y -ℤ p) (omega (arith, ints)) (omega (arith, ints)) (down (e (p +ℤ t)) (e y) (parabola a b t) (parabola a b (y -ℤ p)) (f.at t) (at_y y) m));
}
  where
    shift : (p y : ℤ) → p +ℤ (y -ℤ p) ≡ y
    shift p y = omega (arith, ints)

    at_y : (y : ℤ) → e y ≡ parabola a b (y -ℤ p) +ℤ c
    at_y y = ap e (sym (shift p y)) ∙ f.at (y -ℤ p)

    up : (x y u v : ℤ) → x ≡ u +ℤ c → y ≡ v +ℤ c → u ≤ℤ v → x ≤ℤ y
    up x y u v g h l = omega (arith, ints)

    down : (x y u v : ℤ) → x ≡ u +ℤ c → y ≡ v +ℤ c → y ≤ℤ x → v ≤ℤ u
    down x y u v g h l = omega (arith, ints)

    far : (y : ℤ) → apart t (pos 0) ≤ apart (y -ℤ p) (pos 0) → apart (p +ℤ t) p ≤ apart y p
    far y h = omega (arith, ints)
