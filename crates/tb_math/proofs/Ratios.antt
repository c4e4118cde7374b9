-- Quotients of a whole number by a natural one: order and equality by cross products, in both directions, and their sums and products.
use mathlib.Core.Path.{◌≡◌, refl, sym, ap, ◌∙◌, subst}
use mathlib.Core.List.{[], ◌∷◌}
use mathlib.Core.Logic.{◌↔◌}
use mathlib.Core.Quot.{mk, sound, ind}
use Prim.Native.Nat.{ℕ, ◌*◌, ◌<◌}
use lib.IntN.{ℤ, pos, ◌+ℤ◌, ◌*ℤ◌}
use lib.Signed.{◌≤ℤ◌}
use Rattle.tb_math.specs.Fraction.{Fraction, ◌≈◌}
use Rattle.tb_math.specs.Rational.{ℚ, int, one_over, ratio, ◌+ℚ◌, ◌*ℚ◌, ◌≤ℚ◌}
use Rattle.tb_math.specs.Division.{inverse}
use Rattle.tb_math.proofs.RationalLaws.{int-mul, fraction_is, one_over_cancel}
use Rattle.tb_math.proofs.RationalOrder.{≤ℚ-from, ≤ℚ-to, ≡-to}
use Rattle.tb_math.proofs.DivisionLaws.{inverse-int, inverse-mul}
use Rattle.tb_math.proofs.ReadRationals.{by_reading, by_given, reading, none, given}

-- z / n as a fraction
abbrev over : (z : ℤ) (n : ℕ) → 0 < n → Fraction
over z n h = record { numerator = z; denominator = n; positive = h }

pub ratio-≤ : (z w : ℤ) (n m : ℕ) → 0 < n → 0 < m → ratio z n ≤ℚ ratio w m ↔ (z *ℤ pos m) ≤ℤ (w *ℤ pos n)
ratio-≤ z w n m h k = (out, back)
  where
    out : ratio z n ≤ℚ ratio w m → (z *ℤ pos m) ≤ℤ (w *ℤ pos n)
    out l = (≤ℚ-to (over z n h) (over w m k)
        (subst (λ (q : ℚ). q ≤ℚ mk (over w m k)) (sym (fraction_is z n h)) (subst (λ (q : ℚ). ratio z n ≤ℚ q) (sym (fraction_is w m k)) l))).at_most

    back : (z *ℤ pos m) ≤ℤ (w *ℤ pos n) → ratio z n ≤ℚ ratio w m
    back l = subst (λ (q : ℚ). q ≤ℚ ratio w m) (fraction_is z n h)
        (subst (λ (q : ℚ). mk (over z n h) ≤ℚ q) (fraction_is w m k) (≤ℚ-from (over z n h) (over w m k) (record { at_most = l })))

pub ratio-≡ : (z w : ℤ) (n m : ℕ) → 0 < n → 0 < m → ratio z n ≡ ratio w m ↔ z *ℤ pos m ≡ w *ℤ pos n
ratio-≡ z w n m h k = (out, back)
  where
    out : ratio z n ≡ ratio w m → z *ℤ pos m ≡ w *ℤ pos n
    out e = (≡-to (over z n h) (over w m k) (fraction_is z n h ∙ e ∙ sym (fraction_is w m k))).same

    back : z *ℤ pos m ≡ w *ℤ pos n → ratio z n ≡ ratio w m
    back e = sym (fraction_is z n h) ∙ sound {a = over z n h} {b = over w m k} (record { same = e }) ∙ fraction_is w m k

-- over one denominator
pub ratio-plus : (z w : ℤ) (n : ℕ) → ratio (z +ℤ w) n ≡ ratio z n +ℚ ratio w n
ratio-plus z w n = by_reading {atoms = int z ∷ int w ∷ one_over n ∷ []} (search reading depth 20 fits 20000) (search reading depth 20 fits 20000) refl

pub one_over-mul : (n m : ℕ) → one_over (n * m) ≡ one_over n *ℚ one_over m
one_over-mul n m = sym (inverse-int (n * m)) ∙ ap inverse (int-mul (pos n) (pos m)) ∙ inverse-mul (int (pos n)) (int (pos m))
    ∙ ap (λ (q : ℚ). q *ℚ inverse (int (pos m))) (inverse-int n) ∙ ap (λ (q : ℚ). one_over n *ℚ q) (inverse-int m)

pub ratio-times : (z w : ℤ) (n m : ℕ) → ratio (z *ℤ w) (n * m) ≡ ratio z n *ℚ ratio w m
ratio-times z w n m = ap (λ (q : ℚ). int (z *ℤ w) *ℚ q) (one_over-mul n m)
    ∙ by_reading {atoms = int z ∷ int w ∷ one_over n ∷ one_over m ∷ []} (search reading depth 20 fits 20000) (search reading depth 20 fits 20000) refl

-- a common factor cancels
pub ratio-cancel : (k : ℕ) (z : ℤ) (n : ℕ) → 0 < k → ratio (pos k *ℤ z) (k * n) ≡ ratio z n
ratio-cancel k z n h = ratio-times (pos k) z k n
    ∙ by_given {atoms = int (pos k) ∷ one_over k ∷ int z ∷ one_over n ∷ []} (search reading depth 20 fits 20000) (search reading depth 20 fits 20000)
    (given (int z *ℚ one_over n) (int (pos k) *ℚ one_over k) (int (pos 1)) (search reading depth 20 fits 20000) (search reading depth 20 fits 20000)
    (search reading depth 20 fits 20000) (one_over_cancel k h) none) refl

-- what holds of every quotient holds of every rational number
pub by_ratio : (P : ℚ → Type 0) → ((q : ℚ) → IsProp (P q)) → ((z : ℤ) (n : ℕ) → 0 < n → P (ratio z n)) → (q : ℚ) → P q
by_ratio P prop h = ind {r = ◌≈◌} {β = P} prop (λ x. subst P (sym (fraction_is x.numerator x.denominator x.positive))
    (h x.numerator x.denominator x.positive))
