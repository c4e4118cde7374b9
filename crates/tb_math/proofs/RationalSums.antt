-- The laws of sums at the rational and the whole numbers, by name: constant factors, opposites, and whole numbers among the rational ones.
use mathlib.Core.Path.{◌≡◌, refl, sym, ap, ◌∙◌}
use mathlib.Core.List.{[], ◌∷◌}
use Prim.Native.Nat.{ℕ, zero, suc, ◌+◌, ◌*◌, ◌<◌, ◌≤◌}
use native.Mathlib.Omega.{arith}
use lib.IntN.{ℤ, pos, ◌+ℤ◌}
use lib.Signed.{◌≤ℤ◌}
use Rattle.tb_math.specs.Rational.{ℚ, int, ◌+ℚ◌, ◌-ℚ◌, ◌*ℚ◌, neg_ℚ, ◌≤ℚ◌}
use Rattle.tb_math.specs.Sums.{total, total_ℤ, total_ℕ}
use Rattle.tb_math.proofs.RationalLaws.{int-add, *ℚ_dist}
use Rattle.tb_math.proofs.ReadRationals.{by_reading, reading}
use Rattle.tb_math.proofs.SumLaws.{sum-cong, sum-plus, sum-none, sum-swap, sum-turn, sum-through, sum-split, sum-cut, sum-insert}
use Rattle.tb_math.proofs.SumOrder.{sum-mono, sum-nonneg, sum-first, sum-part}
use Rattle.tb_math.proofs.SumInstances.{adds_ℚ, adds_ℤ, order_ℚ, order_ℤ}

pub total-cong : (n : ℕ) (f g : ℕ → ℚ) → ((i : ℕ) → i < n → f i ≡ g i) → total n f ≡ total n g
total-cong = sum-cong adds_ℚ

pub total-plus : (n : ℕ) (f g : ℕ → ℚ) → total n (λ i. f i +ℚ g i) ≡ total n f +ℚ total n g
total-plus = sum-plus adds_ℚ

pub total-zero : (n : ℕ) → total n (λ i. int (pos 0)) ≡ int (pos 0)
total-zero = sum-none adds_ℚ

pub total-swap : (n m : ℕ) (f : ℕ → ℕ → ℚ) → total n (λ i. total m (λ j. f i j)) ≡ total m (λ j. total n (λ i. f i j))
total-swap = sum-swap adds_ℚ

pub total-turn : (n m l : ℕ) (f : ℕ → ℕ → ℕ → ℚ) →
    total n (λ i. total m (λ j. total l (λ h. f i j h))) ≡ total m (λ j. total l (λ h. total n (λ i. f i j h)))
total-turn = sum-turn adds_ℚ

pub total-split : (n m : ℕ) (f : ℕ → ℚ) → total (n + m) f ≡ total n f +ℚ total m (λ i. f (n + i))
total-split = sum-split adds_ℚ

pub total-cut : (n p : ℕ) (f g : ℕ → ℚ) → p < n → ((i : ℕ) → i < p → g i ≡ f i) → g p +ℚ g (suc p) ≡ f p →
    ((i : ℕ) → p < i → i < n → g (suc i) ≡ f i) → total (suc n) g ≡ total n f
total-cut = sum-cut adds_ℚ

pub total-insert : (n p : ℕ) (f g : ℕ → ℚ) → p ≤ n → ((i : ℕ) → i < p → g i ≡ f i) → g p ≡ int (pos 0) →
    ((i : ℕ) → p ≤ i → i < n → g (suc i) ≡ f i) → total (suc n) g ≡ total n f
total-insert = sum-insert adds_ℚ

-- a constant factor
pub total-times : (k : ℚ) (n : ℕ) (f : ℕ → ℚ) → total n (λ i. k *ℚ f i) ≡ k *ℚ total n f
total-times k n f = sym (sum-through adds_ℚ (λ q. k *ℚ q) (by_reading {atoms = k ∷ []} (search reading) (search reading) refl)
    (λ p q. *ℚ_dist k p q) n f)

pub total-neg : (n : ℕ) (f : ℕ → ℚ) → total n (λ i. neg_ℚ (f i)) ≡ neg_ℚ (total n f)
total-neg n f = sym (sum-through adds_ℚ neg_ℚ (by_reading {atoms = []} (search reading) (search reading) refl)
    (λ p q. by_reading {atoms = p ∷ q ∷ []} (search reading) (search reading) refl) n f)

pub total-minus : (n : ℕ) (f g : ℕ → ℚ) → total n (λ i. f i -ℚ g i) ≡ total n f -ℚ total n g
total-minus n f g = total-plus n f (λ i. neg_ℚ (g i)) ∙ ap (λ (t : ℚ). total n f +ℚ t) (total-neg n g)

-- a sum of whole numbers, as a rational
pub total-int : (n : ℕ) (f : ℕ → ℤ) → int (total_ℤ n f) ≡ total n (λ i. int (f i))
total-int zero f = refl
total-int (suc n) f = int-add (total_ℤ n f) (f n) ∙ ap (λ (t : ℚ). t +ℚ int (f n)) (total-int n f)

-- ---- the order
pub total-mono : (n : ℕ) (f g : ℕ → ℚ) → ((i : ℕ) → i < n → f i ≤ℚ g i) → total n f ≤ℚ total n g
total-mono = sum-mono adds_ℚ order_ℚ

pub total-nonneg : (n : ℕ) (f : ℕ → ℚ) → ((i : ℕ) → i < n → int (pos 0) ≤ℚ f i) → int (pos 0) ≤ℚ total n f
total-nonneg = sum-nonneg adds_ℚ order_ℚ

-- ---- whole numbers, as a program sums them
pub total_ℤ-cong : (n : ℕ) (f g : ℕ → ℤ) → ((i : ℕ) → i < n → f i ≡ g i) → total_ℤ n f ≡ total_ℤ n g
total_ℤ-cong = sum-cong adds_ℤ

pub total_ℤ-plus : (n : ℕ) (f g : ℕ → ℤ) → total_ℤ n (λ i. f i +ℤ g i) ≡ total_ℤ n f +ℤ total_ℤ n g
total_ℤ-plus = sum-plus adds_ℤ

pub total_ℤ-mono : (n : ℕ) (f g : ℕ → ℤ) → ((i : ℕ) → i < n → f i ≤ℤ g i) → total_ℤ n f ≤ℤ total_ℤ n g
total_ℤ-mono = sum-mono adds_ℤ order_ℤ

pub total_ℤ-nonneg : (n : ℕ) (f : ℕ → ℤ) → ((i : ℕ) → i < n → pos 0 ≤ℤ f i) → pos 0 ≤ℤ total_ℤ n f
total_ℤ-nonneg = sum-nonneg adds_ℤ order_ℤ

pub total_ℤ-first : (m n : ℕ) (f : ℕ → ℤ) → m ≤ n → ((i : ℕ) → i < n → pos 0 ≤ℤ f i) → total_ℤ m f ≤ℤ total_ℤ n f
total_ℤ-first = sum-first adds_ℤ order_ℤ

-- m whole rows and a part of the next
pub total_ℤ-part : (m n : ℕ) (f : ℕ → ℤ) (x : ℤ) → m < n → ((i : ℕ) → i < n → pos 0 ≤ℤ f i) → x ≤ℤ f m → (total_ℤ m f +ℤ x) ≤ℤ total_ℤ n f
total_ℤ-part = sum-part adds_ℤ order_ℤ

-- a count of n equal parts
pub total_ℕ-constant : (n c : ℕ) → total_ℕ n (λ i. c) ≡ n * c
total_ℕ-constant zero c = none c
  where
    none : (c : ℕ) → 0 ≡ 0 * c
    none c = omega arith
total_ℕ-constant (suc n) c = ap (λ (t : ℕ). t + c) (total_ℕ-constant n c) ∙ last n c
  where
    last : (n c : ℕ) → n * c + c ≡ suc n * c
    last n c = omega arith
