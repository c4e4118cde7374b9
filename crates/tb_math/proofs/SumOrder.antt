-- Sums and an order that adds: termwise order, terms that are not negative, and a part against the whole.
use mathlib.Core.Logic.{◌⊎◌, inl, inr}
use mathlib.Core.Path.{◌≡◌, subst}
use Prim.Native.Nat.{ℕ, zero, suc, ◌<◌, ◌≤◌}
use native.Mathlib.Omega.{arith}
use Rattle.std.proofs.Math.Nat.{eq-or-lt_of_le}
use Rattle.tb_math.specs.Sums.{sum_to}
use Rattle.tb_math.proofs.SumLaws.{Adds}

-- an order of the values of an addition, which sums keep
pub record AddsInOrder (A : Type 0) (k : Adds A) : Type 1 where
  pub le : A → A → Type 0
  pub le-trans : (x y z : A) → le x y → le y z → le x z
  pub le-refl : (x : A) → le x x
  pub le-plus : (x x' y y' : A) → le x x' → le y y' → le (k.plus x y) (k.plus x' y')

module _ {A : Type 0} (k : Adds A) (o : AddsInOrder A k) where
  open k use {none, plus, plus-none}
  open o use {le, le-trans, le-refl, le-plus}

  abbrev sum : ℕ → (ℕ → A) → A
  sum n f = sum_to none plus n f

  pub sum-mono : (n : ℕ) (f g : ℕ → A) → ((i : ℕ) → i < n → le (f i) (g i)) → le (sum n f) (sum n g)
  sum-mono zero f g h = le-refl none
  sum-mono (suc n) f g h = le-plus (sum n f) (sum n g) (f n) (g n) (sum-mono n f g (λ i l. h i (omega arith))) (h n (omega arith))

  pub sum-nonneg : (n : ℕ) (f : ℕ → A) → ((i : ℕ) → i < n → le none (f i)) → le none (sum n f)
  sum-nonneg zero f h = le-refl none
  sum-nonneg (suc n) f h = le-trans none (plus none none) (sum (suc n) f)
      (subst (λ (t : A). le t (plus none none)) (plus-none none) (le-refl (plus none none)))
      (le-plus none (sum n f) none (f n) (sum-nonneg n f (λ i l. h i (omega arith))) (h n (omega arith)))

  -- what is not negative may be added
  more : (x y : A) → le none y → le x (plus x y)
  more x y h = le-trans x (plus x none) (plus x y) (subst (λ (t : A). le t (plus x none)) (plus-none x) (le-refl (plus x none)))
      (le-plus x x none y (le-refl x) h)

  -- the first m terms are at most all of them
  pub sum-first : (m n : ℕ) (f : ℕ → A) → m ≤ n → ((i : ℕ) → i < n → le none (f i)) → le (sum m f) (sum n f)
  sum-first m zero f l h = subst (λ (t : ℕ). le (sum t f) none) (none_left m l) (le-refl none)
    where
      none_left : (m : ℕ) → m ≤ 0 → 0 ≡ m
      none_left m l = omega arith
  sum-first m (suc n) f l h = by_place (eq-or-lt_of_le l) (λ s. sum-first m n f (omega arith) (λ i t. h i (omega arith)))
    where
      by_place : (m ≡ suc n) ⊎ (m < suc n) → (m < suc n → le (sum m f) (sum n f)) → le (sum m f) (sum (suc n) f)
      by_place (inl e) ih = subst (λ (t : ℕ). le (sum m f) (sum t f)) e (le-refl (sum m f))
      by_place (inr s) ih = le-trans (sum m f) (sum n f) (sum (suc n) f) (ih s) (more (sum n f) (f n) (h n (omega arith)))

  -- the first m terms and a part x of the next: where terms are sums themselves, this bounds a sum that is not yet ended
  pub sum-part : (m n : ℕ) (f : ℕ → A) (x : A) → m < n → ((i : ℕ) → i < n → le none (f i)) → le x (f m) → le (plus (sum m f) x) (sum n f)
  sum-part m n f x l h p = le-trans (plus (sum m f) x) (sum (suc m) f) (sum n f) (le-plus (sum m f) (sum m f) x (f m) (le-refl (sum m f)) p)
      (sum-first (suc m) n f l h)
