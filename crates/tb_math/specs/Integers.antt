-- The laws of the whole numbers ℤ that the definitions stand on: products of sums, signs, the order, a positive factor that cancels.
-- `omega` adds but never multiplies out over ℤ, so each law hands it the products that it needs.
use mathlib.Core.Path.{◌≡◌, ap, sym, ◌∙◌, subst}
use Prim.Native.Nat.{ℕ, ◌*◌, ◌<◌}
use native.Mathlib.Omega.{arith}
use borrow.Author.Differences.{up, down, sum_is_lem, product_is, neg_is}
use Rattle.std.proofs.lemmas.Int.{ints, by_lt_z}
use lib.IntN.{ℤ, pos, negsuc, ◌+ℤ◌, ◌-ℤ◌, ◌*ℤ◌, neg_ℤ, *ℤ_comm}
use lib.Signed.{◌≤ℤ◌, ◌<ℤ◌}

pub dist_l : (a b c : ℤ) → a *ℤ (b +ℤ c) ≡ a *ℤ b +ℤ a *ℤ c
dist_l a b c = omega (arith, ints, ap (λ (n : ℕ). up a * n) (sum_is_lem b c), ap (λ (n : ℕ). down a * n) (sum_is_lem b c))

pub dist_r : (a b c : ℤ) → (a +ℤ b) *ℤ c ≡ a *ℤ c +ℤ b *ℤ c
dist_r a b c = omega (arith, ints, ap (λ (n : ℕ). n * up c) (sum_is_lem a b), ap (λ (n : ℕ). n * down c) (sum_is_lem a b))

pub mul_assoc : (a b c : ℤ) → (a *ℤ b) *ℤ c ≡ a *ℤ (b *ℤ c)
mul_assoc a b c = let p = product_is a b in let q = product_is b c in
    omega (
      arith,
      ints,
      ap (λ (n : ℕ). n * up c) p.0,
      ap (λ (n : ℕ). n * down c) p.0,
      ap (λ (n : ℕ). n * up c) p.1,
      ap (λ (n : ℕ). n * down c) p.1,
      ap (λ (n : ℕ). up a * n) q.0,
      ap (λ (n : ℕ). down a * n) q.0,
      ap (λ (n : ℕ). up a * n) q.1,
      ap (λ (n : ℕ). down a * n) q.1,
    )

pub neg-mul : (a b : ℤ) → neg_ℤ a *ℤ b ≡ neg_ℤ (a *ℤ b)
neg-mul a b = let p = neg_is a in
    omega (arith, ints, ap (λ (n : ℕ). n * up b) p.0, ap (λ (n : ℕ). n * down b) p.0, ap (λ (n : ℕ). n * up b) p.1, ap (λ (n : ℕ). n * down b) p.1)

pub one-mul : (a : ℤ) → pos 1 *ℤ a ≡ a
one-mul a = omega (arith, ints)

pub zero-mul : (a : ℤ) → pos 0 *ℤ a ≡ pos 0
zero-mul a = omega (arith, ints)

pub square-nonneg : (a : ℤ) → pos 0 ≤ℤ (a *ℤ a)
square-nonneg (pos n) = omega (arith, ints)
square-nonneg (negsuc n) = omega (arith, ints)

pub mul-nonneg : (a b : ℤ) → pos 0 ≤ℤ a → pos 0 ≤ℤ b → pos 0 ≤ℤ (a *ℤ b)
mul-nonneg (pos m) (pos n) h k = omega (arith, ints)
mul-nonneg (pos m) (negsuc n) h k = omega (arith, ints)
mul-nonneg (negsuc m) (pos n) h k = omega (arith, ints)
mul-nonneg (negsuc m) (negsuc n) h k = omega (arith, ints)

-- the outer factors of three change places
pub turn : (a b c : ℤ) → a *ℤ (b *ℤ c) ≡ c *ℤ (b *ℤ a)
turn a b c = *ℤ_comm a (b *ℤ c) ∙ ap (λ (z : ℤ). z *ℤ a) (*ℤ_comm b c) ∙ mul_assoc c b a

-- the inner factors of four change places
pub medial : (a b c d : ℤ) → (a *ℤ b) *ℤ (c *ℤ d) ≡ (a *ℤ c) *ℤ (b *ℤ d)
medial a b c d = mul_assoc a b (c *ℤ d) ∙ ap (λ (z : ℤ). a *ℤ z) (sym (mul_assoc b c d) ∙ ap (λ (z : ℤ). z *ℤ d) (*ℤ_comm b c) ∙ mul_assoc c b d)
    ∙ sym (mul_assoc a c (b *ℤ d))

pub pos-nonneg : (n : ℕ) → pos 0 ≤ℤ pos n
pos-nonneg n = omega (arith, ints)

mul-difference : (k a b : ℤ) → k *ℤ (b -ℤ a) ≡ k *ℤ b -ℤ k *ℤ a
mul-difference k a b = dist_l k b (neg_ℤ a) ∙ ap (λ (z : ℤ). k *ℤ b +ℤ z) (*ℤ_comm k (neg_ℤ a) ∙ neg-mul a k ∙ ap neg_ℤ (*ℤ_comm a k))

pub mul_le : (k a b : ℤ) → pos 0 ≤ℤ k → a ≤ℤ b → (k *ℤ a) ≤ℤ (k *ℤ b)
mul_le k a b h l = let p : pos 0 ≤ℤ (b -ℤ a) = omega (arith, ints) in
    let r : pos 0 ≤ℤ (k *ℤ b -ℤ k *ℤ a) = subst (λ (z : ℤ). pos 0 ≤ℤ z) (mul-difference k a b) (mul-nonneg k (b -ℤ a) h p) in
    omega (arith, ints)

pub cancel_le : (k : ℕ) (a b : ℤ) → 0 < k → (pos k *ℤ a) ≤ℤ (pos k *ℤ b) → a ≤ℤ b
cancel_le k a b h l = by_lt_z b a (λ m. absurd (none m)) (λ m. m)
  where
    none : b <ℤ a → ⊥
    none m = let p : (b +ℤ pos 1) ≤ℤ a = omega (arith, ints) in
        let q : (pos k *ℤ (b +ℤ pos 1)) ≤ℤ (pos k *ℤ a) = mul_le (pos k) (b +ℤ pos 1) a (pos-nonneg k) p in
        let e : pos k *ℤ (b +ℤ pos 1) ≡ pos k *ℤ b +ℤ pos k *ℤ pos 1 = dist_l (pos k) b (pos 1) in
        let r : (pos k *ℤ b +ℤ pos k *ℤ pos 1) ≤ℤ (pos k *ℤ a) = subst (λ (z : ℤ). z ≤ℤ (pos k *ℤ a)) e q in
        omega (arith, ints)

pub le_antisym : (a b : ℤ) → a ≤ℤ b → b ≤ℤ a → a ≡ b
le_antisym a b h k = omega (arith, ints)

pub cancel_eq : (k : ℕ) (a b : ℤ) → 0 < k → pos k *ℤ a ≡ pos k *ℤ b → a ≡ b
cancel_eq k a b h e = le_antisym a b (cancel_le k a b h (omega (arith, ints))) (cancel_le k b a h (omega (arith, ints)))
