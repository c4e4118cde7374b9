-- Sums of natural numbers over ranges: of bounded terms, of products, and of three ranges together.
use Rattle.std.proofs.Common.{◌≡◌, ◌∙◌, sym, ap, ◌+◌, ◌*◌, ◌<◌, ◌≤◌, ℕ, zero, suc, inl, inr, arith}
use Rattle.std.proofs.Math.Nat.{eq-or-lt_of_le}
use Rattle.tb_math.specs.Sums.{total_ℕ}
use Rattle.tb_math.proofs.SumLaws.{sum-cong, sum-none, sum-plus, sum-through}
use Rattle.tb_math.proofs.SumInstances.{adds_ℕ}

-- ---- n terms, each m or each at most m

pub total_each : (n m : ℕ) (f : ℕ → ℕ) → ((i : ℕ) → i < n → f i ≡ m) → total_ℕ n f ≡ n * m
total_each zero m f h = omega arith
total_each (suc n) m f h = omega (arith, total_each n m f (λ i l. h i (omega arith)), h n (omega arith))

pub total_at_most : (n m : ℕ) (f : ℕ → ℕ) → ((i : ℕ) → i < n → f i ≤ m) → total_ℕ n f ≤ n * m
total_at_most zero m f h = omega arith
total_at_most (suc n) m f h = omega (arith, total_at_most n m f (λ i l. h i (omega arith)), h n (omega arith))

-- the sum is n times m only where each term is m
pub total_full : (n m : ℕ) (f : ℕ → ℕ) → ((i : ℕ) → i < n → f i ≤ m) → total_ℕ n f ≡ n * m → (i : ℕ) → i < n → f i ≡ m
total_full zero m f h e i l = absurd (omega arith)
total_full (suc n) m f h e i l =
    let rest = total_at_most n m f (λ j t. h j (omega arith)) in
    let last = h n (omega arith) in
    let same : total_ℕ n f ≡ n * m = omega (arith, rest, last) in
    let here : f n ≡ m = omega (arith, rest, last) in
    elim (eq-or-lt_of_le {n = i} {m = n} (omega arith)) [
      | inl at_end ↦ ap f at_end ∙ here
      | inr before ↦ total_full n m f (λ j t. h j (omega arith)) same i before
    ]

-- ---- a factor that all terms have

pub times_left : (n c : ℕ) (f : ℕ → ℕ) → total_ℕ n (λ i. c * f i) ≡ c * total_ℕ n f
times_left n c f = sym (sum-through adds_ℕ (λ t. c * t) (times_none c) (times_plus c) n f)
  where
    times_none : (c : ℕ) → c * 0 ≡ 0
    times_none c = omega arith

    times_plus : (c a b : ℕ) → c * (a + b) ≡ c * a + c * b
    times_plus c a b = omega arith

pub times_right : (n c : ℕ) (f : ℕ → ℕ) → total_ℕ n (λ i. f i * c) ≡ total_ℕ n f * c
times_right n c f = sum-cong adds_ℕ n (λ i. f i * c) (λ i. c * f i) (λ i t. turned (f i) c) ∙ times_left n c f ∙ turned c (total_ℕ n f)
  where
    turned : (a b : ℕ) → a * b ≡ b * a
    turned a b = omega arith

-- ---- over three ranges

abbrev pub triple : ℕ → ℕ → ℕ → (ℕ → ℕ → ℕ → ℕ) → ℕ
triple n m l f = total_ℕ n (λ i. total_ℕ m (λ j. total_ℕ l (λ k. f i j k)))

-- what holds of each place of three ranges
abbrev pub AtEach : ℕ → ℕ → ℕ → (ℕ → ℕ → ℕ → Type 0) → Type 0
AtEach n m l P = (i j k : ℕ) → i < n → j < m → k < l → P i j k

pub triple_none : (n m l : ℕ) → triple n m l (λ i j k. 0) ≡ 0
triple_none n m l =
    sum-cong adds_ℕ n (λ i. total_ℕ m (λ j. total_ℕ l (λ k. 0))) (λ i. 0)
    (λ i t. sum-cong adds_ℕ m (λ j. total_ℕ l (λ k. 0)) (λ j. 0) (λ j u. sum-none adds_ℕ l) ∙ sum-none adds_ℕ m)
    ∙ sum-none adds_ℕ n

pub triple_plus : (n m l : ℕ) (f g : ℕ → ℕ → ℕ → ℕ) → triple n m l (λ i j k. f i j k + g i j k) ≡ triple n m l f + triple n m l g
triple_plus n m l f g =
    sum-cong adds_ℕ n (λ i. total_ℕ m (λ j. total_ℕ l (λ k. f i j k + g i j k))) (λ i. layer f i + layer g i)
    (λ i t. sum-cong adds_ℕ m (λ j. total_ℕ l (λ k. f i j k + g i j k)) (λ j. row f i j + row g i j) (λ j u. sum-plus adds_ℕ l (f i j) (g i j))
    ∙ sum-plus adds_ℕ m (row f i) (row g i))
    ∙ sum-plus adds_ℕ n (layer f) (layer g)
  where
    row : (ℕ → ℕ → ℕ → ℕ) → ℕ → ℕ → ℕ
    row f i j = total_ℕ l (λ k. f i j k)

    layer : (ℕ → ℕ → ℕ → ℕ) → ℕ → ℕ
    layer f i = total_ℕ m (λ j. total_ℕ l (λ k. f i j k))

-- a triple sum of products is the product of three sums
pub triple_product : (n m l : ℕ) (f g h : ℕ → ℕ) → triple n m l (λ i j k. f i * (g j * h k)) ≡ total_ℕ n f * (total_ℕ m g * total_ℕ l h)
triple_product n m l f g h =
    sum-cong adds_ℕ n (λ i. total_ℕ m (λ j. total_ℕ l (λ k. f i * (g j * h k)))) (λ i. f i * (total_ℕ m g * total_ℕ l h))
    (λ i t. sum-cong adds_ℕ m (λ j. total_ℕ l (λ k. f i * (g j * h k))) (λ j. f i * (g j * total_ℕ l h))
    (λ j u. times_left l (f i) (λ k. g j * h k) ∙ ap (λ (s : ℕ). f i * s) (times_left l (g j) h))
    ∙ times_left m (f i) (λ j. g j * total_ℕ l h) ∙ ap (λ (s : ℕ). f i * s) (times_right m (total_ℕ l h) g))
    ∙ times_right n (total_ℕ m g * total_ℕ l h) f

pub triple_each : (n m l : ℕ) (f : ℕ → ℕ → ℕ → ℕ) → AtEach n m l (λ i j k. f i j k ≡ 1) → triple n m l f ≡ n * (m * (l * 1))
triple_each n m l f h =
    total_each n (m * (l * 1)) (λ i. total_ℕ m (λ j. total_ℕ l (λ k. f i j k)))
    (λ i t. total_each m (l * 1) (λ j. total_ℕ l (λ k. f i j k)) (λ j u. total_each l 1 (f i j) (λ k v. h i j k t u v)))

layer_at_most : (m l : ℕ) (f : ℕ → ℕ → ℕ) → ((j k : ℕ) → j < m → k < l → f j k ≤ 1) → total_ℕ m (λ j. total_ℕ l (λ k. f j k)) ≤ m * (l * 1)
layer_at_most m l f h = total_at_most m (l * 1) (λ j. total_ℕ l (λ k. f j k)) (λ j u. total_at_most l 1 (f j) (λ k v. h j k u v))

pub triple_at_most : (n m l : ℕ) (f : ℕ → ℕ → ℕ → ℕ) → AtEach n m l (λ i j k. f i j k ≤ 1) → triple n m l f ≤ n * (m * (l * 1))
triple_at_most n m l f h =
    total_at_most n (m * (l * 1)) (λ i. total_ℕ m (λ j. total_ℕ l (λ k. f i j k))) (λ i t. layer_at_most m l (f i) (λ j k u v. h i j k t u v))

pub triple_full : (n m l : ℕ) (f : ℕ → ℕ → ℕ → ℕ) → AtEach n m l (λ i j k. f i j k ≤ 1) → triple n m l f ≡ n * (m * (l * 1)) → AtEach n m l (λ i j k. f i j k ≡ 1)
triple_full n m l f h e i j k t u v =
    let layer = total_full n (m * (l * 1)) (λ i. total_ℕ m (λ j. total_ℕ l (λ k. f i j k)))
    (λ i t. layer_at_most m l (f i) (λ j k u v. h i j k t u v)) e i t in
    let row = total_full m (l * 1) (λ j. total_ℕ l (λ k. f i j k)) (λ j u. total_at_most l 1 (f i j) (λ k v. h i j k t u v)) layer j u in
    total_full l 1 (f i j) (λ k v. h i j k t u v) row k v
