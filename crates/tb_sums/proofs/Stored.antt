-- Sums of flows in 128 bits.
use Rattle.std.specs.Prelude.{unsigned_abs}
use Rattle.std.proofs.Common.{◌≡◌, ap, ◌∙◌, subst, sym, ℕ, ◌+◌, ◌^◌, ◌≤◌, ℤ, ◌+ℤ◌, arith, to_z, of_z}
use Rattle.std.proofs.lemmas.Int.{ints}
use Rattle.std.specs.Int.{w128}

pub stored : (z : ℤ) → unsigned_abs z ≤ 10 ^ 36 → to_z w128 (of_z w128 z) ≡ z
stored z h = omega (arith, ints, h)

-- a total t of at most m, and one more of at most n
pub record IsNextTotal (t r : ℤ) (m n : ℕ) : Type 0 where
  pub value : (old term new : ℤ) → t ≡ old → r ≡ term → new ≡ old +ℤ term → to_z w128 (of_z w128 (t +ℤ to_z w128 (of_z w128 r))) ≡ new
  pub size : unsigned_abs (to_z w128 (of_z w128 (t +ℤ to_z w128 (of_z w128 r)))) ≤ m + n

sum_size : (t r : ℤ) (m n : ℕ) → unsigned_abs t ≤ m → unsigned_abs r ≤ n → unsigned_abs (t +ℤ r) ≤ m + n
sum_size t r m n h k = omega (arith, ints, h, k)

sum_is : (t r old term new : ℤ) → t ≡ old → r ≡ term → new ≡ old +ℤ term → t +ℤ r ≡ new
sum_is t r old term new f g h = omega (arith, ints)

pub next_total : (t r : ℤ) (m n : ℕ) → unsigned_abs t ≤ m → unsigned_abs r ≤ n → m + n ≤ 10 ^ 36 → IsNextTotal t r m n
next_total t r m n h k l =
    let size : unsigned_abs (t +ℤ r) ≤ m + n = sum_size t r m n h k in
    let is : to_z w128 (of_z w128 (t +ℤ to_z w128 (of_z w128 r))) ≡ t +ℤ r =
    ap (λ (z : ℤ). to_z w128 (of_z w128 (t +ℤ z))) (stored r (omega (arith, k, l))) ∙ stored (t +ℤ r) (omega (arith, size, l)) in
    record {
      value = λ old term new f g s. is ∙ sum_is t r old term new f g s;
      size = subst (λ (z : ℤ). unsigned_abs z ≤ m + n) (sym is) size;
    }
