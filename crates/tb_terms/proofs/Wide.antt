-- Products in 128 bits.
use mathlib.Core.Path.{◌≡◌, ap, ◌∙◌}
use Prim.Native.Nat.{ℕ, ◌+◌, ◌*◌, ◌^◌, ◌<◌, ◌≤◌}
use native.Mathlib.Omega.{arith}
use Rattle.std.proofs.Common.{unsigned_abs, to_z, of_z}
use Rattle.std.proofs.Math.Nat.{mul-le-mul}
use Rattle.std.proofs.lemmas.Int.{to_z-of_z, unsigned_abs-mul}
use Rattle.std.specs.Int.{w128}
use lib.IntN.{ℤ, pos, negsuc, ◌+ℤ◌, ◌*ℤ◌}
use Rattle.tb_terms.proofs.Spread.{sum-size}

abbrev pub stored : ℤ → ℤ
stored z = to_z w128 (of_z w128 z)

pub stored-is : (z : ℤ) → unsigned_abs z < 2 ^ 127 → stored z ≡ z
stored-is (pos n) h = to_z-of_z w128 (pos n) (record { sfits = omega arith })
stored-is (negsuc n) h = to_z-of_z w128 (negsuc n) (record { sfits = omega arith })

-- the product of two numbers of at most these sizes
pub stored_product : (x y p q : ℤ) (m n : ℕ) → x ≡ p → y ≡ q → unsigned_abs p ≤ m → unsigned_abs q ≤ n → m < 2 ^ 127 → n < 2 ^ 127 → m * n < 2 ^ 127 → stored (stored x *ℤ stored y) ≡ p *ℤ q
stored_product x y p q m n e f h k a b ab =
    ap stored (ap (λ (z : ℤ). z *ℤ stored y) (ap stored e ∙ stored-is p (omega arith)) ∙ ap (λ (z : ℤ). p *ℤ z) (ap stored f ∙ stored-is q (omega arith)))
    ∙ stored-is (p *ℤ q) (let s : unsigned_abs p * unsigned_abs q ≤ m * n = mul-le-mul h k in omega (arith, unsigned_abs-mul p q))

-- the sum of three numbers of at most this size
pub stored_sum : (x y z : ℤ) → unsigned_abs x ≤ 10 ^ 24 → unsigned_abs y ≤ 10 ^ 24 → unsigned_abs z ≤ 10 ^ 24 → stored (stored (stored x +ℤ stored y) +ℤ stored z) ≡ x +ℤ y +ℤ z
stored_sum x y z h k l =
    ap stored (ap (λ (t : ℤ). t +ℤ stored z) (ap stored (ap (λ (t : ℤ). t +ℤ stored y) (stored-is x (omega arith)) ∙ ap (λ (t : ℤ). x +ℤ t) (stored-is y (omega arith))) ∙ stored-is (x +ℤ y) (omega (arith, s)))
    ∙ ap (λ (t : ℤ). x +ℤ y +ℤ t) (stored-is z (omega arith)))
    ∙ stored-is (x +ℤ y +ℤ z) (omega (arith, r))
  where
    s : unsigned_abs (x +ℤ y) ≤ 10 ^ 24 + 10 ^ 24
    s = sum-size x y (10 ^ 24) (10 ^ 24) h k

    r : unsigned_abs (x +ℤ y +ℤ z) ≤ 10 ^ 24 + 10 ^ 24 + 10 ^ 24
    r = sum-size (x +ℤ y) z (10 ^ 24 + 10 ^ 24) (10 ^ 24) s l
