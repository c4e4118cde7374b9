-- Powers of ten.
use Rattle.std.proofs.Common.{◌^◌, ◌<◌, ◌≤◌, ℕ, arith}
use Rattle.std.proofs.Math.Nat.{one-le-pow, pow-le-pow_right}

pub ten_positive : (k : ℕ) → 0 < 10 ^ k
ten_positive k = omega (arith, one-le-pow k 10 (omega arith))

pub ten_at_most : (k m : ℕ) → k ≤ m → 10 ^ k ≤ 10 ^ m
ten_at_most k m h = pow-le-pow_right {n = 10} (omega arith) h
