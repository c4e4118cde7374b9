-- The quotient rounded up is the only number next to the quotient on that side.
use Rattle.std.proofs.Common.{◌≡◌, ℕ, suc, ◌+◌, ◌*◌, ◌<◌, ◌≤◌, ◌⊎◌, inl, inr, arith}
use Rattle.std.proofs.Math.Nat.{mul-le-mul_right}
use Rattle.std.proofs.lemmas.Grind.{div_ceil_times}
use Rattle.std.specs.Int.{div_ceil}

-- of products with d, one that is below another plus d has no greater factor
no_greater : (q k d m : ℕ) → k * d < m + d → m ≤ q * d → k ≤ q
no_greater q k d m low high = by_order (nat_order q k)
  where
    nat_order : (q k : ℕ) → (q < k) ⊎ (k ≤ q)
    nat_order q k = grind arith

    by_order : (q < k) ⊎ (k ≤ q) → k ≤ q
    by_order (inl l) = let p : suc q * d ≤ k * d = mul-le-mul_right d l in absurd (omega (arith, p))
    by_order (inr l) = l

pub up_unique : (n d q : ℕ) → 0 < d → n ≤ q * d → q * d < n + d → q ≡ div_ceil n d
up_unique n d q h low high =
    let t = div_ceil_times n d h in
    let most : q ≤ div_ceil n d = no_greater (div_ceil n d) q d n high t.0 in
    let least : div_ceil n d ≤ q = no_greater q (div_ceil n d) d n t.1 low in
    omega (arith, most, least)

-- q times d taken away
pub up_rest : (n d q r : ℕ) → 0 < d → n ≡ q * d + r → q + div_ceil r d ≡ div_ceil n d
up_rest n d q r h e =
    let t = div_ceil_times r d h in
    rest (div_ceil r d) t.0 t.1
  where
    rest : (c : ℕ) → r ≤ c * d → c * d < r + d → q + c ≡ div_ceil n d
    rest c low high = up_unique n d (q + c) h (omega (arith, e, low)) (omega (arith, e, high))
