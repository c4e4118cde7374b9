-- How large quotients are.
use Rattle.std.proofs.Common.{ℕ, ◌*◌, ◌^◌, ◌<◌, ◌≤◌, ℤ, pos, ◌*ℤ◌, ◌≤ℤ◌, ◌<ℤ◌, arith}
use Rattle.std.proofs.lemmas.Int.{ints}
use lib.IntN.{*ℤ_comm}
use Rattle.tb_math.specs.Integers.{mul_le}
use Rattle.tb_numbers.specs.Quotients.{floor, ceiling}
use Rattle.tb_numbers.proofs.QuotientLaws.{floor_brackets, floor_greatest, ceiling_least, floor_at_most_ceiling, floor_not_negative}
use Rattle.tb_planar.specs.declared.bounds.Bounds.{Bounds}
use Rattle.tb_planar.specs.Bounds.{IsResistance, IsTransmittance, IsWithin, divided, over, plus, quotient}

above_zero : (d : ℕ) → 0 < d → pos 0 <ℤ pos d
above_zero d h = omega (arith, ints)

pub quotient-size : (n d most : ℕ) → 0 < d → n ≤ most * d → IsWithin most (quotient (pos n) (pos d))
quotient-size n d most h l = record {
  not_negative = floor_not_negative (pos n) (pos d) (above_zero d h) (omega (arith, ints));
  ordered = floor_at_most_ceiling (pos n) (pos d) (above_zero d h);
  at_most = ceiling_least (pos n) (pos d) (pos most) (above_zero d h) (omega (arith, ints, l));
}

-- a smaller dividend and a smaller divisor
floor-under : (n d e : ℤ) → pos 0 <ℤ e → e ≤ℤ d → pos 0 ≤ℤ n → floor n d ≤ℤ ceiling n e
floor-under n d e h l k =
    let d_positive : pos 0 <ℤ d = omega (arith, ints, h, l) in
    let f = floor_brackets n d d_positive in
    let m = mul_le (floor n d) e d (floor_not_negative n d d_positive k) l in
    let below : floor n d ≤ℤ floor n e = floor_greatest n e (floor n d) h (omega (arith, ints, m, f.at_most)) in
    omega (arith, ints, below, floor_at_most_ceiling n e h)

pub record Sized (least most : ℤ) (b : Bounds) : Type 0 where
  pub at_least : least ≤ℤ b.low
  pub ordered : b.low ≤ℤ b.high
  pub at_most : b.high ≤ℤ most

over-size : (n : ℤ) (b : Bounds) (least most : ℤ) → pos 0 ≤ℤ n → pos 0 <ℤ b.low → b.low ≤ℤ b.high → (least *ℤ b.high) ≤ℤ n → n ≤ℤ (most *ℤ b.low)
    → Sized least most (over n b)
over-size n b least most h k l low high = record {
  at_least = floor_greatest n b.high least (omega (arith, ints, k, l)) low;
  ordered = floor-under n b.high b.low k l h;
  at_most = ceiling_least n b.low most k high;
}

-- products with a positive factor that is known
scaled_high : (k : ℕ) (z : ℤ) (most : ℕ) → z ≤ℤ pos most → (pos k *ℤ z) ≤ℤ pos (k * most)
scaled_high k z most h = let m = mul_le (pos k) z (pos most) (omega (arith, ints)) h in omega (arith, ints, m)

scaled_low : (k : ℕ) (z : ℤ) (least : ℕ) → pos least ≤ℤ z → pos (k * least) ≤ℤ (pos k *ℤ z)
scaled_low k z least h = let m = mul_le (pos k) (pos least) z (omega (arith, ints)) h in omega (arith, ints, m)

pub transmittance-size : (b : Bounds) → IsResistance b → IsTransmittance (over (pos (10 ^ 31)) b)
transmittance-size b h =
    let s = over-size (pos (10 ^ 31)) b (pos (10 ^ 8)) (pos (5 * 10 ^ 18)) (omega (arith, ints)) (omega (arith, ints, h.at_least)) h.ordered
    (scaled_high (10 ^ 8) b.high (10 ^ 23) h.at_most) (scaled_low (5 * 10 ^ 18) b.low (2 * 10 ^ 12) h.at_least) in
    record { at_least = s.at_least; ordered = s.ordered; at_most = s.at_most }

pub resistance-size : (b : Bounds) → IsTransmittance b → IsResistance (over (pos (10 ^ 31)) b)
resistance-size b h =
    let s = over-size (pos (10 ^ 31)) b (pos (2 * 10 ^ 12)) (pos (10 ^ 23)) (omega (arith, ints)) (omega (arith, ints, h.at_least)) h.ordered
    (scaled_high (2 * 10 ^ 12) b.high (5 * 10 ^ 18) h.at_most) (scaled_low (10 ^ 23) b.low (10 ^ 8) h.at_least) in
    record { at_least = s.at_least; ordered = s.ordered; at_most = s.at_most }

pub mean-size : (a b : Bounds) → IsResistance a → IsResistance b → IsTransmittance (over (pos (2 * 10 ^ 31)) (plus a b))
mean-size a b h k =
    let least : pos (4 * 10 ^ 12) ≤ℤ (plus a b).low = omega (arith, ints, h.at_least, k.at_least) in
    let most : (plus a b).high ≤ℤ pos (2 * 10 ^ 23) = omega (arith, ints, h.at_most, k.at_most) in
    let s = over-size (pos (2 * 10 ^ 31)) (plus a b) (pos (10 ^ 8)) (pos (5 * 10 ^ 18)) (omega (arith, ints)) (omega (arith, ints, least))
    (omega (arith, ints, h.ordered, k.ordered)) (scaled_high (10 ^ 8) (plus a b).high (2 * 10 ^ 23) most)
    (scaled_low (5 * 10 ^ 18) (plus a b).low (4 * 10 ^ 12) least) in
    record { at_least = s.at_least; ordered = s.ordered; at_most = s.at_most }

pub divided-size : (b : Bounds) (n least most : ℕ) → 0 < n → pos (n * least) ≤ℤ b.low → b.low ≤ℤ b.high → b.high ≤ℤ pos (n * most)
    → Sized (pos least) (pos most) (divided b n)
divided-size b n least most h low l high =
    let p = above_zero n h in
    let f = floor_brackets b.low (pos n) p in
    let next : floor b.low (pos n) ≤ℤ floor b.high (pos n) = floor_greatest b.high (pos n) (floor b.low (pos n)) p (omega (arith, ints, f.at_most, l)) in
    let e = *ℤ_comm (pos least) (pos n) in
    let g = *ℤ_comm (pos most) (pos n) in
    record {
      at_least = floor_greatest b.low (pos n) (pos least) p (omega (arith, ints, low, e));
      ordered = omega (arith, ints, next, floor_at_most_ceiling b.high (pos n) p);
      at_most = ceiling_least b.high (pos n) (pos most) p (omega (arith, ints, high, g));
    }
