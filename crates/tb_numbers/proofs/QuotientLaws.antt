-- The floor and the ceiling lie next to the quotient, and are the only whole numbers that do.
use Rattle.std.proofs.Common.{ap, ◌≡◌, ◌+◌, ◌*◌, ◌/◌, ◌<◌, ◌≤◌, ℕ, arith, ℤ, pos, negsuc, ◌+ℤ◌, ◌*ℤ◌, ◌≤ℤ◌, ◌<ℤ◌, neg_ℤ}
use Rattle.std.proofs.lemmas.Int.{ints, by_lt_z}
use Rattle.std.proofs.Math.Nat.{mul-le-mul_right}
use borrow.Author.Differences.{up, down, neg_is}
use Rattle.tb_math.specs.Ceiling.{RoundsDown, RoundsUp}
use Rattle.tb_numbers.specs.Quotients.{Side, above, below, IsRounded, floor, ceiling, rounded}

-- ---- next to the quotient

floor_nat : (a b : ℕ) → 0 < b → RoundsDown (pos a) (pos b) (pos (a / b))
floor_nat a b h = record { at_most = omega (arith, ints); near = omega (arith, ints) }

floor_negative : (a b : ℕ) → 0 < b → RoundsDown (negsuc a) (pos b) (negsuc (a / b))
floor_negative a b h = record { at_most = omega (arith, ints); near = omega (arith, ints) }

above_zero : (b : ℕ) → pos 0 <ℤ pos b → 0 < b
above_zero b h = omega (arith, ints)

pub floor_brackets : (n d : ℤ) → pos 0 <ℤ d → RoundsDown n d (floor n d)
unfolding floor
floor_brackets (pos a) (pos b) h = floor_nat a b (above_zero b h)
floor_brackets (negsuc a) (pos b) h = floor_negative a b (above_zero b h)
floor_brackets n (negsuc b) h = absurd h.lt

negated : (a b : ℤ) → neg_ℤ a *ℤ b ≡ neg_ℤ (a *ℤ b)
negated a b = omega (arith, ints, ap (λ (n : ℕ). n * up b) (neg_is a).0, ap (λ (n : ℕ). n * down b) (neg_is a).0, ap (λ (n : ℕ). n * up b) (neg_is a).1, ap (λ (n : ℕ). n * down b) (neg_is a).1)

turned : (n d q : ℤ) → RoundsDown (neg_ℤ n) d q → RoundsUp n d (neg_ℤ q)
turned n d q h = record { at_least = omega (arith, ints, h.at_most, negated q d); near = omega (arith, ints, h.near, negated q d) }

pub ceiling_brackets : (n d : ℤ) → pos 0 <ℤ d → RoundsUp n d (ceiling n d)
unfolding ceiling
ceiling_brackets n d h = turned n d (floor (neg_ℤ n) d) (floor_brackets (neg_ℤ n) d h)

pub rounded_brackets : (side : Side) (n d : ℤ) → pos 0 <ℤ d → IsRounded side n d (rounded side n d)
rounded_brackets above n d h = ceiling_brackets n d h
rounded_brackets below n d h = floor_brackets n d h

-- ---- and the only ones

-- q times d and less than d more isn't k times d for a greater k
next_product : (q k : ℤ) (b : ℕ) → q <ℤ k → (q *ℤ pos b +ℤ pos b) ≤ℤ (k *ℤ pos b)
next_product q k b h =
    let more : up q + down k + 1 ≤ up k + down q = omega (arith, ints) in
    omega (arith, ints, mul-le-mul_right b more)

-- of products with d, one that is below another plus d has no greater factor
no_greater : (q k d m : ℤ) → pos 0 <ℤ d → (k *ℤ d) ≤ℤ m → m <ℤ (q *ℤ d +ℤ d) → k ≤ℤ q
no_greater q k (negsuc b) m h low high = absurd h.lt
no_greater q k (pos b) m h low high =
    by_lt_z q k (λ less. absurd (omega (arith, ints, next_product q k b less))) (λ same. same)

pub floor_greatest : (n d k : ℤ) → pos 0 <ℤ d → (k *ℤ d) ≤ℤ n → k ≤ℤ floor n d
floor_greatest n d k h low = no_greater (floor n d) k d n h low (floor_brackets n d h).near

pub ceiling_least : (n d k : ℤ) → pos 0 <ℤ d → n ≤ℤ (k *ℤ d) → ceiling n d ≤ℤ k
ceiling_least n d k h high = let c = ceiling_brackets n d h in no_greater k (ceiling n d) d (ceiling n d *ℤ d) h (omega (arith, ints)) (omega (arith, ints, c.near))

pub floor_unique : (n d q : ℤ) → pos 0 <ℤ d → RoundsDown n d q → q ≡ floor n d
floor_unique n d q h f =
    let least : q ≤ℤ floor n d = floor_greatest n d q h f.at_most in
    let most : floor n d ≤ℤ q = no_greater q (floor n d) d n h (floor_brackets n d h).at_most f.near in
    omega (arith, ints)

pub ceiling_unique : (n d q : ℤ) → pos 0 <ℤ d → RoundsUp n d q → q ≡ ceiling n d
ceiling_unique n d q h c =
    let most : ceiling n d ≤ℤ q = ceiling_least n d q h c.at_least in
    let own = ceiling_brackets n d h in
    let least : q ≤ℤ ceiling n d = no_greater (ceiling n d) q d (q *ℤ d) h (omega (arith, ints)) (omega (arith, ints, c.near, own.at_least)) in
    omega (arith, ints)

pub rounded_unique : (side : Side) (n d q : ℤ) → pos 0 <ℤ d → IsRounded side n d q → q ≡ rounded side n d
rounded_unique above n d q h r = ceiling_unique n d q h r
rounded_unique below n d q h r = floor_unique n d q h r

-- ---- signs

pub floor_not_negative : (n d : ℤ) → pos 0 <ℤ d → pos 0 ≤ℤ n → pos 0 ≤ℤ floor n d
floor_not_negative n d h k = floor_greatest n d (pos 0) h (omega (arith, ints))

pub floor_at_most_ceiling : (n d : ℤ) → pos 0 <ℤ d → floor n d ≤ℤ ceiling n d
floor_at_most_ceiling n d h = let f = floor_brackets n d h in let c = ceiling_brackets n d h in
    no_greater (ceiling n d) (floor n d) d n h f.at_most (omega (arith, ints, c.at_least))

pub rounded_not_negative : (side : Side) (n d : ℤ) → pos 0 <ℤ d → pos 0 ≤ℤ n → pos 0 ≤ℤ rounded side n d
rounded_not_negative above n d h k = omega (arith, ints, floor_not_negative n d h k, floor_at_most_ceiling n d h)
rounded_not_negative below n d h k = floor_not_negative n d h k
