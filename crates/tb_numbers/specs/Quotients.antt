-- Quotients of whole numbers, rounded to a whole number.
use Rattle.std.specs.Prelude.{ℤ, neg_ℤ}
use Rattle.std.specs.Int.{int_div_euclid}
use Rattle.tb_math.specs.Ceiling.{RoundsDown, RoundsUp}

-- the side of a quotient on which its whole number lies
pub data Side : Type 0 where
  above : Side
  below : Side

-- the greatest whole number whose product with d is at most n, for d above 0
unfoldable pub floor : ℤ → ℤ → ℤ
floor n d = int_div_euclid n d

-- the least whole number whose product with d is at least n, for d above 0
unfoldable pub ceiling : ℤ → ℤ → ℤ
ceiling n d = neg_ℤ (floor (neg_ℤ n) d)

-- the quotient of n and d as the whole number next to it on this side
abbrev pub rounded : Side → ℤ → ℤ → ℤ
rounded above n d = ceiling n d
rounded below n d = floor n d

-- q is that number
abbrev pub IsRounded : Side → ℤ → ℤ → ℤ → Type 0
IsRounded above n d q = RoundsUp n d q
IsRounded below n d q = RoundsDown n d q
