-- a least value of a function of whole numbers in a range, and the one nearest to a present value
use Rattle.std.specs.Prelude.{ℕ, ◌≤◌, ℤ, ◌+ℤ◌, ◌-ℤ◌, ◌*ℤ◌, ◌≤ℤ◌, unsigned_abs}

-- how far two numbers lie apart
abbrev pub apart : ℤ → ℤ → ℕ
apart x p = unsigned_abs (x -ℤ p)

-- x lies in the range, no number of the range gives less, and none that gives as little lies nearer to p
pub record IsNearestLeast (q : ℤ → ℤ) (lo hi p x : ℤ) : Type 0 where
  pub above : lo ≤ℤ x
  pub below : x ≤ℤ hi
  pub least : (y : ℤ) → lo ≤ℤ y → y ≤ℤ hi → q x ≤ℤ q y
  pub nearest : (y : ℤ) → lo ≤ℤ y → y ≤ℤ hi → q y ≤ℤ q x → apart x p ≤ apart y p

-- a * t * t + b * t
abbrev pub parabola : ℤ → ℤ → ℤ → ℤ
parabola a b t = a *ℤ (t *ℤ t) +ℤ b *ℤ t

-- the same among the numbers that are allowed
pub record IsNearestLeastOf (q : ℤ → ℤ) (Allowed : ℤ → Type 0) (p x : ℤ) : Type 0 where
  pub allowed : Allowed x
  pub least : (y : ℤ) → Allowed y → q x ≤ℤ q y
  pub nearest : (y : ℤ) → Allowed y → q y ≤ℤ q x → apart x p ≤ apart y p
