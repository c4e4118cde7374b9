-- Numbers within a range, and the first of its kind.
use Rattle.std.specs.Prelude.{ℕ, ◌<◌, ◌≤◌}

-- a number is in the range from low up to high, which has its low end but not its high end
pub record IsWithin (low high x : ℕ) : Type 0 where
  pub from : low ≤ x
  pub below : x < high

-- Things of a set are numbered, and each is bad or good. This one is bad, and all of smaller numbers are good.
pub record IsFirst {A : Type 0} (number : A → ℕ) (In Good Bad : A → Type 0) (x : A) : Type 0 where
  pub in_set : In x
  pub is_bad : Bad x
  pub before : (y : A) → In y → number y < number x → Good y
