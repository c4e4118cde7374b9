-- Each list of boxes has a hull.
use Rattle.std.proofs.Common.{◌<◌, ◌≤◌, ℕ, List, [], ◌∷◌, min, max, inl, inr, arith}
use Rattle.std.proofs.lemmas.Bool.{cases_lt}
use Rattle.std.specs.List.{Any}
use Rattle.tb_places.specs.declared.AxisName.{AxisName}
use Rattle.tb_detail.specs.declared.SpaceBox.{SpaceBox}
use Rattle.tb_model.specs.Refinement.{low, high}
use Rattle.tb_geometry.specs.Volumes.{IsHull}
use Rattle.tb_geometry.proofs.Members.{first, first_or_later, later, not_in_none}

-- the lowest coordinate of a box and more boxes on an axis, and the highest of boxes
abbrev lowest : AxisName → SpaceBox → List SpaceBox → ℕ
lowest a b [] = low a b
lowest a b (c ∷ bs) = min (low a b) (lowest a c bs)

abbrev highest : AxisName → List SpaceBox → ℕ
highest a [] = 0
highest a (b ∷ bs) = max (high a b) (highest a bs)

from_lowest : (a : AxisName) (b : SpaceBox) (bs : List SpaceBox) (x : ℕ) → Any (λ c. low a c ≤ x) (b ∷ bs) → lowest a b bs ≤ x
from_lowest a b [] x some = elim (first_or_later (λ c. low a c ≤ x) b [] some) [
  | inl here ↦ here
  | inr there ↦ absurd (not_in_none (λ c. low a c ≤ x) there)
]
from_lowest a b (c ∷ bs) x some = elim (first_or_later (λ c. low a c ≤ x) b (c ∷ bs) some) [
  | inl here ↦ omega arith
  | inr there ↦ omega (arith, from_lowest a c bs x there)
]

to_lowest : (a : AxisName) (b : SpaceBox) (bs : List SpaceBox) (x : ℕ) → lowest a b bs ≤ x → Any (λ c. low a c ≤ x) (b ∷ bs)
to_lowest a b [] x below = first (λ c. low a c ≤ x) b [] below
to_lowest a b (c ∷ bs) x below = elim (cases_lt x (low a b)) [
  | inl above ↦ later (λ c. low a c ≤ x) b (c ∷ bs) (to_lowest a c bs x (omega arith))
  | inr here ↦ first (λ c. low a c ≤ x) b (c ∷ bs) here
]

below_highest : (a : AxisName) (bs : List SpaceBox) (x : ℕ) → Any (λ b. x < high a b) bs → x < highest a bs
below_highest a [] x some = absurd (not_in_none (λ b. x < high a b) some)
below_highest a (b ∷ bs) x some = elim (first_or_later (λ b. x < high a b) b bs some) [
  | inl here ↦ omega arith
  | inr there ↦ omega (arith, below_highest a bs x there)
]

to_highest : (a : AxisName) (bs : List SpaceBox) (x : ℕ) → x < highest a bs → Any (λ b. x < high a b) bs
to_highest a [] x below = absurd (omega arith)
to_highest a (b ∷ bs) x below = elim (cases_lt x (high a b)) [
  | inl here ↦ first (λ b. x < high a b) b bs here
  | inr above ↦ later (λ b. x < high a b) b bs (to_highest a bs x (omega arith))
]

pub has_hull : (boxes : List SpaceBox) → (lo hi : AxisName → ℕ) × IsHull boxes lo hi
has_hull [] = (λ a. 0, λ a. 0, λ a x. (λ inside. absurd (not_in_none (λ b. low a b ≤ x) inside.from), λ within. absurd (omega (arith, within.below))))
has_hull (b ∷ bs) = (
  λ a. lowest a b bs,
  λ a. highest a (b ∷ bs),
  λ a x. (
    λ inside. record { from = from_lowest a b bs x inside.from; below = below_highest a (b ∷ bs) x inside.below },
    λ within. record { from = to_lowest a b bs x within.from; below = to_highest a (b ∷ bs) x within.below },
  ),
)
