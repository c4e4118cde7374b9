-- How many boxes hold a unit cube.
use Rattle.std.proofs.Common.{◌≡◌, ◌⊎◌, refl, ◌+◌, ◌*◌, ◌≤◌, ℕ, suc, List, [], ◌∷◌, inl, inr, arith}
use Rattle.std.specs.List.{All}
use Rattle.tb_places.specs.declared.AxisName.TheVariants.{X, Y, Z}
use Rattle.tb_detail.specs.declared.SpaceBox.{SpaceBox}
use Rattle.tb_model.specs.Refinement.{low, high}
use Rattle.tb_geometry.specs.Cubes.{AreApart, HoldsCube, IsHeld}
use Rattle.tb_geometry.proofs.Members.{first, first_or_later, later, not_in_none}
use Rattle.tb_geometry.proofs.Reaches.{reach, reach_either}

-- 1 where a box holds the cube at (x,y,z), else 0
abbrev pub held : SpaceBox → ℕ → ℕ → ℕ → ℕ
held b x y z = reach (low X b) (high X b) x * (reach (low Y b) (high Y b) y * reach (low Z b) (high Z b) z)

-- how many of the boxes hold it
abbrev pub holder_count : List SpaceBox → ℕ → ℕ → ℕ → ℕ
holder_count [] x y z = 0
holder_count (b ∷ bs) x y z = held b x y z + holder_count bs x y z

no_x : (a b c : ℕ) → a ≡ 0 → a * (b * c) ≡ 0
no_x a b c h = rw h (omega arith)

no_y : (a b c : ℕ) → b ≡ 0 → a * (b * c) ≡ 0
no_y a b c h = rw h (omega arith)

no_z : (a b c : ℕ) → c ≡ 0 → a * (b * c) ≡ 0
no_z a b c h = rw h (omega arith)

all_one : (a b c : ℕ) → a ≡ 1 → b ≡ 1 → c ≡ 1 → a * (b * c) ≡ 1
all_one a b c h k l = rw (h, k, l) refl

pub held_either : (b : SpaceBox) (x y z : ℕ) → ((held b x y z ≡ 1) × HoldsCube b x y z) ⊎ ((held b x y z ≡ 0) × ¬ HoldsCube b x y z)
held_either b x y z = elim (reach_either (low X b) (high X b) x) [
  | inr misses ↦ inr (no_x _ _ _ misses.0, λ h. misses.1 (h.on_x.from, h.on_x.below))
  | inl on_x ↦ elim (reach_either (low Y b) (high Y b) y) [
    | inr misses ↦ inr (no_y _ _ _ misses.0, λ h. misses.1 (h.on_y.from, h.on_y.below))
    | inl on_y ↦ elim (reach_either (low Z b) (high Z b) z) [
      | inr misses ↦ inr (no_z _ _ _ misses.0, λ h. misses.1 (h.on_z.from, h.on_z.below))
      | inl on_z ↦ inl (
        all_one _ _ _ on_x.0 on_y.0 on_z.0,
        record {
          on_x = record { from = on_x.1.0; below = on_x.1.1 };
          on_y = record { from = on_y.1.0; below = on_y.1.1 };
          on_z = record { from = on_z.1.0; below = on_z.1.1 };
        },
      )
    ]
  ]
]

-- ---- none, one, some
no_holders : (bs : List SpaceBox) (x y z : ℕ) → All (λ b. ¬ HoldsCube b x y z) bs → holder_count bs x y z ≡ 0
no_holders [] x y z h = refl
no_holders (b ∷ bs) x y z h =
    let rest = no_holders bs x y z (λ k d below. h (suc k) d (omega arith)) in
    elim (held_either b x y z) [
      | inl holds ↦ absurd (h 0 b (omega arith) holds.1)
      | inr misses ↦ omega (arith, misses.0, rest)
    ]

-- of boxes that share no cube at most one holds it
pub one_holder : (bs : List SpaceBox) (x y z : ℕ) → AreApart bs → holder_count bs x y z ≤ 1
one_holder [] x y z apart = omega arith
one_holder (b ∷ bs) x y z apart =
    elim (held_either b x y z) [
      | inl holds ↦ omega (
        arith,
        holds.0,
        no_holders bs x y z (λ k d below h.
            apart 0 (suc k) d (omega arith) (omega arith) (record { at_x = x; at_y = y; at_z = z; first = holds.1; second = h })),
      )
      | inr misses ↦ omega (arith, misses.0, one_holder bs x y z (λ i j d before below. apart (suc i) (suc j) d (omega arith) (omega arith)))
    ]

pub holder_of : (bs : List SpaceBox) (x y z : ℕ) → holder_count bs x y z ≡ 1 → IsHeld bs x y z
holder_of [] x y z h = cc h
holder_of (b ∷ bs) x y z h =
    elim (held_either b x y z) [
      | inl holds ↦ first (λ c. HoldsCube c x y z) b bs holds.1
      | inr misses ↦ later (λ c. HoldsCube c x y z) b bs (holder_of bs x y z (omega (arith, misses.0)))
    ]

pub has_holder : (bs : List SpaceBox) (x y z : ℕ) → IsHeld bs x y z → 1 ≤ holder_count bs x y z
has_holder [] x y z some = absurd (not_in_none (λ b. HoldsCube b x y z) some)
has_holder (b ∷ bs) x y z some =
    elim (held_either b x y z) [
      | inl holds ↦ omega (arith, holds.0)
      | inr misses ↦ elim (first_or_later (λ c. HoldsCube c x y z) b bs some) [
        | inl here ↦ absurd (misses.1 here)
        | inr there ↦ omega (arith, has_holder bs x y z there)
      ]
    ]
