-- Whether a range has a coordinate, as 1 or 0.
use Rattle.std.proofs.Common.{◌≡◌, ◌+◌, ◌-◌, ◌<◌, ◌≤◌, ◌⊎◌, ℕ, zero, suc, min, max, inl, inr, arith}
use Rattle.std.proofs.lemmas.Bool.Decides.{nat_tests}
use Rattle.std.proofs.lemmas.Bool.{cases_lt}
use Rattle.std.specs.Prelude.{◌&&◌, nat_le, nat_lt, if◌then◌else◌}
use Rattle.tb_math.specs.Sums.{total_ℕ}

abbrev pub reach : ℕ → ℕ → ℕ → ℕ
reach lo hi x = if nat_le lo x && nat_lt x hi then 1 else 0

pub reach_either : (lo hi x : ℕ) → ((reach lo hi x ≡ 1) × ((lo ≤ x) × (x < hi))) ⊎ ((reach lo hi x ≡ 0) × ((lo ≤ x) × (x < hi) → ⊥))
reach_either lo hi x = elim (cases_lt x lo) [
  | inl below ↦ inr (grind (arith, nat_tests), λ both. absurd (omega (arith, both.0)))
  | inr from ↦ elim (cases_lt x hi) [
    | inl within ↦ inl (grind (arith, nat_tests), (from, within))
    | inr above ↦ inr (grind (arith, nat_tests), λ both. absurd (omega (arith, both.1)))
  ]
]

-- of n coordinates from a start on, the range has those that are also below its end
reach_so_far : (start lo hi n : ℕ) → total_ℕ n (λ i. reach lo hi (start + i)) ≡ min hi (start + n) - max lo start
reach_so_far start lo hi zero = omega arith
reach_so_far start lo hi (suc n) =
    let before = reach_so_far start lo hi n in
    elim (reach_either lo hi (start + n)) [
      | inl holds ↦ omega (arith, before, holds.0, holds.1.0, holds.1.1)
      | inr misses ↦ elim (cases_lt (start + n) lo) [
        | inl below ↦ omega (arith, before, misses.0)
        | inr from ↦ elim (cases_lt (start + n) hi) [
          | inl within ↦ absurd (misses.1 (from, within))
          | inr above ↦ omega (arith, before, misses.0)
        ]
      ]
    ]

-- a range within another has as many of its coordinates as it is long
pub reach_total : (start lo hi end : ℕ) → (lo < hi → (start ≤ lo) × (hi ≤ end)) →
    total_ℕ (end - start) (λ i. reach lo hi (start + i)) ≡ hi - lo
reach_total start lo hi end inside =
    let all = reach_so_far start lo hi (end - start) in
    elim (cases_lt lo hi) [
      | inl some ↦ let (from, to) = inside some in omega (arith, all)
      | inr none ↦ omega (arith, all)
    ]
