-- The difference of two ends in 128 bits.
use Rattle.std.specs.Prelude.{unsigned_abs}
use Rattle.std.proofs.Common.{◌≡◌, ap, ◌∙◌, ◌^◌, ◌≤◌, ℤ, ◌-ℤ◌, arith, to_z, of_z}
use Rattle.std.proofs.lemmas.Int.{ints}
use Rattle.std.specs.Int.{w128}

stored : (z : ℤ) → unsigned_abs z ≤ 2 ^ 122 → to_z w128 (of_z w128 z) ≡ z
stored z h = omega (arith, ints, h)

apart : (hi lo : ℤ) → unsigned_abs hi ≤ 2 ^ 120 → unsigned_abs lo ≤ 2 ^ 121 → unsigned_abs (hi -ℤ lo) ≤ 2 ^ 122
apart hi lo h l = omega (arith, ints, h, l)

pub difference_stored : (hi lo : ℤ) → unsigned_abs hi ≤ 2 ^ 120 → unsigned_abs lo ≤ 2 ^ 121 →
    to_z w128 (of_z w128 (to_z w128 (of_z w128 hi) -ℤ to_z w128 (of_z w128 lo))) ≡ hi -ℤ lo
difference_stored hi lo h l =
    ap (λ (z : ℤ). to_z w128 (of_z w128 (z -ℤ to_z w128 (of_z w128 lo)))) (stored hi (omega (arith, h)))
    ∙ ap (λ (z : ℤ). to_z w128 (of_z w128 (hi -ℤ z))) (stored lo (omega (arith, l))) ∙ stored (hi -ℤ lo) (apart hi lo h l)
