-- A step of a sum in 128 bits, whose total stays within 2 ^ 120.
use Rattle.std.proofs.Common.{◌≡◌, ◌^◌, arith, ℤ, pos, ◌+ℤ◌, ◌-ℤ◌, ◌≤ℤ◌, false, to_z, of_z, FitsSigned}
use Rattle.std.proofs.lemmas.Int.{ints}
use Rattle.std.specs.Int.{w128}
use Rattle.std.specs.Prelude.{int_lt}

-- the test that a term still fits
pub term_fits : (total term : ℤ) → FitsSigned w128 term → pos 0 ≤ℤ total → total ≤ℤ pos (2 ^ 120)
    → int_lt (to_z w128 (of_z w128 (pos (2 ^ 120) -ℤ to_z w128 (of_z w128 total)))) (to_z w128 (of_z w128 term)) ≡ false
    → (total +ℤ term) ≤ℤ pos (2 ^ 120)
term_fits total term f low high t = grind (arith, ints)

-- and what it adds
pub term_added : (total term : ℤ) → FitsSigned w128 term → pos 0 ≤ℤ total → total ≤ℤ pos (2 ^ 120) → pos 0 ≤ℤ term → (total +ℤ term) ≤ℤ pos (2 ^ 120)
    → to_z w128 (of_z w128 (to_z w128 (of_z w128 total) +ℤ to_z w128 (of_z w128 term))) ≡ total +ℤ term
term_added total term f low high least most = omega (arith, ints)
