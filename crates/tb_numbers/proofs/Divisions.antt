-- What `/` gives in place of the ceiling, in 128 bits.
use Rattle.std.proofs.Common.{◌≡◌, refl, ◌+◌, ◌/◌, ℕ, suc, zero, arith, ℤ, pos, negsuc, ◌+ℤ◌, ◌-ℤ◌, ◌<ℤ◌, neg_ℤ, true, false, to_z, of_z, FitsSigned}
use Rattle.std.proofs.lemmas.Int.{ints, quot_fits, to_z-of_z}
use Rattle.std.proofs.Math.Nat.{div-le_self, zero-div}
use Rattle.std.specs.Int.{w128}
use Rattle.std.specs.Prelude.{int_div, int_lt}
use Rattle.tb_numbers.specs.Quotients.{floor, ceiling}

one_less : (a : ℕ) → pos (suc a) -ℤ pos 1 ≡ pos a
one_less a = omega (arith, ints)

pub above_zero_up : (n d : ℤ) → FitsSigned w128 n → pos 0 <ℤ d → int_lt (pos 0) n ≡ true
    → to_z w128 (of_z w128 (to_z w128 (of_z w128 (int_div (to_z w128 (of_z w128 (n -ℤ pos 1))) d)) +ℤ pos 1)) ≡ ceiling n d
unfolding ceiling floor
above_zero_up (pos zero) d f h t = cc t
above_zero_up (negsuc a) d f h t = cc t
above_zero_up (pos (suc a)) (negsuc b) f h t = absurd h.lt
above_zero_up (pos (suc a)) (pos b) f h t =
    let less : FitsSigned w128 (pos a) = record { sfits = omega (arith, f.sfits) } in
    let quotient : FitsSigned w128 (pos (a / b)) = record { sfits = omega (arith, f.sfits, div-le_self a b) } in
    let next : FitsSigned w128 (pos (a / b + 1)) = record { sfits = omega (arith, f.sfits, div-le_self a b) } in
    rw (one_less a, to_z-of_z w128 (pos a) less, to_z-of_z w128 (pos (a / b)) quotient, to_z-of_z w128 (pos (a / b + 1)) next) (omega (arith, ints))

pub not_above_zero_up : (n d : ℤ) → FitsSigned w128 n → pos 0 <ℤ d → int_lt (pos 0) n ≡ false
    → to_z w128 (of_z w128 (int_div n d)) ≡ ceiling n d
unfolding ceiling floor
not_above_zero_up (pos (suc a)) d f h t = let no : int_lt (pos 0) (pos (suc a)) ≡ true = grind (arith, ints) in cc
not_above_zero_up n (negsuc b) f h t = absurd h.lt
not_above_zero_up (pos zero) (pos b) f h t = rw (zero-div b) refl
not_above_zero_up (negsuc a) (pos b) f h t = to_z-of_z w128 (neg_ℤ (pos (suc a / b))) (quot_fits w128 (negsuc a) (pos b) f h)
