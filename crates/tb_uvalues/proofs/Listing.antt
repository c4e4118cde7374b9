-- The parts of a detail one after the other, and what is printed of each.
use Rattle.std.proofs.Common.{◌≡◌, refl, sym, ap, ◌∙◌, subst, ℕ, ◌^◌, ◌<◌, pos, List, [], ◌∷◌, length, get_or, Some, Result, Ok, Err, false, arith}
use Rattle.std.proofs.lemmas.Option.{slice_get-get_or}
use Rattle.std.specs.Prelude.{IfOk, is_err}
use mathlib.Core.Quot.{sound}
use Rattle.tb_math.specs.Rational.{ℚ, int, one_over, ◌*ℚ◌}
use Rattle.tb_math.proofs.ReadRationals.{by_reading, reading}
use Rattle.tb_detail.specs.declared.Detail.{Detail}
use Rattle.tb_detail.specs.declared.Part.{Part}
use Rattle.tb_planar.specs.declared.PlanarU.{PlanarU}
use Rattle.tb_planar.specs.declared.RatioAbove.{RatioAbove}
use Rattle.tb_planar.specs.declared.URange.{URange}
use Rattle.tb_planar.specs.Bounds.{Encloses, divided}
use Rattle.tb_planar.specs.Printed.{HoldsError, HoldsTransmittance, answer}
use Rattle.tb_planar.specs.Transmittance.{relative_error, transmittance}
use Rattle.tb_planar.proofs.Enclosing.{divided-encloses}
use Rattle.tb_uvalues.specs.Answers.{HasUValue, HaveUValues, HoldsPrinted, IsPartAt}
use Rattle.tb_uvalues.specs.Texts.{line, line_of, printed_range}

to_last_place : int (pos (10 ^ 15)) *ℚ one_over (10 ^ 9) ≡ int (pos (10 ^ 6))
unfolding int one_over ◌*ℚ◌
to_last_place = sound (record { same = refl })

-- what lies between whole numbers of fW/(m²·K) lies between the ends that are printed
pub printed-holds : (u : URange) (q : ℚ) → HoldsTransmittance u q → HoldsPrinted (printed_range u) q
printed-holds u q h =
    subst (λ (t : ℚ). Encloses (divided (record { low = u.lo; high = u.hi }) (10 ^ 9)) t)
    (regrouped (int (pos (10 ^ 15))) q (one_over (10 ^ 9)) ∙ ap (λ (t : ℚ). t *ℚ q) to_last_place)
    (divided-encloses (record { low = u.lo; high = u.hi }) (10 ^ 9) (int (pos (10 ^ 15)) *ℚ q) (omega arith) h)
  where
    regrouped : (x y z : ℚ) → x *ℚ y *ℚ z ≡ x *ℚ z *ℚ y
    regrouped x y z = by_reading {atoms = x ∷ y ∷ z ∷ []} (search reading) (search reading) refl

-- what `planar` answers of a part
pub printed : (d : Detail) (p : Part) (r : Result PlanarU RatioAbove) → r ≡ answer d p → IfOk r (λ v. HoldsTransmittance v.u (transmittance d p))
    → IfOk r (λ v. HoldsError v.error (relative_error d p)) → IfOk r (λ v. HasUValue d p)
printed d p (Ok v) e h k = record { value = v; is = sym e; encloses = printed-holds v.u (transmittance d p) h; error = k }
printed d p (Err x) e h k = tt

-- a part that isn't refused
pub unrefused : (P : Type 0) (r : Result PlanarU RatioAbove) → is_err r ≡ false → IfOk r (λ v. P) → P
unrefused P (Ok v) e h = h
unrefused P (Err x) e h = cc e

-- a place has a part
pub part_there : (d : Detail) (xs : List Part) (n i : ℕ) (p : Part) → xs ≡ d.parts → i ≡ n → i < length xs → p ≡ get_or xs i p → IsPartAt d n p
part_there d xs n i p e k l is = rw (← e, ← k) (slice_get-get_or xs i p l ∙ ap Some (sym is))

-- a detail whose parts have U-values refuses none
pub not_refused : (d : Detail) (n : ℕ) (p : Part) (x : RatioAbove) → HaveUValues d → IsPartAt d n p → Err x ≡ answer d p → ⊥
not_refused d n p x h there e = let is = (h n p there).is in cc (e, is)

pub line_is : (d : Detail) (p : Part) (v : PlanarU) → answer d p ≡ Ok v → line p v ≡ line_of p (answer d p)
line_is d p v e = rw e refl
