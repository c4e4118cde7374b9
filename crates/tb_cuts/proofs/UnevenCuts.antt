-- A corner that is cut at a quarter: what is divided at the half is wrong, by computation.
use mathlib.Core.Path.{◌≡◌, refl, sym, subst}
use mathlib.Core.List.{[]}
use Prim.Native.Nat.{ℕ, zero, suc, ◌<◌, ◌≤◌}
use native.Mathlib.Omega.{arith}
use lib.IntN.{pos}
use Rattle.std.specs.Prelude.{Some}
use Rattle.tb_math.specs.Fraction.{leF}
use Rattle.tb_math.specs.Rational.{int, one_over, ◌+ℚ◌, ◌*ℚ◌, neg_ℚ, leq, ◌≤ℚ◌, ◌<ℚ◌}
use Rattle.tb_math.specs.Division.{inverse}
use Rattle.tb_math.proofs.RationalOrder.{≤ℚ-refl}
use Rattle.tb_math.proofs.ReadRationals.{by_reading, reading}
use Rattle.tb_places.specs.declared.AxisName.{AxisName}
use Rattle.tb_places.specs.declared.AxisName.TheVariants.{X, Y, Z}
use Rattle.tb_places.specs.Places.{second, third, along}
use Rattle.tb_detail.specs.declared.Content.TheVariants.{Solid}
use Rattle.tb_model.specs.declared.FaceKind.TheVariants.{Shut}
use Rattle.tb_model.specs.Cuts.{cut, cut_field}
use Rattle.tb_model.specs.Energy.{IsBalanced, spread, exact, energy, outflow}
use Rattle.tb_model.specs.Mesh.{kind}
use Rattle.tb_cuts.specs.Corner.{corner, warm_beside, corner_field, corner_flux, half, quarter, halved_flux}

cells : (i j k material : ℕ) → i < corner.cells X → j < corner.cells Y → k < corner.cells Z → corner.occupant i j k ≡ Some (Solid material) → outflow corner_flux i j k ≡ int (pos 0)
cells zero zero k material hi hj hk is = by_reading {atoms = []} (search reading depth 20) (search reading) refl
cells (suc i) zero k material hi hj hk is = absurd (grind arith)
cells zero (suc j) k material hi hj hk is = absurd (grind arith)
cells (suc i) (suc j) k material hi hj hk is = absurd (grind arith)

shut : (a : AxisName) (i j k : ℕ) → i ≤ corner.cells a → j < corner.cells (second a) → k < corner.cells (third a) → kind corner a i j k ≡ Shut → along a (corner_flux a) i j k ≡ int (pos 0)
shut X zero j k hi hj hk is = refl
shut X (suc zero) zero k hi hj hk is = absurd (grind arith)
shut X (suc zero) (suc j) k hi hj hk is = refl
shut X (suc (suc i)) j k hi hj hk is = refl
shut Y zero zero k hi hj hk is = refl
shut Y zero (suc j) k hi hj hk is = refl
shut Y (suc zero) zero k hi hj hk is = absurd (grind arith)
shut Y (suc zero) (suc j) k hi hj hk is = refl
shut Y (suc (suc i)) zero k hi hj hk is = refl
shut Y (suc (suc i)) (suc j) k hi hj hk is = refl
shut Z i j k hi hj hk is = refl

pub corner-balanced : IsBalanced corner corner_flux
corner-balanced = record { cells = cells; shut = shut }

-- the first part takes in a half and lets out a quarter
taken_in : outflow (halved_flux Y 0 quarter corner_flux) 0 0 0 <ℚ int (pos 0)
unfolding int ◌+ℚ◌ ◌*ℚ◌ one_over neg_ℚ leq leF
taken_in = record { not_above = λ l. l.leq_true }

pub halves-unbalanced : IsBalanced (cut Y 0 quarter corner) (halved_flux Y 0 quarter corner_flux) → ⊥
halves-unbalanced balanced = taken_in.not_above (subst (λ t. int (pos 0) ≤ℚ t) (sym (balanced.cells 0 0 0 0 (omega arith) (omega arith) (omega arith) refl)) (≤ℚ-refl (int (pos 0))))

pub middle-above : energy corner warm_beside corner_field <ℚ energy (cut X 0 quarter corner) warm_beside (cut_field X 0 half corner_field)
unfolding energy exact spread int ◌+ℚ◌ ◌*ℚ◌ inverse one_over neg_ℚ leq leF
middle-above = record { not_above = λ l. l.leq_true }
