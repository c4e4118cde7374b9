-- The plane wall: its flux is balanced, what should be positive is, and the sums come out, by computation.
use mathlib.Core.Path.{◌≡◌, refl}
use mathlib.Core.List.{[]}
use mathlib.Core.Quot.{sound}
use Prim.Native.Nat.{ℕ, zero, suc, ◌^◌, ◌<◌, ◌≤◌}
use native.Mathlib.Omega.{arith}
use Rattle.std.proofs.lemmas.Int.{ints}
use lib.IntN.{pos}
use Rattle.std.specs.Prelude.{Some}
use Rattle.tb_math.specs.Fraction.{leF}
use Rattle.tb_math.specs.Rational.{int, one_over, ◌+ℚ◌, ◌*ℚ◌, neg_ℚ, leq, ◌<ℚ◌}
use Rattle.tb_math.specs.Division.{inverse}
use Rattle.tb_math.proofs.ReadRationals.{by_reading, reading}
use Rattle.tb_math.proofs.StrictOrder.{<ℚ-int}
use Rattle.tb_places.specs.declared.AxisName.{AxisName}
use Rattle.tb_places.specs.declared.AxisName.TheVariants.{X, Y, Z}
use Rattle.tb_places.specs.Places.{second, third, along}
use Rattle.tb_detail.specs.declared.Content.TheVariants.{Air}
use Rattle.tb_model.specs.declared.FaceKind.TheVariants.{Shut}
use Rattle.tb_model.specs.Mesh.{kind}
use Rattle.tb_model.specs.Energy.{IsBalanced, spread, passage, exact, energy, source, bound}
use Rattle.tb_model.specs.Positive.{IsPhysical}
use Rattle.tb_duality.proofs.Surfaces.{surfaces_are_of_airs}
use Rattle.tb_duality.specs.Wall.{wall, warm_inside, wall_field, wall_flux, staying_flux}

pub wall-energy : energy wall warm_inside wall_field ≡ int (pos (10 ^ 15))
unfolding energy exact spread int ◌+ℚ◌ ◌*ℚ◌ inverse one_over neg_ℚ
wall-energy = sound (record { same = refl })

pub wall-bound : bound wall warm_inside wall_flux ≡ int (pos (10 ^ 15))
unfolding bound source exact passage int ◌+ℚ◌ ◌*ℚ◌ inverse one_over neg_ℚ
wall-bound = sound (record { same = refl })

positive : (n : ℕ) → 0 < n → int (pos 0) <ℚ int (pos n)
positive n h = <ℚ-int (pos 0) (pos n) (omega (arith, ints))

widths : (a : AxisName) (i : ℕ) → i < wall.cells a → int (pos 0) <ℚ wall.width a i
widths X i h = positive 1660 (omega arith)
widths Y i h = positive 10000 (omega arith)
widths Z i h = positive 10000 (omega arith)

airs_resist : (i j k e rs : ℕ) → wall.occupant i j k ≡ Some (Air e rs) → 0 < rs
airs_resist zero j k e rs is = grind arith
airs_resist (suc zero) j k e rs is = absurd (grind arith)
airs_resist (suc (suc i)) j k e rs is = grind arith

pub wall-physical : IsPhysical wall
wall-physical = record {
  widths = widths;
  conductivities = λ a i j k material h is. positive 2000 (omega arith);
  resistances = λ a i j k e rs low hi hj hk is. surfaces_are_of_airs (λ e rs. 0 < rs) wall airs_resist a i j k e rs low is;
}

shut : (a : AxisName) (i j k : ℕ) → i ≤ wall.cells a → j < wall.cells (second a) → k < wall.cells (third a) → kind wall a i j k ≡ Shut → along a (wall_flux a) i j k ≡ int (pos 0)
shut X zero j k hi hj hk is = absurd (grind arith)
shut X (suc zero) j k hi hj hk is = absurd (grind arith)
shut X (suc (suc zero)) j k hi hj hk is = absurd (grind arith)
shut X (suc (suc (suc zero))) j k hi hj hk is = absurd (grind arith)
shut X (suc (suc (suc (suc i)))) j k hi hj hk is = absurd (omega arith)
shut Y i j k hi hj hk is = refl
shut Z i j k hi hj hk is = refl

pub wall-balanced : IsBalanced wall wall_flux
wall-balanced = record {
  cells = λ i j k material hi hj hk is. by_reading {atoms = []} (search reading) (search reading) refl;
  shut = shut;
}

-- where heat may stay in the wall, its bound is too high
pub staying-above : energy wall warm_inside wall_field <ℚ bound wall warm_inside staying_flux
unfolding energy bound source exact spread passage int ◌+ℚ◌ ◌*ℚ◌ inverse one_over neg_ℚ leq leF
staying-above = record { not_above = λ l. l.leq_true }
