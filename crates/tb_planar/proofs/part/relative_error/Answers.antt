use Rattle.std.proofs.Common.{◌≡◌, ◌∙◌, ◌^◌, pos, to_z, of_z, ◌-ℤ◌, ◌*ℤ◌, ◌+ℤ◌, arith}
use Rattle.std.proofs.lemmas.Int.{ints, to_z-of_z}
use Rattle.std.specs.Int.{w128}
use Rattle.tb_planar.specs.declared.bounds.Bounds.{Bounds}
use Rattle.tb_planar.specs.Bounds.{IsResistance}
use Rattle.tb_planar.specs.Printed.{relative_error}
use Rattle.tb_planar.proofs.part.relative_error.Goals as goal

difference : (u l : Bounds) → IsResistance u → IsResistance l
    → to_z w128 (of_z w128 (pos 10000 *ℤ to_z w128 (of_z w128 (to_z w128 (of_z w128 u.high) -ℤ to_z w128 (of_z w128 l.low))))) ≡ pos (10 ^ 4) *ℤ (u.high -ℤ l.low)
difference u l h k = omega (arith, ints)

sum : (u l : Bounds) → IsResistance u → IsResistance l → to_z w128 (of_z w128 (to_z w128 (of_z w128 u.low) +ℤ to_z w128 (of_z w128 l.low))) ≡ u.low +ℤ l.low
sum u l h k = omega (arith, ints)

pub returns : goal.returns
unfolding relative_error
returns c = to_z-of_z w128 c.div.result (record { sfits = c.div.type_inv })
    ∙ (rw (difference c.args.upper c.args.lower c.requires.upper c.requires.lower, sum c.args.upper c.args.lower c.requires.upper c.requires.lower) at c.div.ensures.value)
