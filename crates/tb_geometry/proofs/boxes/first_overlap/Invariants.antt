use Rattle.std.proofs.Common.{ℕ, ◌<◌}
use Rattle.tb_geometry.specs.Cubes.{Overlap}
use Rattle.tb_geometry.proofs.boxes.first_overlap.Given as goal

-- the boxes so far share no cube with a later one
abbrev pub invariant-loop-i : goal.invariant-loop-i
invariant-loop-i l = (p q : ℕ) → Overlap l.boxes p q → l.i < p
