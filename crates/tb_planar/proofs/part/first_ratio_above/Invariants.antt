use Rattle.std.proofs.Common.{◌≡◌, ℕ, ◌<◌, false, get_or}
use Rattle.tb_detail.specs.declared.Part.{Part}
use Rattle.tb_planar.specs.Printed.{is_ratio_above}
use Rattle.tb_planar.proofs.part.first_ratio_above.Given as goal

abbrev pub invariant-loop-place : goal.invariant-loop-place
invariant-loop-place l = (k : ℕ) (e : Part) → k < l.place → is_ratio_above l.detail (get_or l.detail.parts k e) ≡ false
