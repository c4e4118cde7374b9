use Rattle.std.proofs.Common.{ℕ, ◌<◌}
use Rattle.tb_detail.specs.declared.Part.{Part}
use Rattle.tb_uvalues.specs.Answers.{HasUValue, IsPartAt}
use Rattle.tb_uvalues.proofs.list.first_refused.Given as goal

abbrev pub invariant-loop-place : goal.invariant-loop-place
invariant-loop-place l = (n : ℕ) (p : Part) → n < l.place → IsPartAt l.detail n p → HasUValue l.detail p
