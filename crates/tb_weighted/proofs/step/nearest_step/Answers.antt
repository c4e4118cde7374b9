use Rattle.std.proofs.Common.{arith}
use Rattle.std.proofs.lemmas.Int.{ints}
use lib.IntN.{pos, ◌-ℤ◌, neg_ℤ}
use mir.Syntax.{w64}
use mir.Val.{to_z, of_z}
use Rattle.tb_weighted.specs.Least.{parabola}
use Rattle.tb_weighted.proofs.Counted.{upward_by, downward_by, nearest_at}
use Rattle.tb_weighted.proofs.step.nearest_step.Goals as goal

pub returns-then-b-lt0 : goal.returns-then-b-lt0
returns-then-b-lt0 c = nearest_at (parabola c.args.a c.args.b) c.args.low c.args.high (pos 0) (pos c.steps.result) (to_z w64 c.steps.result) (omega (arith, ints))
    (upward_by c.args.a c.args.b c.args.low c.args.high _ _ _ c.steps.result (omega (arith, ints)) (omega (arith, ints)) (omega (arith, ints)) c.requires.opens_up (omega (arith, ints)) c.requires.under c.requires.over c.steps.ensures.within c.steps.ensures.worth c.steps.ensures.enough)

pub returns-else-b-lt0 : goal.returns-else-b-lt0
returns-else-b-lt0 c = nearest_at (parabola c.args.a c.args.b) c.args.low c.args.high (pos 0) (neg_ℤ (pos c.steps-else-b-lt0.result)) (to_z w64 (of_z w64 (pos 0 -ℤ to_z w64 c.steps-else-b-lt0.result))) (omega (arith, ints))
    (downward_by c.args.a c.args.b c.args.low c.args.high _ _ _ c.steps-else-b-lt0.result (omega (arith, ints)) (omega (arith, ints)) (omega (arith, ints)) c.requires.opens_up (omega (arith, ints)) c.requires.under c.requires.over c.steps-else-b-lt0.ensures.within c.steps-else-b-lt0.ensures.worth c.steps-else-b-lt0.ensures.enough)
