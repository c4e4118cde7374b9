use Rattle.tb_solving.proofs.Right.{next_right}
use Rattle.tb_solving.proofs.cases.solve_sets.Goals as goal

pub loop-mask-preserved : goal.loop-mask-preserved
loop-mask-preserved c =
    next_right c.args.body.now c.args.grid.now c.args.target c.args.masks.now c.loop-mask.proofs.items c.push.new.self.items c.loop-mask.mask-index c.in-Ok.proof
    c.loop-mask-test.true c.in-Ok-push.ensures.items c.loop-mask.invariant c.in-Ok.ensures
