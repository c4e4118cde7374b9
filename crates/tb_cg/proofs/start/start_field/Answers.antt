use Rattle.tb_cg.proofs.start.start_field.Goals as goal

pub loop-number-preserved : goal.loop-number-preserved
loop-number-preserved c = λ given. c.set_above.ensures (c.set.ensures (c.loop-number.invariant given))
