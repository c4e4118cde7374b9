use Rattle.tb_outside.proofs.Each.{gathers_next_item}
use Rattle.tb_canonical.proofs.things.put_each.Goals as goal

pub loop-thing-preserved : goal.loop-thing-preserved
loop-thing-preserved g c =
    gathers_next_item _ _ _ _ c.thing-item.is c.loop-thing-test.true c.loop-thing.invariant c.put.ensures
