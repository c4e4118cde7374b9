use Rattle.tb_trees.proofs.Kept.{kept_read}
use Rattle.tb_trees.proofs.tree.OutletTree.new.Goals as goal

pub invariant_of-result : goal.invariant_of-result
invariant_of-result c =
    let here = c.counts.ensures in
    kept_read c.of.result.value c.args.body.now c.of-2.result.value c.args.grid.now c.counts.result.x c.counts.result.y c.counts.result.z _ _ _ _ _
    c.of.ensures c.of-2.ensures here.on_x here.on_y here.on_z c.in_ok-tree.ensures
