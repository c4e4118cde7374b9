use Rattle.std.proofs.Common.{refl}
use Rattle.tb_geometry.specs.Grids.{mesh_on}
use Rattle.tb_trees.proofs.Air.{none_isolated_on}
use Rattle.tb_trees.proofs.Filled.{counts_read, marks_read}
use Rattle.tb_trees.proofs.tree.grown.Goals as goal

pub returns : goal.returns
returns c =
    let d = c.args.body.now in let g = c.args.grid.now in let m = mesh_on d g in
    let one = c.counts.ensures in let two = c.counts-2.ensures in
    let marked = c.in_ok-solid.ensures.marked in
    record {
      carried = c.requires;
      counts = refl;
      tree = c.in_ok-tree.ensures.of_mesh m (counts_read d g c.counts.result.x c.counts.result.y c.counts.result.z one.on_x one.on_y one.on_z)
          (marks_read d g c.in_ok-solid.solid.items c.as_slice.result.now c.as_slice.ensures.value marked)
          (none_isolated_on d g c.judged.ensures.limits c.judged.ensures.accepted c.requires);
      passes = c.in_ok-passable.ensures m (counts_read d g c.counts-2.result.x c.counts-2.result.y c.counts-2.result.z two.on_x two.on_y two.on_z)
          (marks_read d g c.in_ok-solid.solid.items c.as_slice-2.result.now c.as_slice-2.ensures.value marked);
      solids = marks_read d g c.in_ok-solid.solid.items c.in_ok-solid.solid.items refl marked;
      each = c.in_ok-solid.ensures.count;
    }
