use Rattle.std.proofs.Common.{arith}
use Rattle.tb_grid.specs.Grid.{counts_of}
use Rattle.tb_geometry.specs.Grids.{mesh_on}
use Rattle.tb_trees.proofs.Filled.{told_all, told_next}
use Rattle.tb_trees.proofs.flags.solid_cells.Goals as goal

pub loop-number-preserved : goal.loop-number-preserved
loop-number-preserved c =
    told_next (mesh_on c.args.body.now c.args.grid.now) (counts_of c.args.grid.now) c.loop-number.flags.items c.push.new.self.items
    c.loop-number.number c.is_solid.result c.loop-number.invariant c.is_solid.ensures c.in_ok-push.ensures.items

pub returns-clause-count : goal.returns-clause-count
returns-clause-count c = let long = c.loop-number.invariant.long in omega (arith, long, c.cells-count.ensures.cells)

pub returns-clause-marked : goal.returns-clause-marked
returns-clause-marked c =
    told_all c.args.body.now c.args.grid.now c.loop-number.flags.items c.loop-number.number c.requires.accepted c.requires.carries
    (omega (arith, c.cells-count.ensures.cells)) c.loop-number.invariant
