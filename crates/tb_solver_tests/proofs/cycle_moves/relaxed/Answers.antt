use Rattle.std.proofs.Common.{ap, sym, ◌∙◌}
use Rattle.tb_grid.specs.Grid.{counts_of}
use Rattle.tb_trees.specs.Bodies.{BodyOnGrid}
use Rattle.tb_trees.proofs.Filled.{mesh_counts}
use Rattle.tb_solver_tests.proofs.cycle_moves.relaxed.Goals as goal

pub turned-requires : goal.turned-requires
turned-requires c =
    c.table-table.ensures.counts _ _ c.in-Ok.ensures ∙ sym (mesh_counts c.args.body.now c.base-grid.result.now)
    ∙ sym (ap (λ (b : BodyOnGrid). counts_of b.grid) c.in_ok-tree.ensures)
