use Rattle.std.proofs.Common.{ℕ, ◌<◌, ◌≤◌}
use Rattle.tb_places.specs.declared.AxisName.TheVariants.{X}
use Rattle.tb_places.specs.Places.{place_at}
use Rattle.tb_relax.specs.Edges.{first_edge}
use Rattle.tb_relax.specs.Settled.{FlowStays, loop_on}
use Rattle.tb_relax.specs.Tables.{table_counts}
use Rattle.tb_relax.proofs.table.Table.edge_layer_moves.Given as goal

abbrev pub invariant-loop-j : goal.invariant-loop-j
invariant-loop-j l = record { so_far : (j : ℕ) → j < l.j → (i : ℕ) → (first_edge l.axis).j ≤ j → (first_edge l.axis).i ≤ i → i < table_counts l.self X → FlowStays l.self l.flows (loop_on l.self l.axis (place_at i j l.k)); from : (first_edge l.axis).j ≤ l.j }
