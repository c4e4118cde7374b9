use Rattle.std.proofs.Common.{ℕ, ◌<◌, ◌≤◌}
use Rattle.tb_places.specs.declared.AxisName.TheVariants.{X, Y}
use Rattle.tb_places.specs.Places.{place_at}
use Rattle.tb_relax.specs.Edges.{first_edge}
use Rattle.tb_relax.specs.Settled.{FlowStays, loop_on}
use Rattle.tb_relax.specs.Tables.{table_counts}
use Rattle.tb_relax.proofs.table.Table.edges_move.Given as goal

abbrev pub invariant-loop-k : goal.invariant-loop-k
invariant-loop-k l = record { so_far : (k : ℕ) → k < l.k → (j i : ℕ) → (first_edge l.axis).k ≤ k → (first_edge l.axis).j ≤ j → j < table_counts l.self Y → (first_edge l.axis).i ≤ i → i < table_counts l.self X → FlowStays l.self l.flows (loop_on l.self l.axis (place_at i j k)); from : (first_edge l.axis).k ≤ l.k }
