use Rattle.std.proofs.Common.{ℕ, ◌<◌, ◌≤◌}
use Rattle.tb_places.specs.declared.AxisName.TheVariants.{X, Y}
use Rattle.tb_places.specs.Places.{place_at}
use Rattle.tb_relax.specs.Settled.{NodeStays}
use Rattle.tb_relax.specs.Tables.{table_counts}
use Rattle.tb_relax.proofs.table.Table.some_node_moves.Given as goal

abbrev pub invariant-loop-k : goal.invariant-loop-k
invariant-loop-k l = (k : ℕ) → k < l.k → (j i : ℕ) → j ≤ table_counts l.self Y → i ≤ table_counts l.self X → NodeStays l.self l.values (place_at i j k)
