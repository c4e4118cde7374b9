use Rattle.std.proofs.Common.{ℕ, ◌<◌, ◌≤◌}
use Rattle.tb_places.specs.declared.AxisName.TheVariants.{X}
use Rattle.tb_places.specs.Places.{place_at}
use Rattle.tb_relax.specs.Settled.{NodeStays}
use Rattle.tb_relax.specs.Tables.{table_counts}
use Rattle.tb_relax.proofs.table.Table.layer_moves.Given as goal

abbrev pub invariant-loop-j : goal.invariant-loop-j
invariant-loop-j l = (j : ℕ) → j < l.j → (i : ℕ) → i ≤ table_counts l.self X → NodeStays l.self l.values (place_at i j l.k)
