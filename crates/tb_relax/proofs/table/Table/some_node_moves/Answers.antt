use Rattle.std.proofs.Common.{ℕ, ◌≤◌, arith}
use Rattle.tb_places.specs.declared.AxisName.TheVariants.{X, Y}
use Rattle.tb_places.specs.Places.{place_at}
use Rattle.tb_relax.specs.Settled.{NodeStays}
use Rattle.tb_relax.specs.Tables.{table_counts}
use Rattle.tb_relax.proofs.Staying.{further}
use Rattle.tb_relax.proofs.table.Table.some_node_moves.Goals as goal

pub loop-k-preserved : goal.loop-k-preserved
loop-k-preserved c = further (λ (k : ℕ). (j i : ℕ) → j ≤ table_counts c.args.self.now Y → i ≤ table_counts c.args.self.now X → NodeStays c.args.self.now c.args.values.now (place_at i j k)) c.loop-k.k _ (omega arith) c.loop-k.invariant (c.layer_moves.ensures.stay c.if-layer_moves.false)
