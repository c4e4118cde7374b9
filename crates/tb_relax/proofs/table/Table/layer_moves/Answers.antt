use Rattle.std.proofs.Common.{ℕ, ◌≤◌, arith}
use Rattle.tb_places.specs.declared.AxisName.TheVariants.{X}
use Rattle.tb_places.specs.Places.{place_at}
use Rattle.tb_relax.specs.Settled.{NodeStays}
use Rattle.tb_relax.specs.Tables.{table_counts}
use Rattle.tb_relax.proofs.Staying.{further}
use Rattle.tb_relax.proofs.table.Table.layer_moves.Goals as goal

pub loop-j-preserved : goal.loop-j-preserved
loop-j-preserved c = further (λ (j : ℕ). (i : ℕ) → i ≤ table_counts c.args.self.now X → NodeStays c.args.self.now c.args.values.now (place_at i j c.args.k)) c.loop-j.j _ (omega arith) c.loop-j.invariant (c.row_moves.ensures.stay c.if-row_moves.false)
