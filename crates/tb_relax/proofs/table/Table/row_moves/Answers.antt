use Rattle.std.proofs.Common.{ℕ, arith}
use Rattle.tb_places.specs.Places.{place_at}
use Rattle.tb_relax.specs.Settled.{NodeStays}
use Rattle.tb_relax.proofs.Staying.{further}
use Rattle.tb_relax.proofs.table.Table.row_moves.Goals as goal

pub loop-i-preserved : goal.loop-i-preserved
loop-i-preserved c = further (λ (i : ℕ). NodeStays c.args.self.now c.args.values.now (place_at i c.args.j c.args.k)) c.loop-i.i _ (omega arith) c.loop-i.invariant (c.node_moves.ensures.stays c.if-node_moves.false)
