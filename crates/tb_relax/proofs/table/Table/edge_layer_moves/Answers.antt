use Rattle.std.proofs.Common.{ℕ, ◌≤◌, ◌<◌, arith}
use Rattle.tb_places.specs.declared.AxisName.TheVariants.{X}
use Rattle.tb_places.specs.Places.{place_at}
use Rattle.tb_relax.specs.Edges.{first_edge}
use Rattle.tb_relax.specs.Settled.{FlowStays, loop_on}
use Rattle.tb_relax.specs.Tables.{table_counts}
use Rattle.tb_relax.proofs.Staying.{further}
use Rattle.tb_relax.proofs.table.Table.edge_layer_moves.Goals as goal

pub loop-j-preserved : goal.loop-j-preserved
loop-j-preserved c =
    let from = c.loop-j.invariant.from in
    record {
      so_far = further (λ (j : ℕ). (i : ℕ) → (first_edge c.args.axis).j ≤ j → (first_edge c.args.axis).i ≤ i → i < table_counts c.args.self.now X → FlowStays c.args.self.now c.args.flows.now (loop_on c.args.self.now c.args.axis (place_at i j c.args.k))) c.loop-j.j _ (omega arith) c.loop-j.invariant.so_far
          (λ i h p q. c.edge_row_moves.ensures.stay c.if-edge_row_moves.false i p q);
      from = omega arith;
    }

pub returns-clause-stay : goal.returns-clause-stay
returns-clause-stay c = λ d j i p q r s. c.loop-j.invariant.so_far j (omega arith) i p r s
