use Rattle.std.proofs.Common.{ℕ, ◌≤◌, ◌<◌, arith}
use Rattle.tb_places.specs.declared.AxisName.TheVariants.{X, Y}
use Rattle.tb_places.specs.Places.{place_at}
use Rattle.tb_relax.specs.Edges.{first_edge}
use Rattle.tb_relax.specs.Settled.{FlowStays, loop_on}
use Rattle.tb_relax.specs.Tables.{table_counts}
use Rattle.tb_relax.proofs.Staying.{further, inner_bounds}
use Rattle.tb_relax.proofs.table.Table.edges_move.Goals as goal

pub loop-k-preserved : goal.loop-k-preserved
loop-k-preserved c =
    let from = c.loop-k.invariant.from in
    record {
      so_far = further (λ (k : ℕ). (j i : ℕ) → (first_edge c.args.axis).k ≤ k → (first_edge c.args.axis).j ≤ j → j < table_counts c.args.self.now Y → (first_edge c.args.axis).i ≤ i → i < table_counts c.args.self.now X → FlowStays c.args.self.now c.args.flows.now (loop_on c.args.self.now c.args.axis (place_at i j k))) c.loop-k.k _ (omega arith) c.loop-k.invariant.so_far
          (λ j i h p q r s. c.edge_layer_moves.ensures.stay c.if-edge_layer_moves.false j i p q r s);
      from = omega arith;
    }

pub returns-clause-stay : goal.returns-clause-stay
returns-clause-stay c = λ d e h.
    let w = inner_bounds (table_counts c.args.self.now) c.args.axis e h in
    c.loop-k.invariant.so_far e.k (let z = w.upto_k in omega arith) e.j e.i w.from_k w.from_j w.upto_j w.from_i w.upto_i
