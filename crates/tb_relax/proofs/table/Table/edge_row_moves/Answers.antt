use Rattle.std.proofs.Common.{ℕ, ◌≤◌, arith}
use Rattle.tb_places.specs.Places.{place_at}
use Rattle.tb_relax.specs.Edges.{first_edge}
use Rattle.tb_relax.specs.Settled.{FlowStays, loop_on}
use Rattle.tb_relax.specs.Tables.{table_counts}
use Rattle.tb_relax.proofs.InnerEdges.{inner_edge}
use Rattle.tb_relax.proofs.Staying.{further}
use Rattle.tb_relax.proofs.table.Table.edge_row_moves.Goals as goal

pub loop-i-preserved : goal.loop-i-preserved
loop-i-preserved c =
    let from = c.loop-i.invariant.from in
    record {
      so_far = further (λ (i : ℕ). (first_edge c.args.axis).i ≤ i → FlowStays c.args.self.now c.args.flows.now (loop_on c.args.self.now c.args.axis (place_at i c.args.j c.args.k))) c.loop-i.i _ (omega arith) c.loop-i.invariant.so_far (λ h. c.loop_moves.ensures.stays c.if-loop_moves.false);
      from = omega arith;
    }

pub returns-then-loop_moves-clause-moves : goal.returns-then-loop_moves-clause-moves
returns-then-loop_moves-clause-moves c = λ d.
    let from = c.loop-i.invariant.from in
    record {
      axis = c.args.axis;
      place = place_at c.loop-i.i c.args.j c.args.k;
      edge = inner_edge (table_counts c.args.self.now) c.args.axis c.loop-i.i c.args.j c.args.k from (omega arith) c.requires.second.0 c.requires.second.1 c.requires.third.0 c.requires.third.1;
      moves = c.loop_moves.ensures.moves c.if-loop_moves.true;
    }

pub returns-clause-stay : goal.returns-clause-stay
returns-clause-stay c = λ d i p q. c.loop-i.invariant.so_far i (omega arith) p
