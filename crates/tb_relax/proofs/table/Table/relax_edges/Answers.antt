use Rattle.std.proofs.Common.{◌≡◌, ℕ, ◌-◌, arith, sym, ◌∙◌, ap, subst, List, map}
use lib.IntN.{ℤ}
use Rattle.tb_places.specs.declared.AxisName.TheVariants.{X, Y}
use Rattle.tb_places.specs.declared.Place.{Place}
use Rattle.tb_places.specs.Places.{place_at}
use Rattle.tb_weighted.specs.FlowMoves.{IsFlowMove, loop_where}
use Rattle.tb_weighted.specs.Moves.{counting, for_each}
use Rattle.tb_weighted.proofs.SequenceLaws.{list_more, true_last, false_last}
use Rattle.tb_relax.specs.Edges.{AreLoopMoves, first_edge}
use Rattle.tb_relax.specs.Rounds.{counts_at}
use Rattle.tb_relax.specs.Tables.{flux_forms, table_counts}
use Rattle.tb_relax.proofs.InnerEdges.{edges_from, first_edge_near}
use Rattle.tb_relax.proofs.table.Table.relax_edges.Goals.{then-relax_edge_layer, else-relax_edge_layer}
use Rattle.tb_relax.proofs.table.Table.relax_edges.Goals as goal

pub loop-k-preserved : goal.loop-k-preserved
loop-k-preserved c =
    let from = c.loop-k.invariant.from in
    record {
      so_far = list_more (List ℤ) Place (λ (e : Place). IsFlowMove (flux_forms c.args.self.now) (loop_where (counts_at c.args.self.now) c.args.axis e)) (λ (k : ℕ). for_each (counting (first_edge c.args.axis).j (table_counts c.args.self.now Y - (first_edge c.args.axis).j)) (λ (j : ℕ). map (λ (i : ℕ). place_at i j k) (counting (first_edge c.args.axis).i (table_counts c.args.self.now X - (first_edge c.args.axis).i)))) (first_edge c.args.axis).k (c.loop-k.k - (first_edge c.args.axis).k) _ c.loop-k.k c.args.flows.now c.loop-k.flows c.relax_edge_layer.new.flows c.loop-k.changed c.relax_edge_layer.result _ (omega arith) (omega arith) c.loop-k.invariant.so_far c.relax_edge_layer.ensures.moved
          (elim c.if-relax_edge_layer.branch [ then-relax_edge_layer w ↦ true_last c.loop-k.changed c.relax_edge_layer.result w.if-relax_edge_layer.true ∙ sym w.changed-is | else-relax_edge_layer w ↦ false_last c.loop-k.changed c.relax_edge_layer.result w.if-relax_edge_layer.false ∙ sym w.changed-is ]);
      from = omega arith;
      kept = c.relax_edge_layer.ensures.kept;
    }

pub returns-clause-moved : goal.returns-clause-moved
returns-clause-moved c =
    let from = c.loop-k.invariant.from in
    let first : c.first_inside-k.result.k ≡ (first_edge c.args.axis).k = ap (λ (p : Place). p.k) c.first_inside-k.ensures in
    let near = first_edge_near c.args.axis in
    let end : c.loop-k.k - (first_edge c.args.axis).k ≡ c.args.self.now.counts.z - (first_edge c.args.axis).k = omega arith in
    subst (λ (l : List Place). AreLoopMoves c.args.self.now c.args.axis l c.args.flows.now c.loop-k.flows c.loop-k.changed) (edges_from (table_counts c.args.self.now) c.args.axis)
    (subst (λ (n : ℕ). AreLoopMoves c.args.self.now c.args.axis (for_each (counting (first_edge c.args.axis).k n) (λ (k : ℕ). for_each (counting (first_edge c.args.axis).j (table_counts c.args.self.now Y - (first_edge c.args.axis).j)) (λ (j : ℕ). map (λ (i : ℕ). place_at i j k) (counting (first_edge c.args.axis).i (table_counts c.args.self.now X - (first_edge c.args.axis).i))))) c.args.flows.now c.loop-k.flows c.loop-k.changed) end c.loop-k.invariant.so_far)
