use Rattle.std.proofs.Common.{◌≡◌, ℕ, ◌-◌, arith, sym, ◌∙◌, ap, subst, List, map}
use lib.IntN.{ℤ}
use Rattle.tb_places.specs.declared.AxisName.TheVariants.{X}
use Rattle.tb_places.specs.declared.Place.{Place}
use Rattle.tb_places.specs.Places.{place_at}
use Rattle.tb_weighted.specs.FlowMoves.{IsFlowMove, loop_where}
use Rattle.tb_weighted.specs.Moves.{counting, for_each}
use Rattle.tb_weighted.proofs.SequenceLaws.{list_more, true_last, false_last}
use Rattle.tb_relax.specs.Edges.{AreLoopMoves, first_edge}
use Rattle.tb_relax.specs.Rounds.{counts_at}
use Rattle.tb_relax.specs.Tables.{flux_forms, table_counts}
use Rattle.tb_relax.proofs.InnerEdges.{first_edge_near}
use Rattle.tb_relax.proofs.table.Table.relax_edge_layer.Goals.{then-relax_edge_row, else-relax_edge_row}
use Rattle.tb_relax.proofs.table.Table.relax_edge_layer.Goals as goal

pub loop-j-preserved : goal.loop-j-preserved
loop-j-preserved c =
    let from = c.loop-j.invariant.from in
    record {
      so_far = list_more (List ℤ) Place (λ (e : Place). IsFlowMove (flux_forms c.args.self.now) (loop_where (counts_at c.args.self.now) c.args.axis e)) (λ (j : ℕ). map (λ (i : ℕ). place_at i j c.args.k) (counting (first_edge c.args.axis).i (table_counts c.args.self.now X - (first_edge c.args.axis).i))) (first_edge c.args.axis).j (c.loop-j.j - (first_edge c.args.axis).j) _ c.loop-j.j c.args.flows.now c.loop-j.flows c.relax_edge_row.new.flows c.loop-j.changed c.relax_edge_row.result _ (omega arith) (omega arith) c.loop-j.invariant.so_far c.relax_edge_row.ensures.moved
          (elim c.if-relax_edge_row.branch [ then-relax_edge_row w ↦ true_last c.loop-j.changed c.relax_edge_row.result w.if-relax_edge_row.true ∙ sym w.changed-is | else-relax_edge_row w ↦ false_last c.loop-j.changed c.relax_edge_row.result w.if-relax_edge_row.false ∙ sym w.changed-is ]);
      from = omega arith;
      kept = c.relax_edge_row.ensures.kept;
    }

pub returns-clause-moved : goal.returns-clause-moved
returns-clause-moved c =
    let from = c.loop-j.invariant.from in
    let first : c.first_inside-j.result.j ≡ (first_edge c.args.axis).j = ap (λ (p : Place). p.j) c.first_inside-j.ensures in
    let near = first_edge_near c.args.axis in
    let end : c.loop-j.j - (first_edge c.args.axis).j ≡ c.args.self.now.counts.y - (first_edge c.args.axis).j = omega arith in
    subst (λ (n : ℕ). AreLoopMoves c.args.self.now c.args.axis (for_each (counting (first_edge c.args.axis).j n) (λ (j : ℕ). map (λ (i : ℕ). place_at i j c.args.k) (counting (first_edge c.args.axis).i (table_counts c.args.self.now X - (first_edge c.args.axis).i)))) c.args.flows.now c.loop-j.flows c.loop-j.changed) end c.loop-j.invariant.so_far
