use Rattle.std.proofs.Common.{◌≡◌, ℕ, ◌-◌, arith, sym, ◌∙◌, ap, subst, List, map}
use lib.IntN.{ℤ}
use Rattle.tb_places.specs.declared.Place.{Place}
use Rattle.tb_places.specs.Places.{place_at}
use Rattle.tb_weighted.specs.FlowMoves.{IsFlowMove, loop_where}
use Rattle.tb_weighted.specs.Moves.{counting}
use Rattle.tb_weighted.proofs.SequenceLaws.{one_more, true_last, false_last}
use Rattle.tb_relax.specs.Edges.{AreLoopMoves, first_edge}
use Rattle.tb_relax.specs.Rounds.{counts_at}
use Rattle.tb_relax.specs.Tables.{flux_forms}
use Rattle.tb_relax.proofs.InnerEdges.{first_edge_near}
use Rattle.tb_relax.proofs.table.Table.relax_edge_row.Goals.{then-relax_loop, else-relax_loop}
use Rattle.tb_relax.proofs.table.Table.relax_edge_row.Goals as goal

pub loop-i-preserved : goal.loop-i-preserved
loop-i-preserved c =
    let from = c.loop-i.invariant.from in
    record {
      so_far = one_more (List ℤ) Place (λ (e : Place). IsFlowMove (flux_forms c.args.self.now) (loop_where (counts_at c.args.self.now) c.args.axis e)) (λ (i : ℕ). place_at i c.args.j c.args.k) (first_edge c.args.axis).i (c.loop-i.i - (first_edge c.args.axis).i) _ c.loop-i.i c.args.flows.now c.loop-i.flows c.relax_loop.new.flows c.loop-i.changed c.relax_loop.result _ (omega arith) (omega arith) c.loop-i.invariant.so_far c.relax_loop.ensures.moved c.relax_loop.ensures.told
          (elim c.if-relax_loop.branch [ then-relax_loop w ↦ true_last c.loop-i.changed c.relax_loop.result w.if-relax_loop.true ∙ sym w.changed-is | else-relax_loop w ↦ false_last c.loop-i.changed c.relax_loop.result w.if-relax_loop.false ∙ sym w.changed-is ]);
      from = omega arith;
      kept = c.relax_loop.ensures.kept;
    }

pub returns-clause-moved : goal.returns-clause-moved
returns-clause-moved c =
    let from = c.loop-i.invariant.from in
    let first : c.first_inside-i.result.i ≡ (first_edge c.args.axis).i = ap (λ (p : Place). p.i) c.first_inside-i.ensures in
    let near = first_edge_near c.args.axis in
    let end : c.loop-i.i - (first_edge c.args.axis).i ≡ c.args.self.now.counts.x - (first_edge c.args.axis).i = omega arith in
    subst (λ (n : ℕ). AreLoopMoves c.args.self.now c.args.axis (map (λ (i : ℕ). place_at i c.args.j c.args.k) (counting (first_edge c.args.axis).i n)) c.args.flows.now c.loop-i.flows c.loop-i.changed) end c.loop-i.invariant.so_far
