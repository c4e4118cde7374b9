use Rattle.std.proofs.Common.{◌≡◌, ℕ, List, arith, ap, sym, ◌∙◌}
use lib.IntN.{ℤ}
use Rattle.tb_places.specs.Places.{Counts, face_count}
use Rattle.tb_grid.specs.Grid.{counts_of}
use Rattle.tb_weighted.proofs.SequenceLaws.{false_last, one_more, true_last}
use Rattle.tb_trees.specs.Bodies.{mesh_of}
use Rattle.tb_trees.proofs.Filled.{mesh_counts}
use Rattle.tb_cycle_moves.specs.Turns.{IsCycleTurn}
use Rattle.tb_cycle_moves.proofs.Turning.{all_turns}
use Rattle.tb_cycle_moves.proofs.faces.relax_cycles.Goals.{then-relax_face, else-relax_face}
use Rattle.tb_cycle_moves.proofs.faces.relax_cycles.Goals as goal

pub loop-number-preserved : goal.loop-number-preserved
loop-number-preserved c = record {
  so_far = λ inside of. one_more (List ℤ) ℕ (IsCycleTurn (mesh_of c.args.tree.now) inside) (λ (f : ℕ). f) 0 c.loop-number.number _ c.loop-number.number c.args.flows.now c.loop-number.flows c.relax_face.new.flows c.loop-number.changed c.relax_face.result _ (omega arith) (omega arith)
      (c.loop-number.invariant.so_far inside of) (c.relax_face.ensures.moved inside of) c.relax_face.ensures.told
      (elim c.if-relax_face.branch [ then-relax_face w ↦ true_last c.loop-number.changed c.relax_face.result w.if-relax_face.true ∙ sym w.changed-is | else-relax_face w ↦ false_last c.loop-number.changed c.relax_face.result w.if-relax_face.false ∙ sym w.changed-is ]);
  kept = c.relax_face.ensures.kept;
}

pub returns-clause-moved : goal.returns-clause-moved
returns-clause-moved c = λ inside of.
    let end : c.loop-number.number ≡ face_count (counts_of c.args.tree.now.grid) = omega arith in
    all_turns (mesh_of c.args.tree.now) inside c.loop-number.number c.args.flows.now c.loop-number.flows c.loop-number.changed
    (end ∙ ap (λ (n : Counts). face_count n) (mesh_counts c.args.tree.now.body c.args.tree.now.grid)) (c.loop-number.invariant.so_far inside of)
