use Rattle.std.proofs.Common.{◌≡◌, ℕ, suc, arith, sym, ◌∙◌, subst, List, map}
use lib.IntN.{ℤ}
use Rattle.tb_places.specs.declared.AxisName.TheVariants.{X, Y}
use Rattle.tb_places.specs.declared.Place.{Place}
use Rattle.tb_places.specs.Places.{node_number, place_at}
use Rattle.tb_weighted.specs.Forms.{IsFormMove}
use Rattle.tb_weighted.specs.Moves.{all_lines, counting, for_each}
use Rattle.tb_weighted.proofs.SequenceLaws.{list_more, true_last, false_last}
use Rattle.tb_relax.specs.Tables.{AreNodeMoves, field_forms, table_counts}
use Rattle.tb_relax.proofs.table.Table.relax_nodes.Goals.{then-relax_layer, else-relax_layer}
use Rattle.tb_relax.proofs.table.Table.relax_nodes.Goals as goal

pub loop-k-preserved : goal.loop-k-preserved
loop-k-preserved c = record {
  so_far = list_more (List ℤ) Place (λ (p : Place). IsFormMove (field_forms c.args.self.now) (node_number (table_counts c.args.self.now) p)) (λ (k : ℕ). for_each (all_lines (table_counts c.args.self.now Y)) (λ (j : ℕ). map (λ (i : ℕ). place_at i j k) (all_lines (table_counts c.args.self.now X)))) 0 c.loop-k.k _ c.loop-k.k c.args.values.now c.loop-k.values c.relax_layer.new.values c.loop-k.changed c.relax_layer.result _ (omega arith) (omega arith) c.loop-k.invariant.so_far c.relax_layer.ensures.moved
      (elim c.if-relax_layer.branch [ then-relax_layer w ↦ true_last c.loop-k.changed c.relax_layer.result w.if-relax_layer.true ∙ sym w.changed-is | else-relax_layer w ↦ false_last c.loop-k.changed c.relax_layer.result w.if-relax_layer.false ∙ sym w.changed-is ]);
  kept = c.relax_layer.ensures.kept;
}

pub returns-clause-moved : goal.returns-clause-moved
returns-clause-moved c =
    let end : c.loop-k.k ≡ suc c.args.self.now.counts.z = omega arith in
    subst (λ (n : ℕ). AreNodeMoves c.args.self.now (for_each (counting 0 n) (λ (k : ℕ). for_each (all_lines (table_counts c.args.self.now Y)) (λ (j : ℕ). map (λ (i : ℕ). place_at i j k) (all_lines (table_counts c.args.self.now X))))) c.args.values.now c.loop-k.values c.loop-k.changed) end c.loop-k.invariant.so_far
