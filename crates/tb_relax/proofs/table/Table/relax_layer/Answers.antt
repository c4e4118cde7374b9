use Rattle.std.proofs.Common.{◌≡◌, ℕ, suc, arith, sym, ◌∙◌, subst, List, map}
use lib.IntN.{ℤ}
use Rattle.tb_places.specs.declared.AxisName.TheVariants.{X}
use Rattle.tb_places.specs.declared.Place.{Place}
use Rattle.tb_places.specs.Places.{node_number, place_at}
use Rattle.tb_weighted.specs.Forms.{IsFormMove}
use Rattle.tb_weighted.specs.Moves.{all_lines, counting, for_each}
use Rattle.tb_weighted.proofs.SequenceLaws.{list_more, true_last, false_last}
use Rattle.tb_relax.specs.Tables.{AreNodeMoves, field_forms, table_counts}
use Rattle.tb_relax.proofs.table.Table.relax_layer.Goals.{then-relax_row, else-relax_row}
use Rattle.tb_relax.proofs.table.Table.relax_layer.Goals as goal

pub loop-j-preserved : goal.loop-j-preserved
loop-j-preserved c = record {
  so_far = list_more (List ℤ) Place (λ (p : Place). IsFormMove (field_forms c.args.self.now) (node_number (table_counts c.args.self.now) p)) (λ (j : ℕ). map (λ (i : ℕ). place_at i j c.args.k) (all_lines (table_counts c.args.self.now X))) 0 c.loop-j.j _ c.loop-j.j c.args.values.now c.loop-j.values c.relax_row.new.values c.loop-j.changed c.relax_row.result _ (omega arith) (omega arith) c.loop-j.invariant.so_far c.relax_row.ensures.moved
      (elim c.if-relax_row.branch [ then-relax_row w ↦ true_last c.loop-j.changed c.relax_row.result w.if-relax_row.true ∙ sym w.changed-is | else-relax_row w ↦ false_last c.loop-j.changed c.relax_row.result w.if-relax_row.false ∙ sym w.changed-is ]);
  kept = c.relax_row.ensures.kept;
}

pub returns-clause-moved : goal.returns-clause-moved
returns-clause-moved c =
    let end : c.loop-j.j ≡ suc c.args.self.now.counts.y = omega arith in
    subst (λ (n : ℕ). AreNodeMoves c.args.self.now (for_each (counting 0 n) (λ (j : ℕ). map (λ (i : ℕ). place_at i j c.args.k) (all_lines (table_counts c.args.self.now X)))) c.args.values.now c.loop-j.values c.loop-j.changed) end c.loop-j.invariant.so_far
