use Rattle.std.proofs.Common.{◌≡◌, ℕ, suc, arith, sym, ◌∙◌, subst, List, map}
use lib.IntN.{ℤ}
use Rattle.tb_places.specs.declared.Place.{Place}
use Rattle.tb_places.specs.Places.{node_number, place_at}
use Rattle.tb_weighted.specs.Forms.{IsFormMove}
use Rattle.tb_weighted.specs.Moves.{counting}
use Rattle.tb_weighted.proofs.SequenceLaws.{one_more, true_last, false_last}
use Rattle.tb_relax.specs.Tables.{AreNodeMoves, field_forms, table_counts}
use Rattle.tb_relax.proofs.table.Table.relax_row.Goals.{then-relax_node, else-relax_node}
use Rattle.tb_relax.proofs.table.Table.relax_row.Goals as goal

pub loop-i-preserved : goal.loop-i-preserved
loop-i-preserved c = record {
  so_far = one_more (List ℤ) Place (λ (p : Place). IsFormMove (field_forms c.args.self.now) (node_number (table_counts c.args.self.now) p)) (λ (i : ℕ). place_at i c.args.j c.args.k) 0 c.loop-i.i _ c.loop-i.i c.args.values.now c.loop-i.values c.relax_node.new.values c.loop-i.changed c.relax_node.result _ (omega arith) (omega arith) c.loop-i.invariant.so_far c.relax_node.ensures.moved c.relax_node.ensures.told
      (elim c.if-relax_node.branch [ then-relax_node w ↦ true_last c.loop-i.changed c.relax_node.result w.if-relax_node.true ∙ sym w.changed-is | else-relax_node w ↦ false_last c.loop-i.changed c.relax_node.result w.if-relax_node.false ∙ sym w.changed-is ]);
  kept = c.relax_node.ensures.kept;
}

pub returns-clause-moved : goal.returns-clause-moved
returns-clause-moved c =
    let end : c.loop-i.i ≡ suc c.args.self.now.counts.x = omega arith in
    subst (λ (n : ℕ). AreNodeMoves c.args.self.now (map (λ (i : ℕ). place_at i c.args.j c.args.k) (counting 0 n)) c.args.values.now c.loop-i.values c.loop-i.changed) end c.loop-i.invariant.so_far
