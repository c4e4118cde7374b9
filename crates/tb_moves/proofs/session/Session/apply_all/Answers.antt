use Rattle.std.proofs.Common.{◌≡◌, ◌∙◌, ◌+◌, ap, arith, refl, sym, subst, ℕ, List, get_or, take, length}
use Rattle.std.proofs.Math.Seq.{take-length}
use Rattle.std.proofs.lemmas.List.{get_or_default}
use Rattle.tb_weighted.proofs.SequenceLaws.{false_last, true_last}
use Rattle.tb_moves.specs.declared.moves.Move.{Move}
use Rattle.tb_moves.specs.declared.moves.Move.TheVariants.{Node}
use Rattle.tb_moves.specs.Moves.{AreMoves}
use Rattle.tb_moves.specs.Sessions.{inside_of, mesh_of, state_of}
use Rattle.tb_costs.proofs.Filling.{body_fills}
use Rattle.tb_moves.proofs.Leaving.{list_leaves}
use Rattle.tb_moves.proofs.Applying.{alike_trans, has_there, neither, one_more}
use Rattle.tb_moves.proofs.session.Session.apply_all.Goals.{then-apply, else-apply}
use Rattle.tb_moves.proofs.session.Session.apply_all.Goals as goal

pub apply-requires : goal.apply-requires
apply-requires c = has_there c.args.self.now c.loop-i.self (get_or c.args.moves.now c.loop-i.i (Node (record { 0 = 0 }))) c.loop-i.invariant.alike (c.requires c.loop-i.i (Node (record { 0 = 0 })) c.loop-i-test.true)

pub loop-i-preserved : goal.loop-i-preserved
loop-i-preserved c = record {
  made = one_more c.args.self.now c.loop-i.self c.apply.new.self c.args.moves.now c.loop-i.i (c.loop-i.i + 1) (get_or c.args.moves.now c.loop-i.i (Node (record { 0 = 0 }))) c.loop-i.changed c.apply.result c.if-apply.changed refl c.loop-i-test.true
      (get_or_default c.args.moves.now c.loop-i.i (get_or c.args.moves.now c.loop-i.i (Node (record { 0 = 0 }))) (Node (record { 0 = 0 })) c.loop-i-test.true) c.loop-i.invariant.alike c.apply.ensures.alike c.loop-i.invariant.made c.apply.ensures.moved c.apply.ensures.told
      (elim c.if-apply.branch [ then-apply w ↦ true_last c.loop-i.changed c.apply.result w.if-apply.true ∙ sym w.changed-is | else-apply w ↦ false_last c.loop-i.changed c.apply.result w.if-apply.false ∙ sym w.changed-is ]);
  alike = alike_trans c.args.self.now c.loop-i.self c.apply.new.self c.loop-i.invariant.alike c.apply.ensures.alike;
  same = λ f. let both = neither c.loop-i.changed c.apply.result c.if-apply.changed (elim c.if-apply.branch [ then-apply w ↦ true_last c.loop-i.changed c.apply.result w.if-apply.true ∙ sym w.changed-is | else-apply w ↦ false_last c.loop-i.changed c.apply.result w.if-apply.false ∙ sym w.changed-is ]) f in
      c.apply.ensures.stays both.1 ∙ c.loop-i.invariant.same both.0;
}

pub returns-clause-moved : goal.returns-clause-moved
returns-clause-moved c =
    let end : c.loop-i.i ≡ length c.args.moves.now = omega arith in
    subst (λ (l : List Move). AreMoves (mesh_of c.args.self.now) (inside_of c.args.self.now) l (state_of c.args.self.now) (state_of c.loop-i.self) c.loop-i.changed)
    (ap (λ (n : ℕ). take n c.args.moves.now) end ∙ take-length c.args.moves.now) c.loop-i.invariant.made

pub returns-clause-leaves : goal.returns-clause-leaves
returns-clause-leaves c =
    let s = c.args.self.now in
    let end : c.loop-i.i ≡ length c.args.moves.now = omega arith in
    let made : AreMoves (mesh_of s) (inside_of s) c.args.moves.now (state_of s) (state_of c.loop-i.self) c.loop-i.changed =
    subst (λ (l : List Move). AreMoves (mesh_of s) (inside_of s) l (state_of s) (state_of c.loop-i.self) c.loop-i.changed)
    (ap (λ (n : ℕ). take n c.args.moves.now) end ∙ take-length c.args.moves.now) c.loop-i.invariant.made in
    list_leaves (mesh_of s) (inside_of s) (body_fills s.body s.grid c.keeps_state.ensures.accepted c.keeps_state.ensures.carries)
    c.args.moves.now (state_of s) (state_of c.loop-i.self) c.loop-i.changed c.requires made c.keeps_state.ensures.state
