use Rattle.std.specs.Prelude.{unsigned_abs}
use Rattle.std.proofs.Common.{◌≡◌, ◌∙◌, ℕ, ◌-◌, ◌*◌, ◌^◌, ◌≤◌, ap, arith, subst, rules, sym, to_z, of_z, ℤ}
use Rattle.tb_rows.proofs.Empty.{empty_run}
use Rattle.tb_sums.specs.BodyFluxes.{entering_under, loss_under}
use Rattle.tb_sums.proofs.FluxMeets.{whole_entered_is, whole_loss_is}
use Rattle.tb_sums.proofs.flux.BodyFlux.run.Goals as goal
use mir.Syntax.{w128}

pub loss-requires-clause-from : goal.loss-requires-clause-from
loss-requires-clause-from c =
    let e = c.in-Some.ensures.run.from_is in let t = c.in-Some.ensures.run.to_is in let m = c.run_at.ensures.up in omega (arith, e, t, m)

pub returns-in-Some-clause-loss : goal.returns-in-Some-clause-loss
returns-in-Some-clause-loss c =
    let at = c.args.around.now in
    c.loss.ensures.value ∙ whole_loss_is c.args.self.now c.args.row.now c.in-Some.cells at.j at.k c.args.from c.args.to c.run_at.ensures.up c.requires.row c.in-Some.ensures.run

pub returns-in-Some-clause-most : goal.returns-in-Some-clause-most
returns-in-Some-clause-most c =
    let e = c.in-Some.ensures.run.from_is in let t = c.in-Some.ensures.run.to_is in let m = c.loss.ensures.most in omega (arith, e, t, m)

pub returns-in-Some-clause-entering : goal.returns-in-Some-clause-entering
returns-in-Some-clause-entering c =
    let at = c.args.around.now in
    let whole : to_z w128 (of_z w128 c.entering.result) ≡ c.entering.result = search rules in
    whole ∙ c.entering.ensures.value ∙ whole_entered_is c.args.self.now c.args.row.now c.in-Some.cells at.j at.k c.args.from c.args.to c.run_at.ensures.up c.requires.row c.in-Some.ensures.run

pub returns-in-Some-clause-size : goal.returns-in-Some-clause-size
returns-in-Some-clause-size c =
    let whole : to_z w128 (of_z w128 c.entering.result) ≡ c.entering.result = search rules in
    let e = c.in-Some.ensures.run.from_is in let t = c.in-Some.ensures.run.to_is in
    let span : c.in-Some.cells.to - c.in-Some.cells.from ≡ c.args.to - c.args.from = ap (λ (n : ℕ). n - c.in-Some.cells.from) t ∙ ap (λ (n : ℕ). c.args.to - n) e in
    subst (λ (n : ℕ). unsigned_abs (to_z w128 (of_z w128 c.entering.result)) ≤ n * (6 * 10 ^ 12)) span
    (subst (λ (z : ℤ). unsigned_abs z ≤ (c.in-Some.cells.to - c.in-Some.cells.from) * (6 * 10 ^ 12)) (sym whole) c.entering.ensures.size)

pub returns-in-None-clause-loss : goal.returns-in-None-clause-loss
returns-in-None-clause-loss c =
    let f = c.args.self.now in let at = c.args.around.now in
    empty_run f.rows (loss_under f) at.j at.k c.args.from c.args.to c.run_at.ensures.up c.in-None.ensures.run

pub returns-in-None-clause-entering : goal.returns-in-None-clause-entering
returns-in-None-clause-entering c =
    let f = c.args.self.now in let at = c.args.around.now in
    empty_run f.rows (entering_under f) at.j at.k c.args.from c.args.to c.run_at.ensures.up c.in-None.ensures.run
