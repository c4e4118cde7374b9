use Rattle.std.proofs.Common.{◌∙◌, arith}
use Rattle.tb_rows.proofs.Empty.{empty_run}
use Rattle.tb_sums.specs.BodyFields.{terms_under}
use Rattle.tb_sums.proofs.Meets.{whole_run_is}
use Rattle.tb_sums.proofs.energy.BodyField.run.Goals as goal

pub returns-in-Some-clause-value : goal.returns-in-Some-clause-value
returns-in-Some-clause-value c =
    let at = c.args.around.now in
    c.run.ensures.value ∙ whole_run_is c.args.self.now c.args.row.now c.in-Some.cells at.j at.k c.args.from c.args.to c.run_at.ensures.up c.requires.row c.in-Some.ensures.run

pub returns-in-Some-clause-most : goal.returns-in-Some-clause-most
returns-in-Some-clause-most c =
    let e = c.in-Some.ensures.run.from_is in let t = c.in-Some.ensures.run.to_is in let m = c.run.ensures.most in omega (arith, e, t, m)

pub run-requires-clause-from : goal.run-requires-clause-from
run-requires-clause-from c =
    let e = c.in-Some.ensures.run.from_is in let t = c.in-Some.ensures.run.to_is in let m = c.run_at.ensures.up in omega (arith, e, t, m)

pub returns-in-None-clause-value : goal.returns-in-None-clause-value
returns-in-None-clause-value c =
    let f = c.args.self.now in let at = c.args.around.now in
    empty_run f.rows (terms_under f) at.j at.k c.args.from c.args.to c.run_at.ensures.up c.in-None.ensures.run
