use Rattle.std.proofs.Common.{rules, ◌≡◌, to_z, of_z}
use mir.Syntax.{w128}
use Rattle.tb_checker.proofs.Judged.{loses, passes_out, then_ends}
use Rattle.tb_checker.proofs.judge.judge.Goals as goal

pub returns-in-Some : goal.returns-in-Some
returns-in-Some c = passes_out c.args.body.now c.args.number c.args.proof.now c.in-Some.face c.in-Some.ensures

pub returns-in-Some-first_unbalanced : goal.returns-in-Some-first_unbalanced
returns-in-Some-first_unbalanced c =
    let whole : to_z w128 (of_z w128 c.in-Some-first_unbalanced.sum) ≡ c.in-Some-first_unbalanced.sum = search rules in
    rw whole (loses c.args.body.now c.args.number c.args.proof.now c.in-Some-first_unbalanced.cell c.in-Some-first_unbalanced.sum c.in_default.ensures c.in-Some-first_unbalanced.ensures)

pub returns : goal.returns
returns c = then_ends c.args.body.now c.args.number c.args.proof.now c.judge_ends.result c.in_default.ensures c.in_default-first_unbalanced.ensures c.judge_ends.ensures
