use Rattle.std.proofs.Common.{◌≡◌, ap, List, length, add-one, arith}
use Rattle.tb_detail.specs.declared.Environment.{Environment}
use Rattle.tb_outside.proofs.Gathered.{gathers_both, gathers_same}
use Rattle.tb_checker.specs.Texts.{names_up_to}
use Rattle.tb_checker.proofs.names.put_set_name.Goals as goal

pub loop-e-preserved : goal.loop-e-preserved
loop-e-preserved g c = rw add-one (gathers_both c.loop-e.invariant c.put_name.ensures)

pub returns : goal.returns
returns g c =
    let all : c.loop-e.e ≡ length c.args.detail.now.environments
    = omega (arith, ap (λ (xs : List Environment). length xs) c.items-e-end.ensures, c.loop-e-test.false, c.loop-e.auto.e-end) in
    gathers_same (ap (λ n. names_up_to c.args.detail.now c.args.set n) all) c.loop-e.invariant
