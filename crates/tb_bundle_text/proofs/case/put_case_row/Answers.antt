use Rattle.std.proofs.Common.{◌+◌, arith, append-nil, drop}
use Rattle.tb_bundle_text.proofs.CaseWords.{all_names, names_at, puts_name, puts_no_name}
use Rattle.tb_bundle_text.proofs.case.put_case_row.Goals.{else-left-eq1, then-left-eq1}
use Rattle.tb_bundle_text.proofs.case.put_case_row.Goals as goal

pub loop-environment-preserved : goal.loop-environment-preserved
loop-environment-preserved g c =
    let all = c.args.environments.now in
    let i = c.loop-environment.environment-index in
    let left = c.loop-environment.left in
    let rest = drop (i + 1) all in
    let e = c.environment-item.result in
    let p = names_at all c.args.mask i left e c.environment-item.is c.loop-environment-test.true c.loop-environment.invariant in
    elim c.if-left-eq1.branch [
      | then-left-eq1 w ↦ rw (w.buffer-is, w.sink-is)
          (puts_name all c.args.mask e rest left p w.if-left-eq1.true (rw (append-nil w.bytes.result.now, w.bytes.ensures) at w.put_pieces.ensures))
      | else-left-eq1 w ↦ rw (w.buffer-is, w.sink-is) (puts_no_name all c.args.mask e rest left p w.if-left-eq1.false)
    ]

pub returns : goal.returns
returns g c =
    all_names c.args.environments.now c.args.mask c.loop-environment.environment-index c.loop-environment.left (omega arith) c.loop-environment.invariant c.put-2.ensures.gathers
