use Rattle.std.proofs.Common.{◌∙◌, ap, ◌<◌, List, length, get_or, arith}
use Rattle.tb_case_records.specs.declared.case.CaseProof.{CaseProof}
use Rattle.tb_outside.proofs.Each.{gathers_next_item}
use Rattle.tb_checker.specs.Texts.{accepted_line}
use Rattle.tb_checker.proofs.texts.put_lines.Goals as goal

pub loop-proof-preserved : goal.loop-proof-preserved
loop-proof-preserved g c =
    let b = c.args.bundle.now in
    let p = c.proof-item.result in
    let at = c.loop-proof.proof-index in
    let inside : at < length b.cases = omega (arith, ap (λ (xs : List CaseProof). length xs) c.items-proof-items.ensures, c.loop-proof-test.true) in
    gathers_next_item (accepted_line b.detail) b.cases at p (c.proof-item.is ∙ ap (λ (xs : List CaseProof). get_or xs at p) c.items-proof-items.ensures) inside c.loop-proof.invariant
    c.put_accepted.ensures
