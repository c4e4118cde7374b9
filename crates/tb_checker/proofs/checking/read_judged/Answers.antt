use Rattle.std.proofs.Common.{subst, sym}
use Rattle.tb_detail.specs.declared.Detail.{Detail}
use Rattle.tb_case_records.specs.Cases.{IsCase, case_of, case_table}
use Rattle.tb_case_records.specs.Limits.{CaseInLimits}
use Rattle.tb_case_records.specs.Table.{Stops, first_fault}
use Rattle.tb_case_records.proofs.GoodCase.{good_case}
use Rattle.tb_bundle.specs.Bodies.{case_form}
use Rattle.tb_checker.specs.Faults.{OfCase, Records}
use Rattle.tb_checker.proofs.Carried.{judgeable}
use Rattle.tb_checker.proofs.Turns.{by_first}
use Rattle.tb_checker.proofs.checking.read_judged.Goals as goal

pub returns-in-Err : goal.returns-in-Err
returns-in-Err c =
    let d : Detail = c.args.body.now in
    let f = case_form d c.args.number c.args.mask in
    by_first (Records (first_fault (case_table f c.args.reader.now.ahead) c.args.reader.now.ahead)) (OfCase d c.args.number (case_of f c.args.reader.now.ahead)) c.refusal_of.result
    (c.refusal_of.ensures (first_fault (case_table f c.args.reader.now.ahead) c.args.reader.now.ahead)
    (subst (λ (e : Detail). Stops (case_table (case_form e c.args.number c.args.mask) c.args.reader.now.ahead) c.args.reader.now c.in-Err.refusal) (sym c.requires.same) c.in-Err.ensures))

pub judge-requires : goal.judge-requires
judge-requires c =
    let d : Detail = c.args.body.now in
    let f = case_form d c.args.number c.args.mask in
    let read : IsCase f c.args.reader.now c.read_one.new.reader c.in-Ok.proof = subst (λ (e : Detail). IsCase (case_form e c.args.number c.args.mask) c.args.reader.now c.read_one.new.reader c.in-Ok.proof) (sym c.requires.same) c.in-Ok.ensures in
    judgeable d c.args.number c.args.mask c.in-Ok.proof c.requires.limits
    (subst (CaseInLimits f) (sym read.said) (good_case f c.args.reader.now.ahead read.past.faultless))
