use Rattle.std.proofs.Common.{◌∙◌, ap, subst, ℕ, List}
use Rattle.tb_detail.specs.declared.Detail.{Detail}
use Rattle.tb_geometry.specs.Cases.{case_masks}
use Rattle.tb_reading.specs.Reading.{Numbered}
use Rattle.tb_bundle.specs.Bodies.{case_forms, case_forms_from, end_fault}
use Rattle.tb_case_records.specs.Table.{Refuses}
use Rattle.tb_checker.specs.Faults.{AreFaultless, OfCases, Records, behind_cases}
use Rattle.tb_checker.proofs.Turns.{by_second}
use Rattle.tb_checker.proofs.checking.read_judged_body.Goals as goal

pub returns-in-Err-take_end : goal.returns-in-Err-take_end
returns-in-Err-take_end c =
    let d : Detail = c.args.body.now in
    let given : List Numbered = c.args.reader.now.ahead in
    let all : AreFaultless d (case_forms d) c.args.reader.now c.read_judged_cases.new.reader c.in-Ok.proofs.items =
    subst (λ (masks : List ℕ). AreFaultless d (case_forms_from d 1 masks) c.args.reader.now c.read_judged_cases.new.reader c.in-Ok.proofs.items)
    (c.masks_of.ensures.masks ∙ ap case_masks c.environments-count.ensures) c.in-Ok.ensures in
    by_second (OfCases d (case_forms d) given) (Records (end_fault (behind_cases d given))) c.refusal_of.result all.right
    (c.refusal_of.ensures (end_fault (behind_cases d given))
    (subst (λ (rest : List Numbered). Refuses (end_fault rest) c.in-Err-take_end.refusal) all.read.past.rest c.in-Err-take_end.ensures))
