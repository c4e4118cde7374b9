use Rattle.std.proofs.Common.{◌≡◌, ◌∙◌, ap, refl, sym, subst, ◌+◌, ◌++◌, List, [], ◌∷◌, drop, get_or, append-nil, append_assoc}
use Rattle.tb_detail.specs.declared.Detail.{Detail}
use Rattle.tb_case_records.specs.declared.case.CaseProof.{CaseProof}
use Rattle.tb_case_records.specs.Cases.{CaseForm}
use Rattle.tb_bundle.specs.Bodies.{case_form, case_forms_from}
use Rattle.tb_bundle.proofs.AllCases.{forms_more}
use Rattle.tb_checker.specs.Faults.{AreFaultless, Finds, OfCases}
use Rattle.tb_checker.proofs.Cases.{case_finds, case_more, no_more, rest_finds}
use Rattle.tb_checker.proofs.checking.read_judged_cases.Goals as goal

pub returns-in-Err : goal.returns-in-Err
returns-in-Err c =
    let d : Detail = c.args.body.now in
    let f : CaseForm = case_form d (c.loop-at.at + 1) (get_or c.args.masks.now c.loop-at.at 0) in
    let rest : List CaseForm = case_forms_from d (c.loop-at.at + 1 + 1) (drop (c.loop-at.at + 1) c.args.masks.now) in
    c.loop-at.invariant.finds c.in-Err.refusal
    (subst (λ (fs : List CaseForm). Finds (OfCases d fs c.loop-at.reader.ahead) c.in-Err.refusal)
    (sym (forms_more d c.args.masks.now c.loop-at.at f c.loop-at-test.true refl))
    (case_finds d f rest c.loop-at.reader c.in-Err.refusal c.in-Err.ensures))

pub loop-at-preserved : goal.loop-at-preserved
loop-at-preserved c =
    let d : Detail = c.args.body.now in
    let f : CaseForm = case_form d (c.loop-at.at + 1) (get_or c.args.masks.now c.loop-at.at 0) in
    let rest : List CaseForm = case_forms_from d (c.loop-at.at + 1 + 1) (drop (c.loop-at.at + 1) c.args.masks.now) in
    let more : case_forms_from d (c.loop-at.at + 1) (drop c.loop-at.at c.args.masks.now) ≡ f ∷ rest =
    forms_more d c.args.masks.now c.loop-at.at f c.loop-at-test.true refl in
    record {
      finds = λ e t. c.loop-at.invariant.finds e
          (subst (λ (fs : List CaseForm). Finds (OfCases d fs c.loop-at.reader.ahead) e) (sym more)
          (rest_finds d f rest c.loop-at.reader c.read_judged.new.reader c.in-Ok.proof c.in-Ok.ensures e t));
      reads = λ new cs t. subst (AreFaultless d (case_forms_from d 1 c.args.masks.now) c.args.reader.now new)
          (sym (ap (λ (l : List CaseProof). l ++ cs) c.in-Ok-push.ensures.items ∙ append_assoc c.loop-at.proofs.items (c.in-Ok.proof ∷ []) cs))
          (c.loop-at.invariant.reads new (c.in-Ok.proof ∷ cs)
          (subst (λ (fs : List CaseForm). AreFaultless d fs c.loop-at.reader new (c.in-Ok.proof ∷ cs)) (sym more)
          (case_more d f rest c.loop-at.reader c.read_judged.new.reader c.in-Ok.proof c.in-Ok.ensures new cs t)));
    }

pub returns : goal.returns
returns c =
    subst (AreFaultless c.args.body.now (case_forms_from c.args.body.now 1 c.args.masks.now) c.args.reader.now c.loop-at.reader) (append-nil c.loop-at.proofs.items)
    (c.loop-at.invariant.reads c.loop-at.reader [] (no_more c.args.body.now c.args.masks.now c.loop-at.at c.loop-at.reader c.loop-at-test.false))
