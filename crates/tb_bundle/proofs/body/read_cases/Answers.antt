use Rattle.std.proofs.Common.{◌≡◌, ◌∙◌, ap, refl, sym, subst, ◌+◌, ◌++◌, List, ◌∷◌, drop, get_or}
use Rattle.tb_case_records.specs.Cases.{CaseForm}
use Rattle.tb_case_records.specs.Table.{IsPast, Stops}
use Rattle.tb_bundle.specs.Bodies.{case_form, case_forms_from, cases_of, cases_table}
use Rattle.tb_bundle.proofs.AllCases.{case_stop, cases_past, cases_said, cases_stop, forms_more, past_end, said_end}
use Rattle.tb_bundle.proofs.body.read_cases.Goals as goal

pub returns-in-Err : goal.returns-in-Err
returns-in-Err c =
    let f : CaseForm = case_form c.args.body.detail.now (c.loop-at.at + 1) (get_or c.args.masks.now c.loop-at.at 0) in
    c.loop-at.invariant.stops c.in-Err.refusal
    (subst (λ (fs : List CaseForm). Stops (cases_table fs c.loop-at.reader.ahead) c.loop-at.reader c.in-Err.refusal)
    (sym (forms_more c.args.body.detail.now c.args.masks.now c.loop-at.at f c.loop-at-test.true refl))
    (case_stop f (case_forms_from c.args.body.detail.now (c.loop-at.at + 1 + 1) (drop (c.loop-at.at + 1) c.args.masks.now)) c.loop-at.reader c.in-Err.refusal c.in-Err.ensures))

pub loop-at-preserved : goal.loop-at-preserved
loop-at-preserved c =
    let f : CaseForm = case_form c.args.body.detail.now (c.loop-at.at + 1) (get_or c.args.masks.now c.loop-at.at 0) in
    let rest : List CaseForm = case_forms_from c.args.body.detail.now (c.loop-at.at + 1 + 1) (drop (c.loop-at.at + 1) c.args.masks.now) in
    let more : case_forms_from c.args.body.detail.now (c.loop-at.at + 1) (drop c.loop-at.at c.args.masks.now) ≡ f ∷ rest =
    forms_more c.args.body.detail.now c.args.masks.now c.loop-at.at f c.loop-at-test.true refl in
    record {
      stops = λ e t. c.loop-at.invariant.stops e
          (subst (λ (fs : List CaseForm). Stops (cases_table fs c.loop-at.reader.ahead) c.loop-at.reader e) (sym more)
          (cases_stop f rest c.loop-at.reader c.read_one.new.reader c.in-Ok.ensures.past e t));
      past = λ new t. c.loop-at.invariant.past new
          (subst (λ (fs : List CaseForm). IsPast (cases_table fs c.loop-at.reader.ahead) c.loop-at.reader new) (sym more)
          (cases_past f rest c.loop-at.reader c.read_one.new.reader c.in-Ok.ensures.past new t));
      said = cases_said f rest c.loop-at.reader c.read_one.new.reader c.in-Ok.ensures.past c.loop-at.proofs.items c.push.new.self.items _ c.in-Ok.proof
          c.in-Ok.ensures.said c.in-Ok-push.ensures.items
          (ap (λ (fs : List CaseForm). c.loop-at.proofs.items ++ cases_of fs c.loop-at.reader.ahead) (sym more) ∙ c.loop-at.invariant.said);
    }

pub returns : goal.returns
returns c = record {
  past = c.loop-at.invariant.past c.loop-at.reader (past_end c.args.body.detail.now c.args.masks.now c.loop-at.at c.loop-at-test.false c.loop-at.reader);
  said = said_end c.args.body.detail.now c.args.masks.now c.loop-at.at c.loop-at-test.false c.loop-at.reader c.loop-at.proofs.items _ c.loop-at.invariant.said;
}
