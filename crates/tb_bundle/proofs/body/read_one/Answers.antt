use Rattle.std.proofs.Common.{◌∙◌, ap, subst, Bor, map}
use Rattle.tb_detail.specs.Names.{Text}
use Rattle.tb_case_records.specs.Cases.{CaseForm, ReadsCase}
use Rattle.tb_bundle.proofs.AllCases.{form_is}
use Rattle.tb_bundle.proofs.body.read_one.Goals as goal

pub returns : goal.returns
returns c =
    subst (λ (f : CaseForm). ReadsCase f c.args.reader.now c.read_case.new.reader c.read_case.result)
    (form_is c.args.body c.requires.bases c.args.number c.args.mask (map (λ (w : Bor Text). w.now) c.deref.result.now)
    (ap (map (λ (w : Bor Text). w.now)) c.deref.ensures.value ∙ c.in-Ok.ensures))
    c.read_case.ensures
