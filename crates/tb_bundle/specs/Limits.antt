-- Which bundles are within the limits of the format.
use Rattle.std.specs.Prelude.{◌≤◌, List, [], ◌∷◌, length}
use Rattle.tb_detail.specs.Limits.{InLimits}
use Rattle.tb_case_records.specs.declared.case.CaseProof.{CaseProof}
use Rattle.tb_case_records.specs.Cases.{CaseForm}
use Rattle.tb_case_records.specs.Limits.{CaseInLimits}
use Rattle.tb_bundle.specs.declared.bundle.Bundle.{Bundle}
use Rattle.tb_bundle.specs.Bodies.{case_forms}

-- there is one case of each form, in order, within limits
abbrev pub CasesInLimits : List CaseForm → List CaseProof → Type 0
CasesInLimits [] [] = Unit {0}
CasesInLimits [] (c ∷ cs) = ⊥
CasesInLimits (f ∷ fs) [] = ⊥
CasesInLimits (f ∷ fs) (c ∷ cs) = CaseInLimits f c × CasesInLimits fs cs

-- the detail is within limits and has two environments at least, and so are all its cases
pub record BundleInLimits (b : Bundle) : Type 0 where
  pub detail : InLimits b.detail
  pub environments : 2 ≤ length b.detail.environments
  pub cases : CasesInLimits (case_forms b.detail) b.cases
