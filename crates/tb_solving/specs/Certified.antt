-- Solved cases with what makes them certified ones.
use Rattle.std.specs.Prelude.{ℕ, List, [], ◌∷◌}
use Rattle.tb_detail.specs.declared.Detail.{Detail}
use Rattle.tb_grid.specs.Grid.{Axes}
use Rattle.tb_case_records.specs.declared.case.CaseProof.{CaseProof}
use Rattle.tb_case_records.specs.Limits.{CaseInLimits}
use Rattle.tb_bundle.specs.Bodies.{case_form}
use Rattle.tb_checker.specs.Contents.{IsCertifiedCase}
use Rattle.tb_driver.specs.declared.solved.Solved.{Solved}
use Rattle.tb_solving.specs.declared.cases.Target.{Target}
use Rattle.tb_solving.specs.Solved.{IsSolvedCase}

-- what a search found, as a case of a bundle
abbrev pub case_with : ℕ → Axes → ℕ → Solved → CaseProof
case_with mask g width s = record {
  case = record { mask = mask };
  grid = g;
  field = s.field;
  flux = s.flux;
  interval = s.interval;
  verdict = s.verdict;
  width = width;
}

-- a solved case that has no fault in a bundle, whatever its number
pub record IsRightCase (d : Detail) (g : Axes) (t : Target) (mask : ℕ) (c : CaseProof) : Type 0 where
  pub solved : IsSolvedCase d g t mask c
  pub certified : IsCertifiedCase d c
  pub limits : (number : ℕ) → CaseInLimits (case_form d number mask) c

abbrev pub AreRightCases : Detail → Axes → Target → List ℕ → List CaseProof → Type 0
AreRightCases d g t [] [] = Unit {0}
AreRightCases d g t [] (c ∷ cs) = ⊥
AreRightCases d g t (mask ∷ masks) [] = ⊥
AreRightCases d g t (mask ∷ masks) (c ∷ cs) = IsRightCase d g t mask c × AreRightCases d g t masks cs
