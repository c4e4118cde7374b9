-- The solved cases of a detail.
use Rattle.std.specs.Prelude.{◌≡◌, ℕ, Bool, true, false, List, [], ◌∷◌, length}
use Rattle.std.specs.List.{list_all}
use Rattle.tb_detail.specs.declared.Detail.{Detail}
use Rattle.tb_grid.specs.Grid.{Axes}
use Rattle.tb_geometry.specs.Cases.{case_masks}
use Rattle.tb_case_records.specs.declared.case.CaseProof.{CaseProof}
use Rattle.tb_case_records.specs.declared.ends.Verdict.{Verdict}
use Rattle.tb_case_records.specs.declared.ends.Verdict.TheVariants.{Done, GridLimit, SweepsSpent}
use Rattle.tb_driver.specs.declared.solved.Solved.{Solved}
use Rattle.tb_driver.specs.Solved.{IsSolution}
use Rattle.tb_solving.specs.declared.cases.Target.{Target}

-- a case as what a search found of it
abbrev pub solved_of : CaseProof → Solved
solved_of c = record { field = c.field; flux = c.flux; interval = c.interval; verdict = c.verdict }

-- the case of a set of environments on a grid, with the width that was wanted and a solution for it
pub record IsSolvedCase (d : Detail) (g : Axes) (t : Target) (mask : ℕ) (c : CaseProof) : Type 0 where
  pub set : c.case.mask ≡ mask
  pub grid : c.grid ≡ g
  pub width : c.width ≡ t.width
  pub solution : IsSolution d g mask t.width t.sweeps (solved_of c)

-- one case for each of these sets, in order
abbrev pub AreSolvedCases : Detail → Axes → Target → List ℕ → List CaseProof → Type 0
AreSolvedCases d g t [] [] = Unit {0}
AreSolvedCases d g t [] (c ∷ cs) = ⊥
AreSolvedCases d g t (mask ∷ masks) [] = ⊥
AreSolvedCases d g t (mask ∷ masks) (c ∷ cs) = IsSolvedCase d g t mask c × AreSolvedCases d g t masks cs

-- all cases of a detail, in order
abbrev pub AreSolved : Detail → Axes → Target → List CaseProof → Type 0
AreSolved d g t cs = AreSolvedCases d g t (case_masks (length d.environments)) cs

-- ---- how they end

abbrev pub is_done : Verdict → Bool
is_done Done = true
is_done GridLimit = false
is_done SweepsSpent = false

-- the interval of each case is as narrow as was wanted
abbrev pub are_done : List CaseProof → Bool
are_done cases = list_all (λ c. is_done c.verdict) cases
