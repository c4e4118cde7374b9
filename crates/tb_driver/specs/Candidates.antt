-- The states among which a search chooses.
use Rattle.std.specs.Prelude.{◌≡◌, ◌⊎◌, ℕ, ◌≤ℤ◌, ◌<ℤ◌}
use Rattle.tb_detail.specs.declared.Detail.{Detail}
use Rattle.tb_grid.specs.Grid.{Axes}
use Rattle.tb_model.specs.Values.{case_of}
use Rattle.tb_geometry.specs.Grids.{mesh_on}
use Rattle.tb_moves.specs.Moves.{IsPlain, IsSettled}
use Rattle.tb_driver.specs.declared.solved.Solved.{Solved}
use Rattle.tb_driver.specs.Solved.{AreInLimits, IsProof, IsReached, IsVerdict, ends_of, state_of, width_of}

-- a solution but for how narrow it is
pub record IsCandidate (d : Detail) (g : Axes) (mask width : ℕ) (s : Solved) : Type 0 where
  pub proof : IsProof d g (state_of s)
  pub ends : s.interval ≡ ends_of d g mask (state_of s)
  pub verdict : IsVerdict s.verdict (IsReached width s.interval) (IsSettled (mesh_on d g) (case_of mask) (state_of s))
  pub limits : AreInLimits d g s

-- the plain state after so many passes
abbrev pub IsPlainOne : Detail → Axes → ℕ → ℕ → Solved → Type 0
IsPlainOne d g mask sweeps s = IsPlain (mesh_on d g) (case_of mask) sweeps (state_of s)

-- the narrower of two, the second on a tie
abbrev pub IsNarrowerOf : (first second chosen : Solved) → Type 0
IsNarrowerOf first second chosen =
    ((chosen ≡ first) × (width_of first.interval <ℤ width_of second.interval))
    ⊎ ((chosen ≡ second) × (width_of second.interval ≤ℤ width_of first.interval))
