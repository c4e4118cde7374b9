-- What a solution of a case on a grid is.
use Rattle.std.specs.Prelude.{◌≡◌, ◌⊎◌, ◌*◌, ◌^◌, ◌≤◌, ℕ, ℤ, pos, ◌-ℤ◌, ◌≤ℤ◌, unsigned_abs}
use Rattle.tb_detail.specs.declared.Detail.{Detail}
use Rattle.tb_grid.specs.Grid.{Axes, counts_of}
use Rattle.tb_model.specs.Energy.{IsBalanced, flux_terms, lower_end, rounded_up, upper_end}
use Rattle.tb_model.specs.Values.{case_of}
use Rattle.tb_terms.specs.declared.Interval.{Interval}
use Rattle.tb_geometry.specs.Grids.{mesh_on}
use Rattle.tb_field.specs.Fields.{AreTemperatures, FitsNodes, field_on}
use Rattle.tb_flux.specs.Fluxes.{AreFlows, FitsFaces, flux_on}
use Rattle.tb_case_records.specs.declared.ends.Verdict.{Verdict}
use Rattle.tb_case_records.specs.declared.ends.Verdict.TheVariants.{Done, GridLimit, SweepsSpent}
use Rattle.tb_weighted.specs.Moves.{State}
use Rattle.tb_moves.specs.Moves.{IsPlain, IsSettled}
use Rattle.tb_driver.specs.declared.solved.Solved.{Solved}

-- the field and the flux, as a state of the solver
abbrev pub state_of : Solved → State
state_of s = record { field = s.field; flux = s.flux }

-- how wide an interval is, in fW/K
abbrev pub width_of : Interval → ℤ
width_of i = i.hi -ℤ i.lo

-- the two ends of a state: the upper end of its field, the lower end of its flux
abbrev pub ends_of : Detail → Axes → ℕ → State → Interval
ends_of d g mask s = record {
  lo = lower_end (mesh_on d g) (case_of mask) (flux_on g s.flux);
  hi = upper_end (mesh_on d g) (case_of mask) (field_on g s.field);
}

-- an interval is at most so wide; the width is in µW/K, which is 10⁹ fW/K
abbrev pub IsReached : ℕ → Interval → Type 0
IsReached width i = width_of i ≤ℤ pos (width * 10 ^ 9)

-- there is a value for each node and a flow for each face, each within its limits, and the flux is balanced
pub record IsProof (d : Detail) (g : Axes) (s : State) : Type 0 where
  pub nodes : FitsNodes (counts_of g) s.field
  pub temperatures : AreTemperatures s.field
  pub faces : FitsFaces (counts_of g) s.flux
  pub flows : AreFlows s.flux
  pub balanced : IsBalanced (mesh_on d g) (flux_on g s.flux)

-- an interval is no wider than that of the plain state after so many passes
pub record IsNoWider (d : Detail) (g : Axes) (mask sweeps : ℕ) (i : Interval) : Type 0 where
  pub plain : State
  pub is_plain : IsPlain (mesh_on d g) (case_of mask) sweeps plain
  pub no_wider : width_of i ≤ℤ width_of (ends_of d g mask plain)

-- the verdict where the wanted width is reached or not, and no move changes the state or one does
abbrev pub IsVerdict : Verdict → (Reached Settled : Type 0) → Type 0
IsVerdict Done Reached Settled = Reached
IsVerdict GridLimit Reached Settled = (¬ Reached) × Settled
IsVerdict SweepsSpent Reached Settled = (¬ Reached) × (¬ Settled)

-- A solution, for a wanted width and a number of sweeps: a field and a balanced flux, their two ends, and how the search
-- ended. The interval is as narrow as was wanted, or no wider than that of the plain state after so many passes
pub record IsSolution (d : Detail) (g : Axes) (mask width sweeps : ℕ) (s : Solved) : Type 0 where
  pub proof : IsProof d g (state_of s)
  pub ends : s.interval ≡ ends_of d g mask (state_of s)
  pub narrow : IsReached width s.interval ⊎ IsNoWider d g mask sweeps s.interval
  pub verdict : IsVerdict s.verdict (IsReached width s.interval) (IsSettled (mesh_on d g) (case_of mask) (state_of s))

-- ends whose difference is no sum past a limit
pub record AreSmall (i : Interval) : Type 0 where
  pub low : unsigned_abs i.lo ≤ 2 ^ 121
  pub high : unsigned_abs i.hi ≤ 2 ^ 120

-- the loss of the flux, each term rounded up, is one of which a lower end is told, at most 2¹²⁰ fW/K, and so are the ends
pub record AreInLimits (d : Detail) (g : Axes) (s : Solved) : Type 0 where
  pub loss : rounded_up (mesh_on d g) (flux_terms (mesh_on d g) (flux_on g s.flux)) ≤ℤ pos (2 ^ 120)
  pub small : AreSmall s.interval
