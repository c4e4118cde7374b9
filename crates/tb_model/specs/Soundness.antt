-- What a certified interval promises.
use Rattle.std.specs.Prelude.{ℤ}
use Rattle.tb_math.specs.Rational.{int, ◌≤ℚ◌}
use Rattle.tb_model.specs.Refinement.{Scene, Refinement, Refines, mesh}
use Rattle.tb_model.specs.Energy.{Case, Field, Flux, energy, bound, IsBalanced}

-- Sound on one grid: every field on it has energy at least the lower end, and every balanced flux on it a
-- bound at most the upper end.
pub record IsSoundOn (s : Scene) (r : Refinement) (inside : Case) (lo hi : ℤ) : Type 0 where
  pub fields : (T : Field) → int lo ≤ℚ energy (mesh s r) inside T
  pub fluxes : (q : Flux) → IsBalanced (mesh s r) q → bound (mesh s r) inside q ≤ℚ int hi

-- Sound: on every refinement of the body, whatever its lines and its scale.
abbrev pub IsSound : Scene → Case → ℤ → ℤ → Type 0
IsSound s inside lo hi = (r : Refinement) → Refines s r → IsSoundOn s r inside lo hi
