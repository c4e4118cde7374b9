-- What a certified interval of a coupling coefficient promises.
--
-- The coupling coefficient of the environments i and j is half of K({i}) + K({j}) − K({i,j}), where K of a set is the heat
-- flow from the environments of the set at 1 to the others at 0 (ISO 10211:2017, thermal coupling coefficients).
use Rattle.std.specs.Prelude.{ℕ, ◌+◌, ◌^◌, ◌<◌, List, length, slice_index, slice_index_or, ℤ}
use Rattle.tb_math.specs.Rational.{ℚ, int, one_over, ◌+ℚ◌, ◌-ℚ◌, ◌*ℚ◌, ◌≤ℚ◌}
use Rattle.tb_detail.specs.declared.Detail.{Detail}
use Rattle.tb_geometry.specs.Cases.{case_masks}
use Rattle.tb_model.specs.Energy.{Case, Field, Flux, IsBalanced, bound, energy}
use Rattle.tb_model.specs.Refinement.{Refinement, Refines, Scene, mesh, scene_of}
use Rattle.tb_model.specs.Soundness.{IsSound}
use Rattle.tb_model.specs.Values.{case_of}
use Rattle.tb_terms.specs.declared.Interval.{Interval}
use Rattle.tb_conduct.specs.Pairs.{no_heat}

-- one environment at 1, and two
abbrev pub alone : ℕ → Case
alone i = case_of (2 ^ i)

abbrev pub together : ℕ → ℕ → Case
together i j = case_of (2 ^ i + 2 ^ j)

-- half of K({i}) + K({j}) − K({i,j}), from a number for each
abbrev pub coupling : ℚ → ℚ → ℚ → ℚ
coupling first second both = (first +ℚ second -ℚ both) *ℚ one_over 2

-- An interval from lo to hi is sound for the coupling coefficient of two environments. Each field and each flux may stand on a
-- refinement of its own: the energies of two fields and the bound of a balanced flux make no less than the lower end,
-- the bounds of two balanced fluxes and the energy of a field no more than the upper one.
pub record IsSoundPair (s : Scene) (i j : ℕ) (lo hi : ℤ) : Type 0 where
  pub lower : (r r' r'' : Refinement) (T T' : Field) (q : Flux) → Refines s r → Refines s r' → Refines s r'' → IsBalanced (mesh s r'') q →
      int lo ≤ℚ coupling (energy (mesh s r) (alone i) T) (energy (mesh s r') (alone j) T') (bound (mesh s r'') (together i j) q)
  pub upper : (r r' r'' : Refinement) (q q' : Flux) (T : Field) → Refines s r → Refines s r' → Refines s r'' → IsBalanced (mesh s r) q → IsBalanced (mesh s r') q' →
      coupling (bound (mesh s r) (alone i) q) (bound (mesh s r') (alone j) q') (energy (mesh s r'') (together i j) T) ≤ℚ int hi

-- the interval in each place is sound for the case in this place
abbrev pub AreSound : Detail → List Interval → Type 0
AreSound d intervals = (place : ℕ) → place < length (case_masks (length d.environments)) →
    IsSound (scene_of d) (case_of (slice_index (case_masks (length d.environments)) place)) (slice_index_or intervals place no_heat).lo (slice_index_or intervals place no_heat).hi
