-- The two ends of a field and a balanced flux on grids that carry an accepted body: sound, and within the number of terms.
use lib.IntN.{ℤ, pos, ◌-ℤ◌}
use lib.Signed.{◌≤ℤ◌}
use Rattle.std.proofs.lemmas.Int.{ints}
use native.Mathlib.Omega.{arith}
use Rattle.tb_math.specs.Rational.{int, ◌+ℚ◌, ◌<ℚ◌}
use Rattle.tb_detail.specs.declared.Detail.{Detail}
use Rattle.tb_detail.specs.Limits.{InLimits}
use Rattle.tb_grid.specs.Grid.{Axes}
use Rattle.tb_model.specs.Energy.{Case, Field, Flux, IsBalanced, energy, bound, field_terms, flux_terms, lower_end, upper_end, number_of_terms}
use Rattle.tb_model.specs.Refinement.{scene_of}
use Rattle.tb_model.specs.Soundness.{IsSound}
use Rattle.tb_model.specs.Whole.{IsWhole}
use Rattle.tb_geometry.specs.Faults.{IsAccepted}
use Rattle.tb_geometry.specs.Grids.{CarriesBody, mesh_on, refinement_of}
use Rattle.tb_duality.proofs.BodiesInLimits.{boxes_positive}
use Rattle.tb_duality.proofs.EndLaws.{upper_end_near, lower_end_near}
use Rattle.tb_duality.proofs.AcrossRefinements.{sound, in_order}
use Rattle.tb_duality.proofs.TermCounts.{some_terms}
use Rattle.tb_duality.proofs.WholeFlows.{source_whole}

module _ (d : Detail) (limits : InLimits d) where
  pub ends_sound : (g h : Axes) (inside : Case) (T : Field) (q : Flux) → CarriesBody g d → CarriesBody h d → IsBalanced (mesh_on d h) q →
      IsSound (scene_of d) inside (lower_end (mesh_on d h) inside q) (upper_end (mesh_on d g) inside T)
  ends_sound g h inside T q carries carries' balanced = sound (scene_of d) (refinement_of g) (refinement_of h) inside T q carries carries' (boxes_positive d limits) balanced

  pub gap_not_below_zero : (g h : Axes) (inside : Case) (T : Field) (q : Flux) → CarriesBody g d → CarriesBody h d → IsBalanced (mesh_on d h) q →
      pos 0 ≤ℤ (upper_end (mesh_on d g) inside T -ℤ lower_end (mesh_on d h) inside q)
  gap_not_below_zero g h inside T q carries carries' balanced =
      apart (lower_end (mesh_on d h) inside q) (upper_end (mesh_on d g) inside T) (in_order (scene_of d) (refinement_of g) (refinement_of h) inside T q carries carries' (boxes_positive d limits) balanced)
    where
      apart : (lo hi : ℤ) → lo ≤ℤ hi → pos 0 ≤ℤ (hi -ℤ lo)
      apart lo hi l = omega (arith, ints)

  pub upper_within : (g : Axes) (inside : Case) (T : Field) → IsAccepted d → CarriesBody g d →
      int (upper_end (mesh_on d g) inside T) <ℚ energy (mesh_on d g) inside T +ℚ int (pos (number_of_terms (mesh_on d g) (field_terms (mesh_on d g) inside T)))
  upper_within g inside T accepted carries = (upper_end_near (mesh_on d g) inside T).strictly (some_terms d g (field_terms (mesh_on d g) inside T) limits accepted carries)

  pub lower_within : (g : Axes) (inside : Case) (q : Flux) → IsAccepted d → CarriesBody g d → IsWhole q →
      bound (mesh_on d g) inside q <ℚ int (lower_end (mesh_on d g) inside q) +ℚ int (pos (number_of_terms (mesh_on d g) (flux_terms (mesh_on d g) q)))
  lower_within g inside q accepted carries whole = let (z, e) = source_whole (mesh_on d g) inside q whole in
      lower_end_near (mesh_on d g) inside q z e (some_terms d g (flux_terms (mesh_on d g) q) limits accepted carries)
