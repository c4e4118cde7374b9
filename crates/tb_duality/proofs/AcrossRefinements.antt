-- Weak duality on two refinements: field and flux are carried to the merge of the two, where they meet.
use mathlib.Core.Path.{subst}
use lib.Signed.{◌≤ℤ◌}
use Rattle.tb_math.specs.Rational.{ℚ, int, ◌≤ℚ◌}
use Rattle.tb_math.proofs.RationalOrder.{≤ℚ-trans}
use Rattle.tb_math.proofs.StrictOrder.{int-≤}
use Rattle.tb_model.specs.Energy.{Case, Field, Flux, IsBalanced, energy, bound, lower_end, upper_end}
use Rattle.tb_model.specs.Merges.{merged, Carries}
use Rattle.tb_model.specs.Positive.{HasPositiveBoxes}
use Rattle.tb_model.specs.Refinement.{Scene, Refinement, Refines, mesh}
use Rattle.tb_model.specs.Soundness.{IsSound}
use Rattle.tb_cuts.proofs.Merging.{merged_refines, merged_turned, merged_carries}
use Rattle.tb_duality.proofs.Duality.{duality}
use Rattle.tb_duality.proofs.EndLaws.{upper_end_near, lower_end_below}
use Rattle.tb_duality.proofs.PhysicalMeshes.{mesh_physical}

module _ (s : Scene) where
  pub duality_across : (r r' : Refinement) (inside : Case) (T : Field) (q : Flux) → Refines s r → Refines s r' → HasPositiveBoxes s → IsBalanced (mesh s r') q → bound (mesh s r') inside q ≤ℚ energy (mesh s r) inside T
  duality_across r r' inside T q refines refines' positive balanced =
      let c : Carries (mesh s r) (mesh s (merged r r')) = merged_carries s r r' refines refines' in
      let d : Carries (mesh s r') (mesh s (merged r r')) = subst (λ (t : Refinement). Carries (mesh s r') (mesh s t)) (merged_turned s r r' refines refines') (merged_carries s r' r refines' refines) in
      subst (λ (x : ℚ). x ≤ℚ energy (mesh s r) inside T) (d.flux_same inside q)
      (subst (λ (x : ℚ). bound (mesh s (merged r r')) inside (d.flux q) ≤ℚ x) (c.field_same inside T)
      (duality (mesh s (merged r r')) inside (c.field T) (d.flux q) (mesh_physical s (merged r r') (merged_refines s r r' refines refines') positive) (d.flux_balanced q balanced)))

  -- The ends of an interval --

  pub sound : (r r' : Refinement) (inside : Case) (T : Field) (q : Flux) → Refines s r → Refines s r' → HasPositiveBoxes s → IsBalanced (mesh s r') q →
      IsSound s inside (lower_end (mesh s r') inside q) (upper_end (mesh s r) inside T)
  sound r r' inside T q refines refines' positive balanced r'' refines'' = record {
    fields = λ U. ≤ℚ-trans (int (lower_end (mesh s r') inside q)) (bound (mesh s r') inside q) (energy (mesh s r'') inside U) (lower_end_below (mesh s r') inside q) (duality_across r'' r' inside U q refines'' refines' positive balanced);
    fluxes = λ p b. ≤ℚ-trans (bound (mesh s r'') inside p) (energy (mesh s r) inside T) (int (upper_end (mesh s r) inside T)) (duality_across r r'' inside T p refines refines'' positive b) (upper_end_near (mesh s r) inside T).above;
  }

  pub in_order : (r r' : Refinement) (inside : Case) (T : Field) (q : Flux) → Refines s r → Refines s r' → HasPositiveBoxes s → IsBalanced (mesh s r') q →
      lower_end (mesh s r') inside q ≤ℤ upper_end (mesh s r) inside T
  in_order r r' inside T q refines refines' positive balanced = int-≤ (lower_end (mesh s r') inside q) (upper_end (mesh s r) inside T)
      (≤ℚ-trans (int (lower_end (mesh s r') inside q)) (energy (mesh s r) inside T) (int (upper_end (mesh s r) inside T))
      ((sound r r' inside T q refines refines' positive balanced r refines).fields T) (upper_end_near (mesh s r) inside T).above)
