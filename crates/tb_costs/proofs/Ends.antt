-- The values of a program's field and flux on a grid, and those of a state on its mesh.
use Rattle.std.proofs.Common.{◌≡◌, refl, sym, ap, subst, ◌^◌, List, arith}
use Rattle.std.proofs.lemmas.Int.{ints}
use lib.IntN.{ℤ, pos}
use lib.Signed.{◌≤ℤ◌, ◌<ℤ◌}
use Rattle.tb_places.specs.Places.{Counts}
use Rattle.tb_places.proofs.ByAxis.{same_by_axis}
use Rattle.tb_detail.specs.declared.Detail.{Detail}
use Rattle.tb_detail.specs.Limits.{InLimits}
use Rattle.tb_grid.specs.Grid.{Axes, IsGrid, counts_of}
use Rattle.tb_model.specs.Energy.{Case, Flux, IsBalanced, flux_terms, lower_end, rounded_up}
use Rattle.tb_model.specs.Values.{flux_of}
use Rattle.tb_weighted.specs.Limits.{IsField, IsFlux}
use Rattle.tb_weighted.specs.Moves.{State}
use Rattle.tb_weighted.specs.Weighted.{weighted_flux}
use Rattle.tb_geometry.specs.Grids.{CarriesBody, mesh_on}
use Rattle.tb_field.specs.Fields.{AreTemperatures, FitsNodes}
use Rattle.tb_flux.specs.Fluxes.{AreFlows, FitsFaces, flux_on}
use Rattle.tb_costs.proofs.Bodies.{costs, energies}
use Rattle.tb_costs.specs.Admissible.{IsAdmissible, most_energy, most_loss}

module _ (d : Detail) (g : Axes) where
  same_counts : counts_of g ≡ (mesh_on d g).cells
  same_counts = same_by_axis (mesh_on d g).cells _ _ _ refl refl refl

  same_flux : (flows : List ℤ) → flux_on g flows ≡ flux_of (mesh_on d g).cells flows
  same_flux flows = ap (λ (n : Counts). flux_of n flows) same_counts

  pub fits_nodes : (values : List ℤ) → IsField (mesh_on d g).cells values → FitsNodes (counts_of g) values
  fits_nodes values h = h.nodes

  pub are_temperatures : (values : List ℤ) → IsField (mesh_on d g).cells values → AreTemperatures values
  are_temperatures values h = λ k e l. let within = h.within k e l in record { least = within.0; most = within.1 }

  pub fits_faces : (flows : List ℤ) → IsFlux (mesh_on d g).cells flows → FitsFaces (counts_of g) flows
  fits_faces flows h = h.faces

  pub are_flows : (flows : List ℤ) → IsFlux (mesh_on d g).cells flows → AreFlows flows
  are_flows flows h = λ k e l. record { at_most = h.within k e l }

  is_field : (values : List ℤ) → FitsNodes (counts_of g) values → AreTemperatures values → IsField (mesh_on d g).cells values
  is_field values fits warm = record { nodes = fits; within = λ k e l. let t = warm k e l in (t.least, t.most) }

  is_flux : (flows : List ℤ) → FitsFaces (counts_of g) flows → AreFlows flows → IsFlux (mesh_on d g).cells flows
  is_flux flows fits small = record { faces = fits; within = λ k e l. (small k e l).at_most }

  pub loss_fits : (inside : Case) (s : State) → InLimits d → CarriesBody g d → IsGrid g → IsAdmissible (mesh_on d g) inside s
      → rounded_up (mesh_on d g) (flux_terms (mesh_on d g) (flux_on g s.flux)) ≤ℤ most_loss
  loss_fits inside s limits carries grid h = subst (λ (q : Flux). rounded_up (mesh_on d g) (flux_terms (mesh_on d g) q) ≤ℤ most_loss) (sym (same_flux s.flux)) (costs d g limits carries grid inside s.flux h.flux h.energy)

  -- a flux within limits whose lower end isn't below 0 loses no more than an admissible one
  pub loss_within : (inside : Case) (flows : List ℤ) → InLimits d → CarriesBody g d → IsGrid g → FitsFaces (counts_of g) flows → AreFlows flows → pos 0 ≤ℤ lower_end (mesh_on d g) inside (flux_on g flows)
      → rounded_up (mesh_on d g) (flux_terms (mesh_on d g) (flux_on g flows)) ≤ℤ most_loss
  loss_within inside flows limits carries grid fits small end =
      let flux = is_flux flows fits small in
      subst (λ (q : Flux). rounded_up (mesh_on d g) (flux_terms (mesh_on d g) q) ≤ℤ most_loss) (sym (same_flux flows))
      (costs d g limits carries grid inside flows flux (energies d g limits carries grid inside flows flux (subst (λ (q : Flux). pos 0 ≤ℤ lower_end (mesh_on d g) inside q) (same_flux flows) end)))

  pub not_past_limit : (inside : Case) (s : State) → InLimits d → CarriesBody g d → IsGrid g → IsAdmissible (mesh_on d g) inside s
      → ¬ (pos (2 ^ 120) <ℤ rounded_up (mesh_on d g) (flux_terms (mesh_on d g) (flux_on g s.flux)))
  not_past_limit inside s limits carries grid h = below (rounded_up (mesh_on d g) (flux_terms (mesh_on d g) (flux_on g s.flux))) (loss_fits inside s limits carries grid h)
    where
      below : (z : ℤ) → z ≤ℤ most_loss → ¬ (pos (2 ^ 120) <ℤ z)
      below z h = λ l. absurd (omega (arith, ints, h, l))

  pub keeps_balance : (inside : Case) (s : State) → IsAdmissible (mesh_on d g) inside s → IsBalanced (mesh_on d g) (flux_on g s.flux)
  keeps_balance inside s h = subst (IsBalanced (mesh_on d g)) (sym (same_flux s.flux)) h.balanced

  -- another field, or another flux whose lower end isn't below 0
  pub field_offered : (inside : Case) (s t : State) → IsAdmissible (mesh_on d g) inside s → FitsNodes (counts_of g) t.field → AreTemperatures t.field → t.flux ≡ s.flux → IsAdmissible (mesh_on d g) inside t
  field_offered inside s t h fits warm same = record {
    field = is_field t.field fits warm;
    flux = subst (IsFlux (mesh_on d g).cells) (sym same) h.flux;
    balanced = subst (λ (v : List ℤ). IsBalanced (mesh_on d g) (flux_of (mesh_on d g).cells v)) (sym same) h.balanced;
    energy = subst (λ (v : List ℤ). weighted_flux (mesh_on d g) inside (flux_of (mesh_on d g).cells v) ≤ℤ most_energy) (sym same) h.energy;
  }

  pub flux_offered : (inside : Case) (s t : State) → InLimits d → CarriesBody g d → IsGrid g → IsAdmissible (mesh_on d g) inside s → FitsFaces (counts_of g) t.flux → AreFlows t.flux → t.field ≡ s.field
      → IsBalanced (mesh_on d g) (flux_on g t.flux) → pos 0 ≤ℤ lower_end (mesh_on d g) inside (flux_on g t.flux) → IsAdmissible (mesh_on d g) inside t
  flux_offered inside s t limits carries grid h fits small same balanced end =
      let flux = is_flux t.flux fits small in
      record {
        field = subst (IsField (mesh_on d g).cells) (sym same) h.field;
        flux = flux;
        balanced = subst (IsBalanced (mesh_on d g)) (same_flux t.flux) balanced;
        energy = energies d g limits carries grid inside t.flux flux (subst (λ (q : Flux). pos 0 ≤ℤ lower_end (mesh_on d g) inside q) (same_flux t.flux) end);
      }
