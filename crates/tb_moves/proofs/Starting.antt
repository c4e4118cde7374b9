-- What a new session keeps, and what is known of every session.
use Rattle.std.proofs.Common.{◌≡◌, refl, sym, ap, ◌∙◌, subst, List, replicate}
use lib.IntN.{ℤ, pos}
use Rattle.std.specs.Prelude.{None, Option}
use lib.Signed.{◌≤ℤ◌}
use Rattle.tb_places.specs.Places.{Counts, face_count, node_count}
use Rattle.tb_places.proofs.ByAxis.{same_by_axis}
use Rattle.tb_model.specs.Values.{flux_of}
use Rattle.tb_detail.specs.Limits.{InLimits}
use Rattle.tb_grid.specs.Grid.{IsGrid, counts_of}
use Rattle.tb_geometry.specs.Faults.{IsAccepted}
use Rattle.tb_geometry.specs.Grids.{CarriesBody}
use Rattle.tb_weighted.specs.Moves.{State}
use Rattle.tb_weighted.specs.Weighted.{weighted_flux}
use Rattle.tb_costs.specs.Admissible.{IsAdmissible, most_energy}
use Rattle.tb_costs.proofs.Ends.{are_flows, are_temperatures, fits_faces, fits_nodes, keeps_balance}
use Rattle.tb_costs.proofs.Zero.{none_admissible}
use Rattle.tb_moves.specs.Keeping.{KeepsSession}
use Rattle.tb_moves.specs.Sessions.{IsKept, Session, inside_of, mesh_of, state_of}
use Rattle.tb_moves.specs.Settings.{Setting, case_in, mesh_in}

pub kept_at_start : (v w : Setting) (field flux : List ℤ) → v ≡ w → InLimits v.body → IsAccepted v.body → IsGrid v.grid → CarriesBody v.grid v.body
    → field ≡ replicate (node_count (counts_of w.grid)) (pos 0) → flux ≡ replicate (face_count (counts_of w.grid)) (pos 0)
    → KeepsSession (record { body = v.body; grid = v.grid; case = v.case; field = field; flux = flux }) None None
kept_at_start v w field flux same limits accepted grid carries none still = record {
  limits = limits;
  accepted = accepted;
  grid = grid;
  carries = carries;
  state = subst (λ (s : State). IsAdmissible (mesh_in v) (case_in v) s)
      (ap (λ (u : Setting). without u) same ∙ ap (λ (f : List ℤ). state f (replicate (face_count (counts_of w.grid)) (pos 0))) (sym none) ∙ ap (λ (q : List ℤ). state field q) (sym still))
      (none_admissible (mesh_in v) (case_in v));
  highest = tt;
  lowest = tt;
}
  where
    state : List ℤ → List ℤ → State
    state f q = record { field = f; flux = q }

    without : Setting → State
    without u = state (replicate (node_count (counts_of u.grid)) (pos 0)) (replicate (face_count (counts_of u.grid)) (pos 0))

same_counts : (s : Session) → counts_of s.grid ≡ (mesh_of s).cells
same_counts s = same_by_axis (mesh_of s).cells _ _ _ refl refl refl

pub kept_of : (s : Session) (upper lower : Option ℤ) → KeepsSession s upper lower → IsKept s
kept_of s upper lower keeps = record {
  limits = keeps.limits;
  accepted = keeps.accepted;
  carries = keeps.carries;
  field_fits = fits_nodes s.body s.grid s.field keeps.state.field;
  field_limits = are_temperatures s.body s.grid s.field keeps.state.field;
  flux_fits = fits_faces s.body s.grid s.flux keeps.state.flux;
  flux_limits = are_flows s.body s.grid s.flux keeps.state.flux;
  balanced = keeps_balance s.body s.grid (inside_of s) (state_of s) keeps.state;
  bounded = subst (λ (n : Counts). weighted_flux (mesh_of s) (inside_of s) (flux_of n s.flux) ≤ℤ most_energy) (sym (same_counts s)) keeps.state.energy;
}
