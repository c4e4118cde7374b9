-- The move of a cycle.
use Rattle.std.specs.Prelude.{◌≡◌, ℕ, List, length, ℤ, pos}
use Rattle.tb_places.specs.declared.AxisName.{AxisName}
use Rattle.tb_places.specs.Places.{Counts, IsFace, face_number, place_at}
use Rattle.tb_model.specs.Energy.{Case}
use Rattle.tb_model.specs.Mesh.{Mesh}
use Rattle.tb_weighted.specs.Least.{IsNearestLeastOf}
use Rattle.tb_weighted.specs.Moves.{Flows, KeepsLimits, value_at, whole_flux, with_multiple}
use Rattle.tb_weighted.specs.Weighted.{weighted_flux}
use Rattle.tb_cycles.specs.Entries.{IsCycleOf}

-- the flows of a list through the faces at places
abbrev pub flows_through : Counts → List ℤ → Flows
flows_through n flows a i j k = value_at flows (face_number n a (place_at i j k))

-- a multiple of the cycle of a surface face that isn't a root is added: of the multiples within the limits that make the
-- weighted energy least, the one nearest to 0
pub record IsCycleMove (m : Mesh) (inside : Case) (face : ℕ) (old new : List ℤ) : Type 0 where
  pub cycle : List ℤ
  pub is_cycle : IsCycleOf m face cycle
  pub multiple : ℤ
  pub least : IsNearestLeastOf (λ t. weighted_flux m inside (whole_flux (with_multiple m.cells old (flows_through m.cells cycle) t))) (λ t. KeepsLimits m.cells (with_multiple m.cells old (flows_through m.cells cycle) t)) (pos 0) multiple
  pub faces : length new ≡ length old
  pub added : (a : AxisName) (i j k : ℕ) → IsFace m.cells a (place_at i j k) → value_at new (face_number m.cells a (place_at i j k)) ≡ with_multiple m.cells old (flows_through m.cells cycle) multiple a i j k
