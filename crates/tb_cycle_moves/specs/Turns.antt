-- The moves of the cycles of all faces, and which of them change a flux.
use Rattle.std.specs.Prelude.{◌≡◌, ◌≢◌, ◌⊎◌, ◌<◌, ℕ, Bool, List, ℤ, pos}
use Rattle.tb_places.specs.Places.{face_count}
use Rattle.tb_model.specs.Energy.{Case}
use Rattle.tb_model.specs.Mesh.{Mesh}
use Rattle.tb_outlets.specs.declared.marks.Mark.{Mark}
use Rattle.tb_outlets.specs.declared.side.Side.{Side}
use Rattle.tb_outlets.specs.Repair.{IsCycle}
use Rattle.tb_weighted.specs.Least.{IsNearestLeastOf}
use Rattle.tb_weighted.specs.Moves.{KeepsLimits, counting, whole_flux, with_multiple}
use Rattle.tb_weighted.specs.Sequences.{AreMade}
use Rattle.tb_weighted.specs.Weighted.{weighted_flux}
use Rattle.tb_relax.specs.declared.table.Table.{Table}
use Rattle.tb_relax.specs.Passes.{IsTableOf}
use Rattle.tb_relax.specs.Tables.{table_counts}
use Rattle.tb_cycles.specs.Entries.{HasCycle, IsEntry}
use Rattle.tb_cycles.specs.Moves.{IsCycleMove, flows_through}
use Rattle.tb_cycles.specs.Ways.{LeadOut}

-- the weighted energy of a flux with a multiple of a cycle added, and which multiples keep its limits
abbrev pub energy_with : Mesh → Case → List ℤ → List ℤ → ℤ → ℤ
energy_with m inside flows cycle t = weighted_flux m inside (whole_flux (with_multiple m.cells flows (flows_through m.cells cycle) t))

abbrev pub Keeps : Mesh → List ℤ → List ℤ → ℤ → Type 0
Keeps m flows cycle t = KeepsLimits m.cells (with_multiple m.cells flows (flows_through m.cells cycle) t)

-- the multiple keeps the limits, and where the table is that of the mesh, it is the least one
pub record IsLeastMultiple (m : Mesh) (t : Table) (flows cycle : List ℤ) (multiple : ℤ) : Type 0 where
  pub keeps : Keeps m flows cycle multiple
  pub least : (inside : Case) → IsTableOf m inside t → IsNearestLeastOf (energy_with m inside flows cycle) (Keeps m flows cycle) (pos 0) multiple

-- the same of the cycle that enters at a side of a cell, on each mesh with these outlets
abbrev pub IsLeastOfCycle : Table → List Mark → List Side → List ℤ → ℕ → Side → ℤ → Type 0
IsLeastOfCycle t marks sides flows c s multiple = (m : Mesh) → table_counts t ≡ m.cells → LeadOut m marks sides → (f : ℕ) (cycle : List ℤ) → IsEntry m f c s →
    IsCycle m c s cycle → IsLeastMultiple m t flows cycle multiple

-- the move of a face's cycle leaves a flux
abbrev pub CycleStays : Mesh → Case → ℕ → List ℤ → Type 0
CycleStays m inside face flows = IsCycleMove m inside face flows flows

-- it makes another flux of it
pub record CycleMoves (m : Mesh) (inside : Case) (face : ℕ) (flows : List ℤ) : Type 0 where
  pub new : List ℤ
  pub move : IsCycleMove m inside face flows new
  pub differs : new ≢ flows

pub record SomeCycleMoves (m : Mesh) (inside : Case) (flows : List ℤ) : Type 0 where
  pub face : ℕ
  pub in_grid : face < face_count m.cells
  pub moves : CycleMoves m inside face flows

-- a face in its turn: the move of its cycle, or nothing where it has none
abbrev pub IsCycleTurn : Mesh → Case → ℕ → List ℤ → List ℤ → Type 0
IsCycleTurn m inside face old new = IsCycleMove m inside face old new ⊎ ((¬ HasCycle m face) × (new ≡ old))

-- all faces in their order
abbrev pub AreCycleTurns : Mesh → Case → List ℤ → List ℤ → Bool → Type 0
AreCycleTurns m inside old new told = AreMade (List ℤ) ℕ (IsCycleTurn m inside) (counting 0 (face_count m.cells)) old new told
