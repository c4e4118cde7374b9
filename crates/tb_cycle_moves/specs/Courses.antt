-- What a walk along the whole of a cycle finds.
use Rattle.std.specs.Prelude.{◌≡◌, ◌↔◌, ℕ, List, ℤ, ◌+ℤ◌, ◌*ℤ◌}
use Rattle.tb_model.specs.Energy.{Case}
use Rattle.tb_model.specs.Mesh.{Mesh}
use Rattle.tb_outlets.specs.declared.marks.Mark.{Mark}
use Rattle.tb_outlets.specs.declared.side.Side.{Side}
use Rattle.tb_outlets.specs.Balancing.{flow}
use Rattle.tb_outlets.specs.Repair.{IsCycle}
use Rattle.tb_weighted.specs.Flows.{flow_rate, flow_slope, flows_of}
use Rattle.tb_weighted.specs.Limits.{InFlow}
use Rattle.tb_relax.specs.declared.joining.Reach.{Reach}
use Rattle.tb_relax.specs.declared.table.Table.{Table}
use Rattle.tb_relax.specs.Joining.{Within}
use Rattle.tb_relax.specs.Passes.{IsTableOf}
use Rattle.tb_relax.specs.Tables.{flux_forms, table_counts}
use Rattle.tb_cycles.specs.Entries.{IsEntry}
use Rattle.tb_cycles.specs.Moves.{flows_through}
use Rattle.tb_cycles.specs.Ways.{LeadOut}

-- The parabola of the energy in the multiple of a change of a flux, and the multiples that keep the limits at all faces. The
-- rate is that of the mesh, where the table is.
pub record IsReachOf (m : Mesh) (t : Table) (old change : List ℤ) (r : Reach) : Type 0 where
  pub slope : r.pull.slope ≡ flow_slope (flux_forms t) (flows_of m.cells old) (flows_through m.cells change)
  pub within : (x : ℤ) → Within r x ↔ ((g : ℕ) → InFlow (flow old g +ℤ x *ℤ flow change g))
  pub rate : (inside : Case) → IsTableOf m inside t → r.pull.rate ≡ flow_rate (flux_forms t) (flows_through m.cells change)

-- the same of the cycle that enters at a side of a cell, on each mesh with these outlets
abbrev pub IsReachOfCycle : Table → List Mark → List Side → List ℤ → ℕ → Side → Reach → Type 0
IsReachOfCycle t marks sides old c s r = (m : Mesh) → table_counts t ≡ m.cells → LeadOut m marks sides → (f : ℕ) (cycle : List ℤ) → IsEntry m f c s →
    IsCycle m c s cycle → IsReachOf m t old cycle r
