use Rattle.std.proofs.Common.{◌≡◌, ◌+◌, ◌*◌, ◌<◌, ◌≤◌, ℕ, List}
use Rattle.std.specs.Prelude.{unsigned_abs}
use Rattle.tb_grid.specs.Views.{along_axes}
use Rattle.tb_model.specs.Mesh.{Mesh}
use Rattle.tb_outlets.specs.Balancing.{side_at}
use Rattle.tb_outlets.specs.Cycles.{IsOutward}
use Rattle.tb_outlets.specs.Outlets.{IsSolidAt}
use Rattle.tb_outlets.specs.Searching.{distance_at}
use Rattle.tb_outlets.specs.Sides.{face_of}
use Rattle.tb_cycles.specs.Ways.{IsLeft, LeadOut, most_pull}
use Rattle.tb_cycles.proofs.way.pull_outward.Given as goal

abbrev pub decreases-loop-next : goal.decreases-loop-next
decreases-loop-next g l = distance_at l.marks l.cell.0

abbrev pub invariant-loop-next : goal.invariant-loop-next
invariant-loop-next g l = record {
  here : 0 < distance_at l.marks l.cell.0;
  size : unsigned_abs l.total + distance_at l.marks l.cell.0 * most_pull ≤ distance_at l.marks l.fn.start.0 * most_pull;
  left : (m : Mesh) → along_axes l.counts ≡ m.cells → LeadOut m l.marks l.sides → (es : List ℕ) →
      IsOutward (face_of m.cells) (IsSolidAt m) (side_at l.sides) l.fn.start.0 es →
      IsLeft m (side_at l.sides) (g.P.FacePull.pulls l.pulls) l.fn.start.0 es l.cell.0 l.total;
}
