-- The walk along a cycle as a program takes it, on whatever mesh has the outlets.
use Rattle.std.proofs.Common.{◌≡◌, subst, ℕ, List}
use lib.IntN.{ℤ}
use Rattle.tb_places.specs.Inverse.{cell_place}
use Rattle.tb_places.specs.Places.{Counts}
use Rattle.tb_model.specs.Mesh.{Mesh}
use Rattle.tb_outlets.specs.declared.marks.Mark.{Mark}
use Rattle.tb_outlets.specs.declared.side.Side.{Side}
use Rattle.tb_outlets.specs.Balancing.{flow, side_at}
use Rattle.tb_outlets.specs.Cycles.{opposite}
use Rattle.tb_outlets.specs.Repair.{IsCycle}
use Rattle.tb_weighted.specs.Limits.{InFlow}
use Rattle.tb_relax.specs.declared.joining.Reach.{Reach}
use Rattle.tb_relax.specs.declared.table.Table.{Table}
use Rattle.tb_relax.specs.Tables.{table_counts}
use Rattle.tb_cycles.specs.Entries.{IsEntry, IsStart}
use Rattle.tb_cycles.specs.Ways.{IsLast, IsNext, LeadOut, LeadOutOn}
use Rattle.tb_cycle_moves.specs.Courses.{IsReachOfCycle}
use Rattle.tb_cycle_moves.specs.Reaches.{IsPassed}
use Rattle.tb_cycle_moves.proofs.Beginning.{IsEntered, begins_under_way}
use Rattle.tb_cycle_moves.proofs.Surveying.{IsUnderWay, end_under_way, step_under_way}

pub started : (n : Counts) (marks : List Mark) (sides : List Side) (c : ℕ) (s : Side) → IsStart n marks sides c s → LeadOutOn n marks sides
started n marks sides c s start = record { mesh = start.mesh; counts = start.counts; leads = start.leads }

-- the walk of the cycle that enters at a side of cell c is at a side of cell d
abbrev pub IsUnderWayOn : Table → List Mark → List Side → List ℤ → ℕ → Side → ℕ → Side → Reach → Type 0
IsUnderWayOn t marks sides old c s d o r = (m : Mesh) → table_counts t ≡ m.cells → LeadOut m marks sides → (f : ℕ) (cycle : List ℤ) → IsEntry m f c s → IsCycle m c s cycle →
    IsUnderWay m marks sides t old cycle d o r

module _ (t : Table) (marks : List Mark) (sides : List Side) (old : List ℤ) (limits : (g : ℕ) → InFlow (flow old g)) (c : ℕ) (s : Side) where
  pub begins_on : (r : Reach) → IsEntered (table_counts t) t old (cell_place (table_counts t) c) s r → IsUnderWayOn t marks sides old c s c s r
  begins_on r is m same leads f cycle entry is_cycle =
      begins_under_way m t same old limits f c s entry r (subst (λ (n : Counts). IsEntered n t old (cell_place n c) s r) same is) marks sides leads cycle is_cycle

  pub step_on : (d e : ℕ) (o : Side) (r next : Reach) → IsPassed (table_counts t) t old (cell_place (table_counts t) d) o (side_at sides d) r next → IsNext (table_counts t) marks sides d e →
      IsUnderWayOn t marks sides old c s d o r → IsUnderWayOn t marks sides old c s e (opposite (side_at sides d)) next
  step_on d e o r next passed further is m same leads f cycle entry is_cycle =
      step_under_way m marks sides leads t same old cycle limits d o r next (is m same leads f cycle entry is_cycle)
      (subst (λ (n : Counts). IsPassed n t old (cell_place n d) o (side_at sides d) r next) same passed) e (subst (λ (n : Counts). IsNext n marks sides d e) same further)

  pub end_on : (d : ℕ) (o : Side) (r next : Reach) → IsPassed (table_counts t) t old (cell_place (table_counts t) d) o (side_at sides d) r next → IsLast (table_counts t) marks sides d →
      IsUnderWayOn t marks sides old c s d o r → IsReachOfCycle t marks sides old c s next
  end_on d o r next passed last is m same leads f cycle entry is_cycle =
      end_under_way m marks sides leads t same old cycle limits d o r next (is m same leads f cycle entry is_cycle)
      (subst (λ (n : Counts). IsPassed n t old (cell_place n d) o (side_at sides d) r next) same passed) (subst (λ (n : Counts). IsLast n marks sides d) same last)
