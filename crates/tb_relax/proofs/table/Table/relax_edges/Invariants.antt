use Rattle.std.proofs.Common.{ℕ, ◌-◌, ◌≤◌, map}
use Rattle.tb_places.specs.declared.AxisName.TheVariants.{X, Y}
use Rattle.tb_places.specs.Places.{place_at}
use Rattle.tb_weighted.specs.Limits.{IsFlux}
use Rattle.tb_weighted.specs.Moves.{counting, for_each}
use Rattle.tb_relax.specs.Edges.{AreLoopMoves, first_edge}
use Rattle.tb_relax.specs.Tables.{table_counts}
use Rattle.tb_relax.proofs.table.Table.relax_edges.Given as goal

abbrev pub invariant-loop-k : goal.invariant-loop-k
invariant-loop-k l = record { so_far : AreLoopMoves l.self l.axis (for_each (counting (first_edge l.axis).k (l.k - (first_edge l.axis).k)) (λ (k : ℕ). for_each (counting (first_edge l.axis).j (table_counts l.self Y - (first_edge l.axis).j)) (λ (j : ℕ). map (λ (i : ℕ). place_at i j k) (counting (first_edge l.axis).i (table_counts l.self X - (first_edge l.axis).i))))) l.fn.flows l.flows l.changed; from : (first_edge l.axis).k ≤ l.k; kept : IsFlux (table_counts l.self) l.flows }
