use Rattle.std.proofs.Common.{ℕ, ◌-◌, ◌≤◌, map}
use Rattle.tb_places.specs.Places.{place_at}
use Rattle.tb_weighted.specs.Limits.{IsFlux}
use Rattle.tb_weighted.specs.Moves.{counting}
use Rattle.tb_relax.specs.Edges.{AreLoopMoves, first_edge}
use Rattle.tb_relax.specs.Tables.{table_counts}
use Rattle.tb_relax.proofs.table.Table.relax_edge_row.Given as goal

abbrev pub invariant-loop-i : goal.invariant-loop-i
invariant-loop-i l = record { so_far : AreLoopMoves l.self l.axis (map (λ (i : ℕ). place_at i l.j l.k) (counting (first_edge l.axis).i (l.i - (first_edge l.axis).i))) l.fn.flows l.flows l.changed; from : (first_edge l.axis).i ≤ l.i; kept : IsFlux (table_counts l.self) l.flows }
