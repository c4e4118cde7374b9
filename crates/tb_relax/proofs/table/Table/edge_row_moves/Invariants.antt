use Rattle.std.proofs.Common.{ℕ, ◌<◌, ◌≤◌}
use Rattle.tb_places.specs.Places.{place_at}
use Rattle.tb_relax.specs.Edges.{first_edge}
use Rattle.tb_relax.specs.Settled.{FlowStays, loop_on}
use Rattle.tb_relax.proofs.table.Table.edge_row_moves.Given as goal

abbrev pub invariant-loop-i : goal.invariant-loop-i
invariant-loop-i l = record { so_far : (i : ℕ) → i < l.i → (first_edge l.axis).i ≤ i → FlowStays l.self l.flows (loop_on l.self l.axis (place_at i l.j l.k)); from : (first_edge l.axis).i ≤ l.i }
