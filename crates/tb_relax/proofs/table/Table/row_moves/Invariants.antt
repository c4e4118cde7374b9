use Rattle.std.proofs.Common.{ℕ, ◌<◌}
use Rattle.tb_places.specs.Places.{place_at}
use Rattle.tb_relax.specs.Settled.{NodeStays}
use Rattle.tb_relax.proofs.table.Table.row_moves.Given as goal

abbrev pub invariant-loop-i : goal.invariant-loop-i
invariant-loop-i l = (i : ℕ) → i < l.i → NodeStays l.self l.values (place_at i l.j l.k)
