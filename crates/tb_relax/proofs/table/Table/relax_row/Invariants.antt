use Rattle.std.proofs.Common.{ℕ, map}
use Rattle.tb_places.specs.Places.{place_at}
use Rattle.tb_weighted.specs.Limits.{IsField}
use Rattle.tb_weighted.specs.Moves.{counting}
use Rattle.tb_relax.specs.Tables.{AreNodeMoves, table_counts}
use Rattle.tb_relax.proofs.table.Table.relax_row.Given as goal

abbrev pub invariant-loop-i : goal.invariant-loop-i
invariant-loop-i l = record { so_far : AreNodeMoves l.self (map (λ (i : ℕ). place_at i l.j l.k) (counting 0 l.i)) l.fn.values l.values l.changed; kept : IsField (table_counts l.self) l.values }
