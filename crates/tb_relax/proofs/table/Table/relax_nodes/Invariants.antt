use Rattle.std.proofs.Common.{ℕ, map}
use Rattle.tb_places.specs.declared.AxisName.TheVariants.{X, Y}
use Rattle.tb_places.specs.Places.{place_at}
use Rattle.tb_weighted.specs.Limits.{IsField}
use Rattle.tb_weighted.specs.Moves.{all_lines, counting, for_each}
use Rattle.tb_relax.specs.Tables.{AreNodeMoves, table_counts}
use Rattle.tb_relax.proofs.table.Table.relax_nodes.Given as goal

abbrev pub invariant-loop-k : goal.invariant-loop-k
invariant-loop-k l = record { so_far : AreNodeMoves l.self (for_each (counting 0 l.k) (λ (k : ℕ). for_each (all_lines (table_counts l.self Y)) (λ (j : ℕ). map (λ (i : ℕ). place_at i j k) (all_lines (table_counts l.self X))))) l.fn.values l.values l.changed; kept : IsField (table_counts l.self) l.values }
