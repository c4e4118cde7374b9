use Rattle.std.proofs.Common.{ℕ, List, map}
use lib.IntN.{ℤ}
use Rattle.tb_model.specs.Energy.{Case}
use Rattle.tb_weighted.specs.Limits.{IsFlux}
use Rattle.tb_weighted.specs.Moves.{counting}
use Rattle.tb_weighted.specs.Sequences.{AreMade}
use Rattle.tb_relax.specs.Passes.{IsTableOf}
use Rattle.tb_relax.specs.Tables.{table_counts}
use Rattle.tb_trees.specs.Bodies.{mesh_of}
use Rattle.tb_cycle_moves.specs.Turns.{IsCycleTurn}
use Rattle.tb_cycle_moves.proofs.faces.relax_cycles.Given as goal

abbrev pub invariant-loop-number : goal.invariant-loop-number
invariant-loop-number l = record {
  so_far : (inside : Case) → IsTableOf (mesh_of l.tree) inside l.table →
      AreMade (List ℤ) ℕ (IsCycleTurn (mesh_of l.tree) inside) (map (λ (f : ℕ). f) (counting 0 l.number)) l.fn.flows l.flows l.changed;
  kept : IsFlux (table_counts l.table) l.flows;
}
