use Rattle.std.proofs.Common.{ℕ, ◌<◌, arith, subst}
use Rattle.tb_model.specs.Energy.{Case}
use Rattle.tb_places.specs.Places.{Counts, face_count}
use Rattle.tb_relax.specs.Passes.{IsTableOf}
use Rattle.tb_relax.proofs.Staying.{further}
use Rattle.tb_cycles.specs.Entries.{HasCycle}
use Rattle.tb_grid.specs.Grid.{counts_of}
use Rattle.tb_trees.specs.Bodies.{mesh_of}
use Rattle.tb_trees.proofs.Filled.{mesh_counts}
use Rattle.tb_cycle_moves.specs.Turns.{CycleStays}
use Rattle.tb_cycle_moves.proofs.faces.some_cycle_moves.Goals as goal

pub returns-then-face_moves-clause-moves : goal.returns-then-face_moves-clause-moves
returns-then-face_moves-clause-moves c = λ d inside of.
    let below : c.loop-face.face < face_count (counts_of c.args.tree.now.grid) = omega arith in
    record {
      face = c.loop-face.face;
      in_grid = subst (λ (n : Counts). c.loop-face.face < face_count n) (mesh_counts c.args.tree.now.body c.args.tree.now.grid) below;
      moves = c.face_moves.ensures.moves c.if-face_moves.true inside of;
    }

pub loop-face-preserved : goal.loop-face-preserved
loop-face-preserved c = further (λ (f : ℕ). (inside : Case) → IsTableOf (mesh_of c.args.tree.now) inside c.args.table.now → HasCycle (mesh_of c.args.tree.now) f → CycleStays (mesh_of c.args.tree.now) inside f c.args.flows.now)
    c.loop-face.face _ (omega arith) c.loop-face.invariant (c.face_moves.ensures.stays c.if-face_moves.false)

pub returns-clause-stay : goal.returns-clause-stay
returns-clause-stay c = λ d inside of f below has. c.loop-face.invariant f (omega (arith, below)) inside of has
