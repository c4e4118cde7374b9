use Rattle.tb_geometry.specs.Bodies.{IsTable}
use Rattle.tb_geometry.proofs.holders.paint_boxes.Given as goal

abbrev pub invariant-loop-n : goal.invariant-loop-n
invariant-loop-n l = IsTable l.boxes l.n l.table
