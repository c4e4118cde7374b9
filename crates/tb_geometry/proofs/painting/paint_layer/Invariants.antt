use Rattle.tb_grid.specs.Views.{along_axes}
use Rattle.tb_geometry.specs.Painting.{InRows, IsPainted}
use Rattle.tb_geometry.proofs.painting.paint_layer.Given as goal

abbrev pub invariant-loop-j : goal.invariant-loop-j
invariant-loop-j l = IsPainted (along_axes l.counts) (InRows l.range l.j l.k) l.number l.initial.table l.table
