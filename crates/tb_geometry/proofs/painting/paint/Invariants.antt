use Rattle.tb_grid.specs.Views.{along_axes}
use Rattle.tb_geometry.specs.Painting.{InLayers, IsPainted}
use Rattle.tb_geometry.proofs.painting.paint.Given as goal

abbrev pub invariant-loop-k : goal.invariant-loop-k
invariant-loop-k l = IsPainted (along_axes l.counts) (InLayers l.range l.k) l.number l.initial.table l.table
