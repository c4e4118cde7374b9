-- The flows through the faces of a cell, from the rows of faces around it.
use Rattle.std.specs.Prelude.{ℕ, ◌+◌, slice_index_or, pos}
use Rattle.tb_sums.specs.declared.solid.CellFlows.{CellFlows}
use Rattle.tb_sums.specs.declared.flow_row.FlowRows.{FlowRows}

abbrev pub flows_at : FlowRows → ℕ → CellFlows
flows_at q i = record {
  x = record { low = slice_index_or q.x.now i (pos 0); high = slice_index_or q.x.now (i + 1) (pos 0) };
  y = record { low = slice_index_or q.low_y.now i (pos 0); high = slice_index_or q.high_y.now i (pos 0) };
  z = record { low = slice_index_or q.low_z.now i (pos 0); high = slice_index_or q.high_z.now i (pos 0) };
}
