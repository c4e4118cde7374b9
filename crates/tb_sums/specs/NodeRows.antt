-- The corners of a cell, from the rows of nodes around it.
use Rattle.std.specs.Prelude.{ℕ, ◌+◌, slice_index_or, pos}
use Rattle.tb_sums.specs.declared.cell.Corners.{Corners}
use Rattle.tb_sums.specs.declared.row.NodeRows.{NodeRows}

abbrev pub corners_at : NodeRows → ℕ → Corners
corners_at n i = record {
  t000 = slice_index_or n.t00.now i (pos 0);
  t100 = slice_index_or n.t00.now (i + 1) (pos 0);
  t010 = slice_index_or n.t10.now i (pos 0);
  t110 = slice_index_or n.t10.now (i + 1) (pos 0);
  t001 = slice_index_or n.t01.now i (pos 0);
  t101 = slice_index_or n.t01.now (i + 1) (pos 0);
  t011 = slice_index_or n.t11.now i (pos 0);
  t111 = slice_index_or n.t11.now (i + 1) (pos 0);
}
