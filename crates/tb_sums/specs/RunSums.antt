-- What the cells of a run add, by the numbers of their row.
use Rattle.std.specs.Prelude.{ℕ, ◌+◌, ◌-◌, slice_index, ℤ, ◌+ℤ◌}
use Rattle.tb_math.specs.Sums.{total_ℤ}
use Rattle.tb_sums.specs.declared.row.Row.{Row}
use Rattle.tb_rows.specs.declared.run.Run.{Run}
use Rattle.tb_sums.specs.Corners.{solid_up}
use Rattle.tb_sums.specs.NodeRows.{corners_at}
use Rattle.tb_rows.specs.Runs.{high_at, low_at}
use Rattle.tb_sums.specs.Sides.{sides_x_up, sides_y_up, sides_z_up}

-- inside a cell, and at its sides
abbrev pub inside_at : Row → ℕ → ℕ → ℤ
inside_at r lambda i =
    let x = slice_index r.lines.now (i + 1) - slice_index r.lines.now i in
    solid_up lambda x r.y.width r.z.width (corners_at r.nodes i)

abbrev pub sides_at : Row → Run → ℕ → ℤ
sides_at r run i =
    let x = slice_index r.lines.now (i + 1) - slice_index r.lines.now i in
    let t = corners_at r.nodes i in
    sides_x_up r.mask (low_at run i) (high_at run i) r.y.width r.z.width t
    +ℤ (sides_y_up r.mask run.low_y run.high_y x r.z.width t
    +ℤ sides_z_up r.mask run.low_z run.high_z x r.y.width t)

-- a cell with its sides
unfoldable pub solid_at : Row → Run → ℕ → ℤ
solid_at r run i = inside_at r run.lambda i +ℤ sides_at r run i

-- the first n cells
unfoldable pub inside_up : Row → Run → ℕ → ℤ
inside_up r run n = total_ℤ n (λ m. inside_at r run.lambda (run.from + m))

unfoldable pub sides_up : Row → Run → ℕ → ℤ
sides_up r run n = total_ℤ n (λ m. sides_at r run (run.from + m))

unfoldable pub run_up : Row → Run → ℕ → ℤ
run_up r run n = total_ℤ n (λ m. solid_at r run (run.from + m))
