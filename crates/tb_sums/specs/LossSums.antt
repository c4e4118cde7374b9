-- What the cells of a run lose, and what enters them, by the numbers of their row.
use Rattle.std.specs.Prelude.{ℕ, ◌+◌, ◌-◌, slice_index, ℤ, ◌+ℤ◌}
use Rattle.tb_math.specs.Sums.{total_ℤ}
use Rattle.tb_rows.specs.declared.run.Run.{Run}
use Rattle.tb_rows.specs.Runs.{high_at, low_at}
use Rattle.tb_sums.specs.declared.flow_row.FlowRow.{FlowRow}
use Rattle.tb_sums.specs.FlowRows.{flows_at}
use Rattle.tb_sums.specs.Losses.{sides_entered, sides_loss_up, solid_loss_up}

-- inside a cell, and at its sides
abbrev pub inside_loss_at : FlowRow → ℕ → ℕ → ℤ
inside_loss_at r lambda i =
    let x = slice_index r.lines.now (i + 1) - slice_index r.lines.now i in
    solid_loss_up lambda x r.y.width r.z.width (flows_at r.flows i)

abbrev pub sides_loss_at : FlowRow → Run → ℕ → ℤ
sides_loss_at r run i =
    let x = slice_index r.lines.now (i + 1) - slice_index r.lines.now i in
    let q = flows_at r.flows i in
    sides_loss_up (low_at run i) (high_at run i) r.y.width r.z.width q.x
    +ℤ (sides_loss_up run.low_y run.high_y x r.z.width q.y
    +ℤ sides_loss_up run.low_z run.high_z x r.y.width q.z)

-- a cell with its sides
unfoldable pub loss_at : FlowRow → Run → ℕ → ℤ
loss_at r run i = inside_loss_at r run.lambda i +ℤ sides_loss_at r run i

unfoldable pub entered_at : FlowRow → Run → ℕ → ℤ
entered_at r run i =
    let q = flows_at r.flows i in
    sides_entered r.mask (low_at run i) (high_at run i) q.x +ℤ (sides_entered r.mask run.low_y run.high_y q.y +ℤ sides_entered r.mask run.low_z run.high_z q.z)

-- the first n cells
unfoldable pub inside_loss : FlowRow → Run → ℕ → ℤ
inside_loss r run n = total_ℤ n (λ m. inside_loss_at r run.lambda (run.from + m))

unfoldable pub sides_loss : FlowRow → Run → ℕ → ℤ
sides_loss r run n = total_ℤ n (λ m. sides_loss_at r run (run.from + m))

unfoldable pub run_loss : FlowRow → Run → ℕ → ℤ
run_loss r run n = total_ℤ n (λ m. loss_at r run (run.from + m))

unfoldable pub run_entered : FlowRow → Run → ℕ → ℤ
run_entered r run n = total_ℤ n (λ m. entered_at r run (run.from + m))
