-- What the cells, rows and layers of a mesh add to the sum of its terms, each rounded up.
use Rattle.std.specs.Prelude.{ℕ, ◌+◌, ℤ, pos, ◌+ℤ◌}
use Rattle.tb_math.specs.Ceiling.{ceiling}
use Rattle.tb_math.specs.Sums.{total_ℤ}
use Rattle.tb_places.specs.declared.AxisName.TheVariants.{X, Y}
use Rattle.tb_model.specs.Energy.{Terms}
use Rattle.tb_model.specs.Mesh.{Mesh}
use Rattle.tb_rows.specs.Cells.{cell_sum}

-- a cell, the first n cells of a row, the first rows of a layer, the first layers
unfoldable pub cell_up : Mesh → Terms → ℕ → ℕ → ℕ → ℤ
cell_up m t i j k = cell_sum (pos 0) ◌+ℤ◌ ceiling m t i j k

unfoldable pub cells_up : Mesh → Terms → ℕ → ℕ → ℕ → ℤ
cells_up m t j k n = total_ℤ n (λ i. cell_up m t i j k)

unfoldable pub rows_up : Mesh → Terms → ℕ → ℕ → ℤ
rows_up m t k n = total_ℤ n (λ j. cells_up m t j k (m.cells X))

unfoldable pub layers_up : Mesh → Terms → ℕ → ℤ
layers_up m t n = total_ℤ n (λ k. rows_up m t k (m.cells Y))

-- and the cells of a row from one on
unfoldable pub cells_from : Mesh → Terms → ℕ → ℕ → ℕ → ℕ → ℤ
cells_from m t j k from n = total_ℤ n (λ c. cell_up m t (from + c) j k)
