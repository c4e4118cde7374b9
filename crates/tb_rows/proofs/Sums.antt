-- Cells, rows and layers, one after the other, up to the whole.
use Rattle.std.proofs.Common.{◌≡◌, refl, sym, ap, ◌∙◌, ℕ, ◌+◌, ◌-◌, ◌<◌, ◌≤◌, ℤ, pos, ◌+ℤ◌, ◌≤ℤ◌, arith, add-one}
use Rattle.std.proofs.lemmas.Int.{ints}
use Rattle.tb_math.specs.Ceiling.{ceiling}
use Rattle.tb_math.specs.Sums.{total_ℤ}
use Rattle.tb_math.proofs.SumInstances.{adds_ℤ, order_ℤ}
use Rattle.tb_math.proofs.SumLaws.{sum-split}
use Rattle.tb_math.proofs.SumOrder.{sum-nonneg, sum-part}
use Rattle.tb_places.specs.declared.AxisName.TheVariants.{X, Y, Z}
use Rattle.tb_model.specs.Energy.{Terms, rounded_up}
use Rattle.tb_model.specs.Mesh.{Mesh}
use Rattle.tb_rows.specs.Sums.{cell_up, cells_from, cells_up, layers_up, rows_up}
use Rattle.tb_rows.proofs.Reordering.{mesh_by_cells}

pub cells_start : (m : Mesh) (t : Terms) (j k from : ℕ) → from ≡ 0 → pos 0 ≡ cells_up m t j k from
unfolding cells_up
cells_start m t j k from e = sym (ap (λ (n : ℕ). total_ℤ n (λ i. cell_up m t i j k)) e)

pub cells_next : (m : Mesh) (t : Terms) (j k from to : ℕ) → from ≤ to → cells_up m t j k to ≡ cells_up m t j k from +ℤ cells_from m t j k from (to - from)
unfolding cells_up cells_from
cells_next m t j k from to l =
    ap (λ (n : ℕ). total_ℤ n (λ i. cell_up m t i j k)) (whole from to l) ∙ sum-split adds_ℤ from (to - from) (λ i. cell_up m t i j k)
  where
    whole : (from to : ℕ) → from ≤ to → to ≡ from + (to - from)
    whole from to l = omega arith

pub rows_start : (m : Mesh) (t : Terms) (k : ℕ) → pos 0 ≡ rows_up m t k 0
unfolding rows_up
rows_start m t k = refl

pub rows_step : (m : Mesh) (t : Terms) (k n : ℕ) → rows_up m t k (n + 1) ≡ rows_up m t k n +ℤ cells_up m t n k (m.cells X)
unfolding rows_up
rows_step m t k n = ap (λ (c : ℕ). total_ℤ c (λ j. cells_up m t j k (m.cells X))) (add-one n)

pub layers_start : (m : Mesh) (t : Terms) → pos 0 ≡ layers_up m t 0
unfolding layers_up
layers_start m t = refl

pub layers_step : (m : Mesh) (t : Terms) (n : ℕ) → layers_up m t (n + 1) ≡ layers_up m t n +ℤ rows_up m t n (m.cells Y)
unfolding layers_up
layers_step m t n = ap (λ (c : ℕ). total_ℤ c (λ k. rows_up m t k (m.cells Y))) (add-one n)

-- the whole is the sum of the definition
pub whole_is : (m : Mesh) (t : Terms) → layers_up m t (m.cells Z) ≡ rounded_up m t
unfolding layers_up rows_up cells_up cell_up rounded_up
whole_is m t = sym (mesh_by_cells adds_ℤ ceiling m t)

-- ---- no cell takes anything away
pub record Rises (m : Mesh) (t : Terms) : Type 0 where
  pub cells : (i j k : ℕ) → i < m.cells X → j < m.cells Y → k < m.cells Z → pos 0 ≤ℤ cell_up m t i j k

row_rises : (m : Mesh) (t : Terms) → Rises m t → (j k : ℕ) → j < m.cells Y → k < m.cells Z → pos 0 ≤ℤ cells_up m t j k (m.cells X)
unfolding cells_up
row_rises m t h j k lj lk = sum-nonneg adds_ℤ order_ℤ (m.cells X) (λ i. cell_up m t i j k) (λ i li. h.cells i j k li lj lk)

layer_rises : (m : Mesh) (t : Terms) → Rises m t → (k : ℕ) → k < m.cells Z → pos 0 ≤ℤ rows_up m t k (m.cells Y)
unfolding rows_up
layer_rises m t h k lk = sum-nonneg adds_ℤ order_ℤ (m.cells Y) (λ j. cells_up m t j k (m.cells X)) (λ j lj. row_rises m t h j k lj lk)

-- the sum up to a row is at most that of its layer, and with the layers before at most the whole
pub rows_part : (m : Mesh) (t : Terms) → Rises m t → (j k : ℕ) → j < m.cells Y → k < m.cells Z →
    (rows_up m t k j +ℤ cells_up m t j k (m.cells X)) ≤ℤ rows_up m t k (m.cells Y)
unfolding rows_up
rows_part m t h j k lj lk =
    sum-part adds_ℤ order_ℤ j (m.cells Y) (λ q. cells_up m t q k (m.cells X)) (cells_up m t j k (m.cells X)) lj (λ q lq. row_rises m t h q k lq lk) (omega (arith, ints))

layers_within : (m : Mesh) (t : Terms) → Rises m t → (k : ℕ) → k < m.cells Z → (layers_up m t k +ℤ rows_up m t k (m.cells Y)) ≤ℤ layers_up m t (m.cells Z)
unfolding layers_up
layers_within m t h k lk =
    sum-part adds_ℤ order_ℤ k (m.cells Z) (λ q. rows_up m t q (m.cells Y)) (rows_up m t k (m.cells Y)) lk (λ q lq. layer_rises m t h q lq) (omega (arith, ints))

pub layers_part : (m : Mesh) (t : Terms) → Rises m t → (k : ℕ) → k < m.cells Z → (layers_up m t k +ℤ rows_up m t k (m.cells Y)) ≤ℤ rounded_up m t
layers_part m t h k lk = part (layers_up m t (m.cells Z)) (rounded_up m t) _ (whole_is m t) (layers_within m t h k lk)
  where
    part : (x y z : ℤ) → x ≡ y → z ≤ℤ x → z ≤ℤ y
    part x y z e l = omega (arith, ints)
