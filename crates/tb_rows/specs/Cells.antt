-- Sums over a mesh, cell by cell: a solid cell has its terms along the three axes, and those of the surfaces at its
-- six sides.
use Rattle.std.specs.Prelude.{ℕ, suc, Option, Some, true, false}
use Rattle.tb_math.specs.Rational.{ℚ}
use Rattle.tb_math.specs.Sums.{sum_to}
use Rattle.tb_places.specs.declared.AxisName.{AxisName}
use Rattle.tb_places.specs.declared.AxisName.TheVariants.{X, Y, Z}
use Rattle.tb_places.specs.Places.{along}
use Rattle.tb_detail.specs.declared.Content.{Content}
use Rattle.tb_detail.specs.declared.Content.TheVariants.{Air}
use Rattle.tb_model.specs.Mesh.{Mesh, above, below}
use Rattle.tb_model.specs.Energy.{Terms, of_solid}

-- what a solid cell has at a side, beside which this lies
abbrev pub at_air : {A : Type 0} → A → (ℕ → ℕ → A) → Option Content → A
at_air none f (Some (Air environment rs)) = f environment rs
at_air none f _ = none

-- along an axis, what a solid cell of a material has: its term, and the surfaces at its low and its high side
abbrev pub solid_sum : {A : Type 0} → A → (A → A → A) → (ℚ → A) → Mesh → Terms → AxisName → ℕ → ℕ → ℕ → ℕ → A
solid_sum none plus read m t a material i j k =
    plus (read (t.cell a i j k (m.conductivity material a)))
    (plus
    (at_air none (λ e rs. read (t.surface a i j k e rs true)) (below (λ n. along a m.occupant n j k) i))
    (at_air none (λ e rs. read (t.surface a (suc i) j k e rs false)) (above (m.cells a) (λ n. along a m.occupant n j k) (suc i))))

-- the same along all three
abbrev pub cell_sum : {A : Type 0} → A → (A → A → A) → (ℚ → A) → Mesh → Terms → ℕ → ℕ → ℕ → A
cell_sum none plus read m t i j k =
    of_solid none
    (λ n. plus
    (plus (solid_sum none plus read m t X n i j k) (solid_sum none plus read m t Y n j i k))
    (solid_sum none plus read m t Z n k i j))
    (m.occupant i j k)

-- over the cells in the order of their numbers
abbrev pub cells_sum : {A : Type 0} → A → (A → A → A) → (ℚ → A) → Mesh → Terms → A
cells_sum none plus read m t =
    sum_to none plus (m.cells Z) (λ k. sum_to none plus (m.cells Y) (λ j. sum_to none plus (m.cells X) (λ i. cell_sum none plus read m t i j k)))
