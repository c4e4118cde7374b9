-- A row of cells, with the flows through its faces: what leaves a cell of it, and where its numbers end.
use Rattle.std.proofs.Common.{◌≡◌, ℕ, ◌+◌, ◌-◌, ◌<◌, ◌≤◌, List, ap, sym, ◌∙◌, arith, ℤ}
use Rattle.std.specs.Prelude.{pos, slice_index_or, ◌-ℤ◌}
use Rattle.tb_math.specs.Rational.{int}
use Rattle.tb_places.specs.declared.AxisName.{AxisName}
use Rattle.tb_places.specs.declared.AxisName.TheVariants.{X, Y, Z}
use Rattle.tb_places.specs.declared.Place.{Place}
use Rattle.tb_places.specs.Along.{ahead}
use Rattle.tb_places.specs.Inverse.{cell_place}
use Rattle.tb_places.specs.Places.{Counts, IsCell, cell_number, face_count, face_number, place_at}
use Rattle.tb_places.proofs.Cells.{cell_place_of_number}
use Rattle.tb_places.proofs.Faces.{face_number_below}
use Rattle.tb_model.specs.Energy.{outflow}
use Rattle.tb_model.specs.Values.{flux_of}
use Rattle.tb_flux.specs.Fluxes.{leaving_at}
use Rattle.tb_flux.specs.Rows.{AreFlowsFrom, AreRowFlows, leaving_in}
use Rattle.tb_flux.specs.declared.row.CellRow.{CellRow}
use Rattle.tb_flux.proofs.Outflows.{leaving_is, leaving_of, same_sum}

-- ---- where a row of faces ends
pub low_row_within : (n : Counts) (a : AxisName) (p : Place) → IsCell n p → p.i ≡ 0 → face_number n a p + n X ≤ face_count n
low_row_within n X p (on_x, on_y, on_z) first =
    let below = face_number_below n X (place_at (n X - 1) p.j p.k) (omega arith, on_y, on_z) in omega (arith, below, first, on_x)
low_row_within n Y p (on_x, on_y, on_z) first =
    let below = face_number_below n Y (place_at (n X - 1) p.j p.k) (omega (arith, on_x), omega (arith, on_y), on_z) in omega (arith, below, first, on_x)
low_row_within n Z p (on_x, on_y, on_z) first =
    let below = face_number_below n Z (place_at (n X - 1) p.j p.k) (omega (arith, on_x), on_y, omega (arith, on_z)) in omega (arith, below, first, on_x)

pub high_row_within : (n : Counts) (a : AxisName) (p : Place) → IsCell n p → p.i ≡ 0 → face_number n a (ahead a 1 p) + n X ≤ face_count n
high_row_within n X p (on_x, on_y, on_z) first =
    let below = face_number_below n X (place_at (n X) p.j p.k) (omega arith, on_y, on_z) in omega (arith, below, first, on_x)
high_row_within n Y p (on_x, on_y, on_z) first =
    let below = face_number_below n Y (place_at (n X - 1) (p.j + 1) p.k) (omega (arith, on_x), omega (arith, on_y), on_z) in omega (arith, below, first, on_x)
high_row_within n Z p (on_x, on_y, on_z) first =
    let below = face_number_below n Z (place_at (n X - 1) p.j (p.k + 1)) (omega (arith, on_x), on_y, omega (arith, on_z)) in omega (arith, below, first, on_x)

-- ---- what leaves a cell
low_number : (n : Counts) (a : AxisName) (i j k : ℕ) → face_number n a (place_at 0 j k) + i ≡ face_number n a (place_at i j k)
low_number n X i j k = omega arith
low_number n Y i j k = omega arith
low_number n Z i j k = omega arith

high_number : (n : Counts) (a : AxisName) (i j k : ℕ) → face_number n a (ahead a 1 (place_at 0 j k)) + i ≡ face_number n a (ahead a 1 (place_at i j k))
high_number n X i j k = omega arith
high_number n Y i j k = omega arith
high_number n Z i j k = omega arith

along_is : (n : Counts) (a : AxisName) (values low high : List ℤ) (i j k : ℕ) → i < n X →
    AreFlowsFrom values (face_number n a (place_at 0 j k)) (n X) low → AreFlowsFrom values (face_number n a (ahead a 1 (place_at 0 j k))) (n X) high →
    slice_index_or high i (pos 0) -ℤ slice_index_or low i (pos 0) ≡ leaving_at n a values (place_at i j k)
along_is n a values low high i j k within from to =
    let h : slice_index_or high i (pos 0) ≡ slice_index_or values (face_number n a (ahead a 1 (place_at i j k))) (pos 0) =
    to.flows i within ∙ ap (λ (f : ℕ). slice_index_or values f (pos 0)) (high_number n a i j k) in
    let l : slice_index_or low i (pos 0) ≡ slice_index_or values (face_number n a (place_at i j k)) (pos 0) =
    from.flows i within ∙ ap (λ (f : ℕ). slice_index_or values f (pos 0)) (low_number n a i j k) in
    ap (λ (z : ℤ). z -ℤ slice_index_or low i (pos 0)) h ∙ ap (λ (z : ℤ). slice_index_or values (face_number n a (ahead a 1 (place_at i j k))) (pos 0) -ℤ z) l

row_leaving : (n : Counts) (values : List ℤ) (row : CellRow) (i j k : ℕ) → AreRowFlows n values j k row → i < n X →
    outflow (flux_of n values) i j k ≡ int (leaving_in row i)
row_leaving n values row i j k flows within =
    leaving_is n values (place_at i j k)
    ∙ ap int (sym (same_sum _ _ _ _ _ _ (along_is n X values _ _ i j k within flows.low_x flows.high_x)
    (along_is n Y values _ _ i j k within flows.low_y flows.high_y) (along_is n Z values _ _ i j k within flows.low_z flows.high_z)))

pub cell_at : (n : Counts) (number i j k : ℕ) → number ≡ cell_number n (place_at 0 j k) → number + i ≡ cell_number n (place_at i j k)
cell_at n number i j k first = omega (arith, first)

-- what leaves the cell of a number in a row
pub leaves : (n m : Counts) (values others : List ℤ) (row : CellRow) (number i j k : ℕ) (sum : ℤ) → n ≡ m → values ≡ others →
    AreRowFlows n values j k row → number ≡ cell_number n (place_at 0 j k) → IsCell n (place_at i j k) → sum ≡ leaving_in row i →
    let p = cell_place m (number + i) in outflow (flux_of m others) p.i p.j p.k ≡ int sum
leaves n m values others row number i j k sum counts same flows first cell is =
    let place : place_at i j k ≡ cell_place n (number + i) =
    sym (ap (λ (c : ℕ). cell_place n c) (cell_at n number i j k first) ∙ cell_place_of_number n (place_at i j k) cell) in
    leaving_of n m values others (place_at i j k) (number + i) sum counts same place (row_leaving n values row i j k flows cell.0 ∙ ap int (sym is))
