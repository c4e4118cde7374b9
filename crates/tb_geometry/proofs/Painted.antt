-- Painting row by row paints a layer of a range.
use Rattle.std.proofs.Common.{◌≡◌, ℕ, ◌+◌, ◌-◌, ◌<◌, ◌≤◌, ◌⊎◌, inl, inr, ⊎_elim, List, ◌∙◌, ap, arith}
use Rattle.std.proofs.lemmas.Bool.{cases_lt, cases_order}
use Rattle.tb_places.specs.declared.AxisName.TheVariants.{X, Y, Z}
use Rattle.tb_places.specs.declared.Place.{Place}
use Rattle.tb_places.specs.Places.{Counts, IsCell, cell_number}
use Rattle.tb_places.proofs.Cells.{cell_number_apart}
use Rattle.tb_places.proofs.Rows.{same_indexes}
use Rattle.tb_geometry.specs.declared.painting.CellRange.{CellRange}
use Rattle.tb_geometry.specs.Painting.{FitsIn, HasCell, InRows, IsWritten, IsPainted}
use Rattle.tb_places.specs.Places.{place_at}
use Rattle.tb_places.specs.Ranges.{IsWithin}

-- ---- what is in a set is known
abbrev Known : Type 0 → Type 0
Known A = A ⊎ (¬ A)

within_known : (low high i : ℕ) → Known (IsWithin low high i)
within_known low high i =
    ⊎_elim (λ (under : i < low). inr (λ w. let from : low ≤ i = w.from in omega arith))
    (λ (from : low ≤ i). ⊎_elim (λ (below : i < high). inl (record { from = from; below = below }))
    (λ (over : high ≤ i). inr (λ w. let below : i < high = w.below in omega arith)) (cases_lt i high))
    (cases_lt i low)

same_known : (i j : ℕ) → Known (i ≡ j)
same_known i j =
    ⊎_elim inl (λ apart. inr (λ (same : i ≡ j). ⊎_elim (λ (less : i < j). omega arith) (λ (more : j < i). omega arith) apart)) (cases_order i j)

pub cell_known : (r : CellRange) (p : Place) → Known (HasCell r p)
cell_known r p =
    ⊎_elim (λ x. ⊎_elim (λ y. ⊎_elim (λ z. inl (record { on_x = x; on_y = y; on_z = z }))
    (λ no. inr (λ h. no h.on_z)) (within_known r.from.k r.to.k p.k))
    (λ no. inr (λ h. no h.on_y)) (within_known r.from.j r.to.j p.j))
    (λ no. inr (λ h. no h.on_x)) (within_known r.from.i r.to.i p.i)

-- ---- one set after another
painted_both : (n : Counts) (P Q R : Place → Type 0) (value : ℕ) (old mid new : List ℕ) →
    ((p : Place) → R p → P p ⊎ Q p) → ((p : Place) → P p → R p) → ((p : Place) → Q p → R p) → ((p : Place) → Known (Q p)) →
    IsPainted n P value old mid → IsPainted n Q value mid new → IsPainted n R value old new
painted_both n P Q R value old mid new either first second known before after =
    record {
      same_length = after.same_length ∙ before.same_length;
      hit = λ p cell in_r. ⊎_elim (λ in_q. after.hit p cell in_q)
          (λ not_q. after.miss p cell not_q ∙ before.hit p cell (⊎_elim (λ in_p. in_p) (λ in_q. absurd (not_q in_q)) (either p in_r)))
          (known p);
      miss = λ p cell not_r. after.miss p cell (λ in_q. not_r (second p in_q)) ∙ before.miss p cell (λ in_p. not_r (first p in_p));
    }

-- ---- a row
record InRow (r : CellRange) (j k : ℕ) (p : Place) : Type 0 where
  on_x : IsWithin r.from.i r.to.i p.i
  row : p.j ≡ j
  layer : p.k ≡ k

row_known : (r : CellRange) (j k : ℕ) (p : Place) → Known (InRow r j k p)
row_known r j k p =
    ⊎_elim (λ x. ⊎_elim (λ y. ⊎_elim (λ z. inl (record { on_x = x; row = y; layer = z }))
    (λ no. inr (λ h. no h.layer)) (same_known p.k k))
    (λ no. inr (λ h. no h.row)) (same_known p.j j))
    (λ no. inr (λ h. no h.on_x)) (within_known r.from.i r.to.i p.i)

-- the number of a cell of the row
row_number : (n : Counts) (r : CellRange) (j k : ℕ) (p : Place) → InRow r j k p →
    cell_number n p ≡ cell_number n (place_at r.from.i j k) + (p.i - r.from.i)
row_number n r j k p row =
    let from : r.from.i ≤ p.i = row.on_x.from in
    let at : cell_number n p ≡ cell_number n (place_at p.i j k) =
    ap (λ (m : ℕ). cell_number n (place_at p.i m p.k)) row.row ∙ ap (λ (m : ℕ). cell_number n (place_at p.i j m)) row.layer in
    at ∙ (omega arith)

-- a cell with a number of the row is in it
row_cell : (n : Counts) (r : CellRange) (j k : ℕ) (p : Place) → FitsIn n r → j < n Y → k < n Z → IsCell n p →
    cell_number n (place_at r.from.i j k) ≤ cell_number n p → cell_number n p < cell_number n (place_at r.from.i j k) + (r.to.i - r.from.i) →
    InRow r j k p
row_cell n r j k p fits on_y on_z cell from below =
    let end : r.to.i ≤ n X = fits.end_x in
    let some : r.from.i < r.to.i = fits.some_x in
    let i : ℕ = r.from.i + (cell_number n p - cell_number n (place_at r.from.i j k)) in
    let inside : i < r.to.i = omega arith in
    let number : cell_number n p ≡ cell_number n (place_at i j k) = omega arith in
    let same = same_indexes p (place_at i j k) (cell_number_apart n p (place_at i j k) cell (omega arith, on_y, on_z) number) in
    let at : p.i ≡ i = same.0 in
    record { on_x = record { from = omega arith; below = omega arith }; row = same.1; layer = same.2 }

row_painted : (n : Counts) (r : CellRange) (j k value : ℕ) (old new : List ℕ) → FitsIn n r → j < n Y → k < n Z →
    IsWritten (cell_number n (place_at r.from.i j k)) (cell_number n (place_at r.from.i j k) + (r.to.i - r.from.i)) value old new → IsPainted n (InRow r j k) value old new
row_painted n r j k value old new fits on_y on_z filled =
    record {
      same_length = filled.same_length;
      hit = λ p cell row.
          let number : cell_number n p ≡ cell_number n (place_at r.from.i j k) + (p.i - r.from.i) = row_number n r j k p row in
          let from : r.from.i ≤ p.i = row.on_x.from in
          let below : p.i < r.to.i = row.on_x.below in
          filled.hit (cell_number n p) (omega arith) (omega arith);
      miss = λ p cell not_row.
          ⊎_elim (filled.low (cell_number n p))
          (λ (from : cell_number n (place_at r.from.i j k) ≤ cell_number n p).
          ⊎_elim (λ below. absurd (not_row (row_cell n r j k p fits on_y on_z cell from below)))
          (filled.high (cell_number n p))
          (cases_lt (cell_number n p) (cell_number n (place_at r.from.i j k) + (r.to.i - r.from.i))))
          (cases_lt (cell_number n p) (cell_number n (place_at r.from.i j k)));
    }

-- ---- rows make a layer
pub one_row_more : (n : Counts) (r : CellRange) (j k value : ℕ) (old mid new : List ℕ) → FitsIn n r → r.from.j ≤ j → j < r.to.j → k < n Z →
    IsPainted n (InRows r j k) value old mid →
    IsWritten (cell_number n (place_at r.from.i j k)) (cell_number n (place_at r.from.i j k) + (r.to.i - r.from.i)) value mid new →
    IsPainted n (InRows r (j + 1) k) value old new
one_row_more n r j k value old mid new fits from below on_z before filled =
    let end : r.to.j ≤ n Y = fits.end_y in
    painted_both n (InRows r j k) (InRow r j k) (InRows r (j + 1) k) value old mid new
    (λ p rows.
    let low : r.from.j ≤ p.j = rows.on_y.from in
    let high : p.j < j + 1 = rows.on_y.below in
    ⊎_elim (λ (early : p.j < j). inl (record { on_x = rows.on_x; on_y = record { from = low; below = early }; layer = rows.layer }))
    (λ (late : j ≤ p.j). inr (record { on_x = rows.on_x; row = omega arith; layer = rows.layer }))
    (cases_lt p.j j))
    (λ p rows.
    let high : p.j < j = rows.on_y.below in
    record { on_x = rows.on_x; on_y = record { from = rows.on_y.from; below = omega arith }; layer = rows.layer })
    (λ p row.
    let at : p.j ≡ j = row.row in
    record { on_x = row.on_x; on_y = record { from = omega arith; below = omega arith }; layer = row.layer })
    (row_known r j k)
    before
    (row_painted n r j k value mid new fits (omega arith) on_z filled)
