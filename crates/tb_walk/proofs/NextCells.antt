-- The cell before a cell and the cell behind it along an axis, by their numbers.
use Rattle.std.proofs.Common.{◌≡◌, ℕ, ◌+◌, ◌-◌, ◌<◌, arith, refl, sym, ap, subst, ◌∙◌}
use Rattle.tb_places.specs.declared.AxisName.{AxisName}
use Rattle.tb_places.specs.declared.AxisName.TheVariants.{X, Y, Z}
use Rattle.tb_places.specs.Along.{cell_stride}
use Rattle.tb_places.specs.declared.Place.{Place}
use Rattle.tb_places.specs.Inverse.{cell_place}
use Rattle.tb_places.specs.Places.{Counts, IsCell, cell_count, cell_number, place_at}
use Rattle.tb_places.proofs.Cells.{cell_number_below, cell_number_of_place, cell_place_of_number, cell_place_within}
use Rattle.tb_places.proofs.Rows.{same_place}
use Rattle.tb_places.specs.Along.{ahead, index_along}
use Rattle.tb_places.proofs.Meeting.{cell_below_face, index_within, low_face_of_cell}
use Rattle.tb_places.proofs.Steps.{cell_step}
use Rattle.tb_grid.proofs.Neighbours.{next_below, next_place}
use Rattle.tb_walk.specs.Spreading.{IsNextCell}

-- the next cell is one stride further, so there is one at most
pub next_is_further : (n : Counts) (a : AxisName) (c d : ℕ) → IsNextCell n a c d → d ≡ c + cell_stride n a
next_is_further n a c d is =
    sym (cell_number_of_place n d) ∙ ap (cell_number n) (sym is.next) ∙ cell_step n a (cell_place n c)
    ∙ ap (λ (m : ℕ). m + cell_stride n a) (cell_number_of_place n c)

pub one_next : (n : Counts) (a : AxisName) (c d e : ℕ) → IsNextCell n a c d → IsNextCell n a c e → d ≡ e
one_next n a c d e first second = next_is_further n a c d first ∙ sym (next_is_further n a c e second)

pub one_before : (n : Counts) (a : AxisName) (c d e : ℕ) → IsNextCell n a d c → IsNextCell n a e c → d ≡ e
one_before n a c d e first second =
    let one = next_is_further n a d c first in
    let two = next_is_further n a e c second in
    omega arith

-- where the line goes on, the next cell is there
pub cell_after : (n : Counts) (a : AxisName) (c : ℕ) → c < cell_count n → index_along a (cell_place n c) + 1 < n a →
    IsNextCell n a c (c + cell_stride n a)
cell_after n a c below further = record { first = below; second = next_below n a c below further; next = sym (next_place n a c below further) }

-- and where the line doesn't begin, the one before

place_before : (a : AxisName) (p : Place) → 0 < index_along a p → (q : Place) × (ahead a 1 q ≡ p)
place_before X p later = (place_at (p.i - 1) p.j p.k, same_place _ p (omega arith) refl refl)
place_before Y p later = (place_at p.i (p.j - 1) p.k, same_place _ p refl (omega arith) refl)
place_before Z p later = (place_at p.i p.j (p.k - 1), same_place _ p refl refl (omega arith))

number_before : (n : Counts) (a : AxisName) (c : ℕ) (q : Place) → c < cell_count n → ahead a 1 q ≡ cell_place n c →
    (d : ℕ) × (d + cell_stride n a ≡ c) × IsNextCell n a d c
number_before n a c q below next =
    let cell : IsCell n (ahead a 1 q) = subst (IsCell n) (sym next) (cell_place_within n c below) in
    let within : IsCell n q = cell_below_face n a q (low_face_of_cell n a (ahead a 1 q) cell) in (
      cell_number n q,
      sym (cell_step n a q) ∙ ap (cell_number n) next ∙ cell_number_of_place n c,
      record {
        first = cell_number_below n q within;
        second = below;
        next = ap (ahead a 1) (cell_place_of_number n q within) ∙ next;
      },
    )

pub cell_before : (n : Counts) (a : AxisName) (c : ℕ) → c < cell_count n → 0 < index_along a (cell_place n c) →
    (d : ℕ) × (d + cell_stride n a ≡ c) × IsNextCell n a d c
cell_before n a c below later =
    let q = place_before a (cell_place n c) later in number_before n a c q.0 below q.1

-- ---- the same, for a cell whose place p is known

pub after_place : (n : Counts) (a : AxisName) (c : ℕ) (p : Place) → c < cell_count n → p ≡ cell_place n c →
    (index_along a p + 1 ≡ n a → ⊥) → IsNextCell n a c (c + cell_stride n a)
after_place n a c p below placed further =
    let within : index_along a (cell_place n c) < n a = index_within n a (cell_place n c) (cell_place_within n c below) in
    let same : index_along a p ≡ index_along a (cell_place n c) = ap (index_along a) placed in
    cell_after n a c below (omega arith)

pub before_place : (n : Counts) (a : AxisName) (c : ℕ) (p : Place) → c < cell_count n → p ≡ cell_place n c →
    (index_along a p ≡ 0 → ⊥) → (d : ℕ) × (d + cell_stride n a ≡ c) × IsNextCell n a d c
before_place n a c p below placed later =
    let same : index_along a p ≡ index_along a (cell_place n c) = ap (index_along a) placed in
    cell_before n a c below (omega arith)
