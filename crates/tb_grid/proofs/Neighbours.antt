-- The next cell along an axis, by its number.
use Rattle.std.proofs.Common.{◌≡◌, ℕ, ◌+◌, ◌<◌, subst, sym, ap, ◌∙◌}
use Rattle.tb_places.specs.declared.AxisName.{AxisName}
use Rattle.tb_places.specs.Along.{cell_stride}
use Rattle.tb_places.specs.declared.Place.{Place}
use Rattle.tb_places.specs.Inverse.{cell_place}
use Rattle.tb_places.specs.Places.{Counts, cell_count, cell_number}
use Rattle.tb_places.proofs.Cells.{cell_number_below, cell_number_of_place, cell_place_of_number, cell_place_within}
use Rattle.tb_places.specs.Along.{ahead, index_along}
use Rattle.tb_places.specs.Places.{face_number}
use Rattle.tb_places.proofs.Meeting.{next_cell}
use Rattle.tb_places.proofs.Steps.{cell_step}
use Rattle.tb_grid.specs.Direction.{low_face_of, high_face_of}

number_of_next : (n : Counts) (a : AxisName) (c : ℕ) →
    cell_number n (ahead a 1 (cell_place n c)) ≡ c + cell_stride n a
number_of_next n a c =
    cell_step n a (cell_place n c) ∙ ap (λ (m : ℕ). m + cell_stride n a) (cell_number_of_place n c)

pub next_below : (n : Counts) (a : AxisName) (c : ℕ) → c < cell_count n → index_along a (cell_place n c) + 1 < n a →
    c + cell_stride n a < cell_count n
next_below n a c below before =
    let within = next_cell n a (cell_place n c) (cell_place_within n c below) before in
    subst (λ (m : ℕ). m < cell_count n) (number_of_next n a c) (cell_number_below n _ within)

pub next_place : (n : Counts) (a : AxisName) (c : ℕ) → c < cell_count n → index_along a (cell_place n c) + 1 < n a →
    cell_place n (c + cell_stride n a) ≡ ahead a 1 (cell_place n c)
next_place n a c below before =
    let within = next_cell n a (cell_place n c) (cell_place_within n c below) before in
    ap (λ (m : ℕ). cell_place n m) (sym (number_of_next n a c)) ∙ cell_place_of_number n _ within

pub shared_face : (n : Counts) (a : AxisName) (c : ℕ) → c < cell_count n → index_along a (cell_place n c) + 1 < n a →
    high_face_of n a c ≡ low_face_of n a (c + cell_stride n a)
shared_face n a c below before = ap (λ (p : Place). face_number n a p) (sym (next_place n a c below before))
