-- Cells and their numbers.
use Rattle.std.proofs.Common.{◌≡◌, ℕ, ◌<◌}
use Rattle.tb_places.specs.declared.AxisName.TheVariants.{X, Y, Z}
use Rattle.tb_places.specs.declared.Place.{Place}
use Rattle.tb_places.specs.Places.{Counts, IsCell, cell_count, cell_number}
use Rattle.tb_places.specs.Inverse.{cell_place}
use Rattle.tb_places.proofs.Rows.{number_below, number_apart, place_of_number, number_of_place, place_within}

pub cell_number_below : (n : Counts) (p : Place) → IsCell n p → cell_number n p < cell_count n
cell_number_below n p (on_x, on_y, on_z) = number_below (n X) (n Y) (n Z) p on_x on_y on_z

-- two cells with one number are one cell
pub cell_number_apart : (n : Counts) (p q : Place) → IsCell n p → IsCell n q → cell_number n p ≡ cell_number n q → p ≡ q
cell_number_apart n p q first second same = number_apart (n X) (n Y) p q first.0 first.1 second.0 second.1 same

pub cell_place_of_number : (n : Counts) (p : Place) → IsCell n p → cell_place n (cell_number n p) ≡ p
cell_place_of_number n p (on_x, on_y, on_z) = place_of_number (n X) (n Y) p on_x on_y

pub cell_number_of_place : (n : Counts) (c : ℕ) → cell_number n (cell_place n c) ≡ c
cell_number_of_place n c = number_of_place (n X) (n Y) c

pub cell_place_within : (n : Counts) (c : ℕ) → c < cell_count n → IsCell n (cell_place n c)
cell_place_within n c below = place_within (n X) (n Y) (n Z) c below
