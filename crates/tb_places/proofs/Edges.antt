-- Edges and their numbers, for each axis by itself.
use Rattle.std.proofs.Common.{◌≡◌, ℕ, ◌+◌, ◌<◌, arith}
use Rattle.tb_places.specs.declared.AxisName.{AxisName}
use Rattle.tb_places.specs.declared.AxisName.TheVariants.{X, Y, Z}
use Rattle.tb_places.specs.declared.Place.{Place}
use Rattle.tb_places.specs.Places.{Counts, IsEdge, edge_count, edge_number}
use Rattle.tb_places.specs.Inverse.{edge_place}
use Rattle.tb_places.proofs.Rows.{number_below, number_apart, place_of_number, number_of_place, place_within}

pub edge_number_below : (n : Counts) (a : AxisName) (p : Place) → IsEdge n a p →
    edge_number n a p < edge_count n a
edge_number_below n X p (on_x, on_y, on_z) =
    number_below (n X) (n Y + 1) (n Z + 1) p on_x (omega arith) (omega arith)
edge_number_below n Y p (on_x, on_y, on_z) =
    number_below (n X + 1) (n Y) (n Z + 1) p (omega arith) on_y (omega arith)
edge_number_below n Z p (on_x, on_y, on_z) =
    number_below (n X + 1) (n Y + 1) (n Z) p (omega arith) (omega arith) on_z

-- two edges along one axis with one number are one edge
pub edge_number_apart : (n : Counts) (a : AxisName) (p q : Place) → IsEdge n a p → IsEdge n a q →
    edge_number n a p ≡ edge_number n a q → p ≡ q
edge_number_apart n X p q first second same =
    number_apart (n X) (n Y + 1) p q (omega arith) (omega arith) (omega arith) (omega arith) same
edge_number_apart n Y p q first second same =
    number_apart (n X + 1) (n Y) p q (omega arith) (omega arith) (omega arith) (omega arith) same
edge_number_apart n Z p q first second same =
    number_apart (n X + 1) (n Y + 1) p q (omega arith) (omega arith) (omega arith) (omega arith) same

pub edge_place_of_number : (n : Counts) (a : AxisName) (p : Place) → IsEdge n a p →
    edge_place n a (edge_number n a p) ≡ p
edge_place_of_number n X p (on_x, on_y, on_z) = place_of_number (n X) (n Y + 1) p on_x (omega arith)
edge_place_of_number n Y p (on_x, on_y, on_z) = place_of_number (n X + 1) (n Y) p (omega arith) on_y
edge_place_of_number n Z p (on_x, on_y, on_z) =
    place_of_number (n X + 1) (n Y + 1) p (omega arith) (omega arith)

pub edge_number_of_place : (n : Counts) (a : AxisName) (e : ℕ) →
    edge_number n a (edge_place n a e) ≡ e
edge_number_of_place n X e = number_of_place (n X) (n Y + 1) e
edge_number_of_place n Y e = number_of_place (n X + 1) (n Y) e
edge_number_of_place n Z e = number_of_place (n X + 1) (n Y + 1) e

pub edge_place_within : (n : Counts) (a : AxisName) (e : ℕ) → e < edge_count n a →
    IsEdge n a (edge_place n a e)
edge_place_within n X e below =
    let within = place_within (n X) (n Y + 1) (n Z + 1) e below in (omega arith, omega arith, omega arith)
edge_place_within n Y e below =
    let within = place_within (n X + 1) (n Y) (n Z + 1) e below in (omega arith, omega arith, omega arith)
edge_place_within n Z e below =
    let within = place_within (n X + 1) (n Y + 1) (n Z) e below in (omega arith, omega arith, omega arith)
