-- Nodes and their numbers.
use Rattle.std.proofs.Common.{◌≡◌, ℕ, ◌+◌, ◌<◌, arith}
use Rattle.tb_places.specs.declared.AxisName.TheVariants.{X, Y, Z}
use Rattle.tb_places.specs.declared.Place.{Place}
use Rattle.tb_places.specs.Places.{Counts, IsNode, node_count, node_number}
use Rattle.tb_places.specs.Inverse.{node_place}
use Rattle.tb_places.proofs.Rows.{number_below, number_apart, place_of_number, number_of_place, place_within}

pub node_number_below : (n : Counts) (p : Place) → IsNode n p → node_number n p < node_count n
node_number_below n p (on_x, on_y, on_z) =
    number_below (n X + 1) (n Y + 1) (n Z + 1) p (omega arith) (omega arith) (omega arith)

-- two nodes with one number are one node
pub node_number_apart : (n : Counts) (p q : Place) → IsNode n p → IsNode n q → node_number n p ≡ node_number n q → p ≡ q
node_number_apart n p q first second same =
    number_apart (n X + 1) (n Y + 1) p q (omega arith) (omega arith) (omega arith) (omega arith) same

pub node_place_of_number : (n : Counts) (p : Place) → IsNode n p → node_place n (node_number n p) ≡ p
node_place_of_number n p (on_x, on_y, on_z) = place_of_number (n X + 1) (n Y + 1) p (omega arith) (omega arith)

pub node_number_of_place : (n : Counts) (m : ℕ) → node_number n (node_place n m) ≡ m
node_number_of_place n m = number_of_place (n X + 1) (n Y + 1) m

pub node_place_within : (n : Counts) (m : ℕ) → m < node_count n → IsNode n (node_place n m)
node_place_within n m below =
    let within = place_within (n X + 1) (n Y + 1) (n Z + 1) m below in
    (omega arith, omega arith, omega arith)
