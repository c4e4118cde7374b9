-- The four edges of a cell along an axis, and the nodes that they join.
use Rattle.std.proofs.Common.{◌≡◌, ℕ, ◌+◌, ◌-◌, ◌*◌, ◌/◌, ◌%◌, ◌<◌, ◌≤◌, arith, refl, sym, ap, ◌∙◌}
use Rattle.std.proofs.lemmas.Nat.{mod_below, div_below, mod-mul-add, div-mul-add, div-add-mod'}
use Rattle.tb_places.specs.declared.AxisName.{AxisName}
use Rattle.tb_places.specs.declared.AxisName.TheVariants.{X, Y, Z}
use Rattle.tb_places.specs.declared.Place.{Place}
use Rattle.tb_places.specs.Places.{Counts, IsCell, IsNode, IsEdge}
use Rattle.tb_places.proofs.Meeting.{edge_of_cell, end_of_edge}
use Rattle.tb_places.proofs.Rows.{same_place, same_indexes}
use Rattle.tb_grid.specs.Direction.{IsEdgeOf}
use Rattle.tb_places.specs.Along.{ahead, corner_edge}

-- the two sides of a corner
pub sides : (corner : ℕ) → corner < 4 → (corner % 2 ≤ 1) × (corner / 2 ≤ 1)
sides corner below =
    let p : corner % 2 < 2 = mod_below corner 2 (omega arith) in
    let q : corner / 2 < 2 = div_below corner 2 2 (omega arith) (omega arith) in
    (omega arith, omega arith)

-- a corner of a cell is an edge of the grid
pub corner_is_edge : (n : Counts) (a : AxisName) (cell : Place) (corner : ℕ) → IsCell n cell → corner < 4 →
    IsEdge n a (corner_edge a corner cell)
corner_is_edge n a cell corner within below =
    let s = sides corner below in edge_of_cell n a cell (corner % 2) (corner / 2) within s.0 s.1

-- and its ends are nodes
pub edge_starts : (n : Counts) (a : AxisName) (e : Place) → IsEdge n a e → IsNode n e
edge_starts n X e within = (omega arith, omega arith, omega arith)
edge_starts n Y e within = (omega arith, omega arith, omega arith)
edge_starts n Z e within = (omega arith, omega arith, omega arith)

pub edge_ends : (n : Counts) (a : AxisName) (e : Place) → IsEdge n a e → IsNode n (ahead a 1 e)
edge_ends n a e within = end_of_edge n a e 1 within (omega arith)

-- ---- the corners are exactly the edges of the cell along the axis

pub corner_of_cell : (a : AxisName) (cell : Place) (corner : ℕ) → corner < 4 → IsEdgeOf a cell (corner_edge a corner cell)
corner_of_cell X cell corner below =
    let s = sides corner below in record { interval = refl; second_line = (omega arith, omega arith); third_line = (omega arith, omega arith) }
corner_of_cell Y cell corner below =
    let s = sides corner below in record { interval = refl; second_line = (omega arith, omega arith); third_line = (omega arith, omega arith) }
corner_of_cell Z cell corner below =
    let s = sides corner below in record { interval = refl; second_line = (omega arith, omega arith); third_line = (omega arith, omega arith) }

corner_parts : (p q : ℕ) → p ≤ 1 → q ≤ 1 → ((p + 2 * q) % 2 ≡ p) × ((p + 2 * q) / 2 ≡ q) × (p + 2 * q < 4)
corner_parts p q p_one q_one =
    let split : p + 2 * q ≡ q * 2 + p = omega arith in
    let two : p < 2 = omega arith in (
      ap (λ (m : ℕ). m % 2) split ∙ mod-mul-add q 2 p two,
      ap (λ (m : ℕ). m / 2) split ∙ div-mul-add q 2 p two,
      omega arith,
    )

pub edge_has_corner : (a : AxisName) (cell edge : Place) → IsEdgeOf a cell edge →
    (corner : ℕ) × (corner < 4) × (corner_edge a corner cell ≡ edge)
edge_has_corner X cell edge is =
    let second = is.second_line in let third = is.third_line in
    let parts = corner_parts (edge.j - cell.j) (edge.k - cell.k) (omega arith) (omega arith) in
    (edge.j - cell.j + 2 * (edge.k - cell.k), parts.2, same_place _ edge (sym is.interval) (rw parts.0 (omega arith)) (rw parts.1 (omega arith)))
edge_has_corner Y cell edge is =
    let second = is.second_line in let third = is.third_line in
    let parts = corner_parts (edge.i - cell.i) (edge.k - cell.k) (omega arith) (omega arith) in
    (edge.i - cell.i + 2 * (edge.k - cell.k), parts.2, same_place _ edge (rw parts.0 (omega arith)) (sym is.interval) (rw parts.1 (omega arith)))
edge_has_corner Z cell edge is =
    let second = is.second_line in let third = is.third_line in
    let parts = corner_parts (edge.i - cell.i) (edge.j - cell.j) (omega arith) (omega arith) in
    (edge.i - cell.i + 2 * (edge.j - cell.j), parts.2, same_place _ edge (rw parts.0 (omega arith)) (rw parts.1 (omega arith)) (sym is.interval))

same_corner : (corner other : ℕ) → corner % 2 ≡ other % 2 → corner / 2 ≡ other / 2 → corner ≡ other
same_corner corner other same_p same_q =
    let one : corner / 2 * 2 + corner % 2 ≡ corner = div-add-mod' corner 2 in
    let two : other / 2 * 2 + other % 2 ≡ other = div-add-mod' other 2 in
    omega arith

pub corners_apart : (a : AxisName) (cell : Place) (corner other : ℕ) →
    corner_edge a corner cell ≡ corner_edge a other cell → corner ≡ other
corners_apart X cell corner other same =
    let indexes = same_indexes _ _ same in same_corner corner other (omega arith) (omega arith)
corners_apart Y cell corner other same =
    let indexes = same_indexes _ _ same in same_corner corner other (omega arith) (omega arith)
corners_apart Z cell corner other same =
    let indexes = same_indexes _ _ same in same_corner corner other (omega arith) (omega arith)
