-- Cells beside one another, by their numbers and by their places.
use Rattle.std.proofs.Common.{◌≡◌, inl, inr, ℕ, ◌<◌, List, Bool, true, sym, ap, ◌∙◌}
use Rattle.tb_places.specs.declared.AxisName.{AxisName}
use Rattle.tb_places.specs.declared.Place.{Place}
use Rattle.tb_places.specs.Inverse.{cell_place}
use Rattle.tb_places.specs.Places.{Counts, IsCell, cell_count, cell_number}
use Rattle.tb_places.proofs.Cells.{cell_number_below, cell_number_of_place, cell_place_of_number, cell_place_within}
use Rattle.tb_places.specs.Along.{ahead}
use Rattle.tb_grid.specs.declared.ids.CellId.{CellId}
use Rattle.tb_walk.specs.Paths.{SharesFace}
use Rattle.tb_walk.specs.Marks.{IsMarked, HasOpening, ReachesOpening, flag_at}
use Rattle.tb_walk.specs.Spreading.{AreNeighbours, flag}
use Rattle.tb_walk.proofs.Sets.{further_out, shares_back}
use Rattle.tb_walk.proofs.Visits.{MayVisit}

pub flag_of_place : (n : Counts) (flags : List Bool) (c : ℕ) → flag_at n flags (cell_place n c) ≡ flag flags c
flag_of_place n flags c = ap (λ (m : ℕ). flag flags m) (cell_number_of_place n c)

pub neighbours_below : (n : Counts) (a : AxisName) (c d : ℕ) → AreNeighbours n a c d → (c < cell_count n) × (d < cell_count n)
neighbours_below n a c d (inl next) = (next.second, next.first)
neighbours_below n a c d (inr next) = (next.first, next.second)

pub neighbours_share : (n : Counts) (a : AxisName) (c d : ℕ) → AreNeighbours n a c d → SharesFace (cell_place n c) (cell_place n d)
neighbours_share n a c d (inl next) = (a, inr next.next)
neighbours_share n a c d (inr next) = (a, inl next.next)

pub share_is_neighbours : (n : Counts) (p q : Place) → IsCell n p → IsCell n q → SharesFace p q →
    (a : AxisName) × AreNeighbours n a (cell_number n p) (cell_number n q)
share_is_neighbours n p q p_in q_in (a, inl next) = (
  a,
  inr (record {
    first = cell_number_below n p p_in;
    second = cell_number_below n q q_in;
    next = ap (ahead a 1) (cell_place_of_number n p p_in) ∙ next ∙ sym (cell_place_of_number n q q_in);
  }),
)
share_is_neighbours n p q p_in q_in (a, inr next) = (
  a,
  inl (record {
    first = cell_number_below n q q_in;
    second = cell_number_below n p p_in;
    next = ap (ahead a 1) (cell_place_of_number n q q_in) ∙ next ∙ sym (cell_place_of_number n p p_in);
  }),
)

-- a way out of a cell is one out of its marked neighbours
further : (n : Counts) (marked : List Bool) (a : AxisName) (c d : ℕ) → AreNeighbours n a c d → flag marked c ≡ true →
    ReachesOpening n marked (cell_place n c) → ReachesOpening n marked (cell_place n d)
further n marked a c d beside is_marked way =
    let below = neighbours_below n a c d beside in
    further_out (IsMarked n marked) (HasOpening n marked) (cell_place n d) (cell_place n c) (shares_back _ _ (neighbours_share n a c d beside))
    (cell_place_within n c below.0, flag_of_place n marked c ∙ is_marked) way

pub may_visit : (n : Counts) (marked : List Bool) (a : AxisName) (c : ℕ) (x : CellId) → AreNeighbours n a c x.0 →
    (flag marked c ≡ true) × ReachesOpening n marked (cell_place n c) → MayVisit n marked x
may_visit n marked a c x beside here = record {
  within = (neighbours_below n a c x.0 beside).1;
  reaches = λ t. further n marked a c x.0 beside here.0 here.1;
}
