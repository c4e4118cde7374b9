-- Openings, and the start of the walk at them.
use Rattle.std.proofs.Common.{◌≡◌, ℕ, ◌+◌, ◌<◌, ◌≤◌, List, [], Some, Bool, true, arith, refl, subst, ◌∙◌, ⊎_elim}
use Rattle.std.specs.Prelude.{◌↔◌, IsTrue}
use Rattle.std.proofs.lemmas.Bool.{cases_lt}
use Rattle.tb_places.specs.declared.AxisName.{AxisName}
use Rattle.tb_places.specs.declared.AxisName.TheVariants.{X, Y, Z}
use Rattle.tb_places.specs.declared.Place.{Place}
use Rattle.tb_places.specs.Inverse.{cell_place}
use Rattle.tb_places.specs.Places.{Counts, cell_count, cell_number}
use Rattle.tb_places.proofs.Cells.{cell_number_of_place, cell_place_within}
use Rattle.tb_grid.specs.Views.{along_axes}
use Rattle.tb_grid.specs.declared.counts.CellCounts.{CellCounts}
use Rattle.tb_grid.specs.declared.ids.CellId.{CellId}
use Rattle.tb_walk.specs.Marks.{HasOpening}
use Rattle.tb_walk.specs.Spreading.{HasOpeningAlong, AreNeighbours, IsWalk, Visits, flag}
use Rattle.tb_walk.proofs.Visits.{IsVisited, MayVisit, visited}
use Rattle.tb_walk.proofs.Beside.{flag_of_place, neighbours_below, neighbours_share, share_is_neighbours}

pub opening_along : (n : Counts) (marked : List Bool) (c : ℕ) (a : AxisName) → HasOpeningAlong n marked c a → HasOpening n marked (cell_place n c)
opening_along n marked c a opening =
    let below = neighbours_below n a c opening.beyond opening.beside in record {
      beyond = cell_place n opening.beyond;
      in_grid = cell_place_within n opening.beyond below.1;
      shared = neighbours_share n a c opening.beyond opening.beside;
      unmarked = flag_of_place n marked opening.beyond ∙ opening.unmarked;
    }

along_opening : (n : Counts) (marked : List Bool) (c : ℕ) → c < cell_count n → HasOpening n marked (cell_place n c) →
    (a : AxisName) × HasOpeningAlong n marked c a
along_opening n marked c below opening =
    let q : Place = opening.beyond in
    let beside = share_is_neighbours n (cell_place n c) q (cell_place_within n c below) opening.in_grid opening.shared in (
      beside.0,
      record {
        beyond = cell_number n q;
        beside = subst (λ (m : ℕ). AreNeighbours n beside.0 m (cell_number n q)) (cell_number_of_place n c) beside.1;
        unmarked = opening.unmarked;
      },
    )

pub last_axis : (n : Counts) (marked : List Bool) (c : ℕ) → c < cell_count n → (¬ HasOpeningAlong n marked c X) →
    (¬ HasOpeningAlong n marked c Y) → HasOpening n marked (cell_place n c) → HasOpeningAlong n marked c Z
last_axis n marked c below not_x not_y opening = on_axis (along_opening n marked c below opening)
  where
    on_axis : (a : AxisName) × HasOpeningAlong n marked c a → HasOpeningAlong n marked c Z
    on_axis (X, here) = absurd (not_x here)
    on_axis (Y, here) = absurd (not_y here)
    on_axis (Z, here) = here

-- where the cell at hand is the cell x of a grid with these counts
pub opening_at : (counts counts' : CellCounts) (x x' : CellId) (marked : List Bool) (opens : Bool) → counts' ≡ counts → x' ≡ x →
    (IsTrue opens ↔ HasOpening (along_axes counts') marked (cell_place (along_axes counts') x'.0)) → IsTrue opens ↔ HasOpening (along_axes counts) marked (cell_place (along_axes counts) x.0)
opening_at counts counts' x x' marked opens same_counts same_cell is =
    subst (λ (k : CellCounts). IsTrue opens ↔ HasOpening (along_axes k) marked (cell_place (along_axes k) x.0)) same_counts
    (subst (λ (y : CellId). IsTrue opens ↔ HasOpening (along_axes counts') marked (cell_place (along_axes counts') y.0)) same_cell is)

-- ---- one more cell is begun with

-- one more cell is begun with
pub begun_more : (n : Counts) (marked : List Bool) (c k : ℕ) (reached : List Bool) (work : List CellId) →
    IsWalk n marked c k reached work → (flag marked k ≡ true → HasOpening n marked (cell_place n k) → flag reached k ≡ true) →
    IsWalk n marked c (k + 1) reached work
begun_more n marked c k reached work walk here = record {
  same_length = walk.same_length;
  sound = walk.sound;
  begun = λ d below. ⊎_elim
      (λ (l : d < k). walk.begun d l)
      (λ (l : k ≤ d). let same : k ≡ d = omega arith in subst (λ (m : ℕ). flag marked m ≡ true → HasOpening n marked (cell_place n m) → flag reached m ≡ true) same here)
      (cases_lt d k);
  listed = walk.listed;
  spread = walk.spread;
}

pub begun_with : (n : Counts) (marked : List Bool) (c : ℕ) (x : CellId) (reached : List Bool) (work : List CellId) (reached' : List Bool) (work' : List CellId) →
    x.0 < cell_count n → HasOpening n marked (cell_place n x.0) → IsWalk n marked c x.0 reached work →
    Visits marked (Some x) reached work reached' work' → IsWalk n marked c (x.0 + 1) reached' work'
begun_with n marked c x reached work reached' work' below opening walk visits =
    let after : IsVisited n marked c x.0 (Some x) reached work reached' work' = visited n marked c x.0 (Some x) reached work reached' work' walk
    (λ y same. let e : x ≡ y = cc same in subst (λ (z : CellId). MayVisit n marked z) e (record {
      within = below;
      reaches = λ t. record { path = []; exit = cell_place n x.0; leads = refl; is_open = opening };
    })) visits in
    begun_more n marked c x.0 reached' work' after.walk (λ t u. after.here x refl t)
