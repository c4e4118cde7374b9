-- How marks spread over a set of cells: the state of the walk, by the numbers of cells.
use Rattle.std.specs.Prelude.{◌≡◌, ◌≢◌, ◌⊎◌, ℕ, ◌+◌, ◌<◌, ◌≤◌, List, [], ◌∷◌, ◌++◌, length, Contains, Option, Some, None, Bool, true, false, if◌then◌else◌, slice_index_or, slice_set, sum_by}
use Rattle.tb_places.specs.declared.AxisName.{AxisName}
use Rattle.tb_places.specs.Inverse.{cell_place}
use Rattle.tb_places.specs.Places.{Counts, cell_count}
use Rattle.tb_grid.specs.declared.ids.CellId.{CellId}
use Rattle.tb_places.specs.Along.{ahead}
use Rattle.tb_walk.specs.Marks.{HasOpening, ReachesOpening}

-- cell d is the next of cell c along an axis
pub record IsNextCell (n : Counts) (a : AxisName) (c d : ℕ) : Type 0 where
  pub first : c < cell_count n
  pub second : d < cell_count n
  pub next : ahead a 1 (cell_place n c) ≡ cell_place n d

-- cell d comes before or behind cell c along an axis
abbrev pub AreNeighbours : Counts → AxisName → ℕ → ℕ → Type 0
AreNeighbours n a c d = IsNextCell n a d c ⊎ IsNextCell n a c d

-- the flag of a cell, by its number
abbrev pub flag : List Bool → ℕ → Bool
flag flags c = slice_index_or flags c false

-- cell c has an opening along an axis
pub record HasOpeningAlong (n : Counts) (marked : List Bool) (c : ℕ) (a : AxisName) : Type 0 where
  pub beyond : ℕ
  pub beside : AreNeighbours n a c beyond
  pub unmarked : flag marked beyond ≡ false

-- each marked neighbour of cell c along an axis is reached, and along all axes
abbrev pub IsSpreadAlong : Counts → List Bool → List Bool → ℕ → AxisName → Type 0
IsSpreadAlong n marked reached c a = (d : ℕ) → AreNeighbours n a c d → flag marked d ≡ true → flag reached d ≡ true

abbrev pub IsSpread : Counts → List Bool → List Bool → ℕ → Type 0
IsSpread n marked reached c = (a : AxisName) → IsSpreadAlong n marked reached c a

-- how many flags aren't set
abbrev pub unset_count : List Bool → ℕ
unset_count flags = sum_by (λ is_set. if is_set then 0 else 1) flags

-- a visit of a cell, if there is one: where it is marked and wasn't reached, it is reached and put on the list of work
abbrev pub Visits : List Bool → Option CellId → List Bool → List CellId → List Bool → List CellId → Type 0
Visits marked None reached work reached' work' = (reached' ≡ reached) × (work' ≡ work)
Visits marked (Some c) reached work reached' work' =
    (((flag marked c.0 ≡ false) ⊎ (flag reached c.0 ≡ true)) × (reached' ≡ reached) × (work' ≡ work))
    ⊎ ((flag marked c.0 ≡ true) × (flag reached c.0 ≡ false) × (reached' ≡ slice_set reached c.0 true) × (work' ≡ work ++ c ∷ []))

-- The state of the walk. Each reached cell reaches an opening; the cells with an opening among the first k are reached,
-- and so are the marked neighbours of each reached cell that is neither on the list of work nor in hand, as c is.
pub record IsWalk (n : Counts) (marked : List Bool) (c k : ℕ) (reached : List Bool) (work : List CellId) : Type 0 where
  pub same_length : length reached ≡ cell_count n
  pub sound : (d : ℕ) → flag reached d ≡ true → (flag marked d ≡ true) × ReachesOpening n marked (cell_place n d)
  pub begun : (d : ℕ) → d < k → flag marked d ≡ true → HasOpening n marked (cell_place n d) → flag reached d ≡ true
  pub listed : (d : CellId) → Contains work d → flag reached d.0 ≡ true
  pub spread : (d : CellId) → flag reached d.0 ≡ true → d.0 ≢ c → Contains work d ⊎ IsSpread n marked reached d.0

-- a step of the walk: reached cells stay reached, and each that is put on the list of work is newly reached
pub record IsStep (reached : List Bool) (work : List CellId) (reached' : List Bool) (work' : List CellId) : Type 0 where
  pub more : (d : ℕ) → flag reached d ≡ true → flag reached' d ≡ true
  pub falls : unset_count reached' + length work' ≤ unset_count reached + length work

-- a step that leaves each marked neighbour of the cell in hand along an axis reached
pub record IsStepAlong (n : Counts) (marked : List Bool) (c : ℕ) (a : AxisName) (reached : List Bool) (work : List CellId) (reached' : List Bool) (work' : List CellId) : Type 0 where
  pub walk : IsWalk n marked c (cell_count n) reached' work'
  pub step : IsStep reached work reached' work'
  pub spread : IsSpreadAlong n marked reached' c a
