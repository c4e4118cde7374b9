-- A set of cells of a grid told by a flag a cell, in the order of the numbers of cells.
use Rattle.std.specs.Prelude.{◌≡◌, ◌↔◌, List, Bool, true, false, length, slice_index_or}
use Rattle.tb_places.specs.declared.Place.{Place}
use Rattle.tb_places.specs.Places.{Counts, IsCell, cell_count, cell_number}
use Rattle.tb_walk.specs.Paths.{SharesFace, Reaches, AllReach, IsEnclosed, IsFirstEnclosed}

-- the flag of a cell, by its place
abbrev pub flag_at : Counts → List Bool → Place → Bool
flag_at n flags p = slice_index_or flags (cell_number n p) false

-- a cell of the grid whose flag is set
abbrev pub IsMarked : Counts → List Bool → Place → Type 0
IsMarked n flags p = IsCell n p × (flag_at n flags p ≡ true)

-- a cell shares a face with a cell of the grid whose flag isn't set
pub record HasOpening (n : Counts) (flags : List Bool) (p : Place) : Type 0 where
  pub beyond : Place
  pub in_grid : IsCell n beyond
  pub shared : SharesFace p beyond
  pub unmarked : flag_at n flags beyond ≡ false

-- through marked cells a path leads to one with an opening
abbrev pub ReachesOpening : Counts → List Bool → Place → Type 0
ReachesOpening n flags = Reaches (IsMarked n flags) (HasOpening n flags)

-- each marked cell reaches an opening
abbrev pub AllReachOpenings : Counts → List Bool → Type 0
AllReachOpenings n flags = AllReach (IsMarked n flags) (HasOpening n flags)

-- a marked cell that doesn't, and the first of them
abbrev pub IsWithoutOpening : Counts → List Bool → Place → Type 0
IsWithoutOpening n flags = IsEnclosed (IsMarked n flags) (HasOpening n flags)

abbrev pub IsFirstWithoutOpening : Counts → List Bool → Place → Type 0
IsFirstWithoutOpening n flags = IsFirstEnclosed n (IsMarked n flags) (HasOpening n flags)

-- the second flags are set for just those marked cells that reach an opening
pub record AreReached (n : Counts) (flags reached : List Bool) : Type 0 where
  pub same_length : length reached ≡ cell_count n
  pub exactly : (p : Place) → IsCell n p → (flag_at n reached p ≡ true) ↔ (IsMarked n flags p × ReachesOpening n flags p)
