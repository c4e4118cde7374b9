-- What the steps towards a body answer.
use Rattle.std.specs.Prelude.{ℕ, ◌≡◌, ◌<◌, ◌≤◌, List, Result, Ok, Err, Vec}
use Rattle.std.specs.Global.{Global}
use Rattle.tb_places.specs.Places.{cell_count}
use Rattle.tb_detail.specs.declared.Detail.{Detail}
use Rattle.tb_detail.specs.declared.SpaceBox.{SpaceBox}
use Rattle.tb_walk.specs.Isolated.{NoneIsolated}
use Rattle.tb_grid.specs.Grid.{Axes, most_cells}
use Rattle.tb_geometry.specs.declared.fault.BodyFault.TheVariants.{Isolated, TooManyCells, Uncovered}
use Rattle.tb_geometry.specs.declared.fault.BodyRefusal.{BodyRefusal}
use Rattle.tb_geometry.specs.declared.fault.BodyRefusal.TheVariants.{Fault, NoMemory}
use Rattle.tb_geometry.specs.Base.{base_axes, IsFirstUncovered, base_counts, base_mesh}
use Rattle.tb_geometry.specs.Bodies.{HasHolders}
use Rattle.tb_geometry.specs.Cubes.{IsCovered}
use Rattle.tb_geometry.specs.Faults.{IsIsolatedAt}

-- the base grid, or the fault that it has too many cells
abbrev pub HasGrid : List SpaceBox → Result Axes BodyRefusal → Type 0
HasGrid boxes (Ok grid) = (grid ≡ base_axes boxes) × (cell_count (base_counts boxes) ≤ most_cells)
HasGrid boxes (Err (Fault fault)) = (fault ≡ TooManyCells (cell_count (base_counts boxes))) × (most_cells < cell_count (base_counts boxes))
HasGrid boxes (Err NoMemory) = Unit {0}

-- the table of the boxes that hold the base cells, or the fault that one is in no box
abbrev pub Covers : List SpaceBox → Result (Vec ℕ Global) BodyRefusal → Type 0
Covers boxes (Ok table) = HasHolders boxes table.items × IsCovered boxes
Covers boxes (Err (Fault fault)) = (x y z : ℕ) × (fault ≡ Uncovered x y z) × IsFirstUncovered boxes x y z
Covers boxes (Err NoMemory) = Unit {0}

-- each solid base cell reaches a surface, or the fault that one doesn't
abbrev pub Links : Detail → Result (Unit {0}) BodyRefusal → Type 0
Links d (Ok done) = NoneIsolated (base_mesh d)
Links d (Err (Fault fault)) = (x y z : ℕ) × (fault ≡ Isolated x y z) × IsIsolatedAt d x y z
Links d (Err NoMemory) = Unit {0}
