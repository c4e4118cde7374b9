-- The faults of a body, and which bodies are accepted.
--
-- A body is asked for several properties in turn. Its fault is the first that it lacks.
use Rattle.std.specs.Prelude.{ℕ, ◌≡◌, ◌<◌, ◌≤◌, length, Result, Ok, Err}
use Rattle.std.specs.List.{Any}
use Rattle.tb_detail.specs.declared.Content.TheVariants.{Solid}
use Rattle.tb_detail.specs.declared.SpaceBox.{SpaceBox}
use Rattle.tb_detail.specs.declared.Detail.{Detail}
use Rattle.tb_places.specs.declared.Place.{Place}
use Rattle.tb_places.specs.Places.{cell_count}
use Rattle.tb_walk.specs.Isolated.{IsFirstIsolated, NoneIsolated}
use Rattle.tb_grid.specs.Grid.{most_cells}
use Rattle.tb_geometry.specs.declared.fault.BodyFault.{BodyFault}
use Rattle.tb_geometry.specs.declared.fault.BodyFault.TheVariants.{TooFewEnvironments, NoSolid, TooManyCells, Overlap, Uncovered, Isolated}
use Rattle.tb_geometry.specs.declared.fault.BodyRefusal.{BodyRefusal}
use Rattle.tb_geometry.specs.declared.fault.BodyRefusal.TheVariants.{Fault, NoMemory}
use Rattle.tb_geometry.specs.Base.{IsFirstUncovered, IsLowCorner, base_counts, base_mesh}
use Rattle.tb_geometry.specs.Cubes.{AreApart, IsCovered, IsFirstOverlap}

-- a box is filled with a material
pub record IsSolidBox (b : SpaceBox) : Type 0 where
  pub material : ℕ
  pub fills : b.content ≡ Solid material

-- there are environments between which heat can flow
abbrev pub HasEnvironments : Detail → Type 0
HasEnvironments d = 2 ≤ length d.environments

-- there is a solid box
abbrev pub HasSolid : Detail → Type 0
HasSolid d = Any IsSolidBox d.boxes

-- the base grid isn't too large
abbrev pub HasFewCells : Detail → Type 0
HasFewCells d = cell_count (base_counts d.boxes) ≤ most_cells

-- the first solid base cell, by its number, from which no way through solid cells that share faces leads to a surface
-- has its low corner at (x,y,z)
pub record IsIsolatedAt (d : Detail) (x y z : ℕ) : Type 0 where
  pub cell : Place
  pub isolated : IsFirstIsolated (base_mesh d) cell
  pub corner : IsLowCorner d.boxes cell x y z

-- a body without a fault
pub record IsAccepted (d : Detail) : Type 0 where
  pub environments : HasEnvironments d
  pub solid : HasSolid d
  pub few_cells : HasFewCells d
  pub apart : AreApart d.boxes
  pub covered : IsCovered d.boxes
  pub linked : NoneIsolated (base_mesh d)

-- each fault: what holds before, and what doesn't
pub record IsShortOfEnvironments (d : Detail) : Type 0 where
  pub too_few : length d.environments < 2

pub record IsWithoutSolid (d : Detail) : Type 0 where
  pub environments : HasEnvironments d
  pub no_solid : ¬ HasSolid d

pub record HasTooManyCells (d : Detail) (n : ℕ) : Type 0 where
  pub environments : HasEnvironments d
  pub solid : HasSolid d
  pub count : n ≡ cell_count (base_counts d.boxes)
  pub too_many : most_cells < n

pub record HasOverlap (d : Detail) (i j : ℕ) : Type 0 where
  pub environments : HasEnvironments d
  pub solid : HasSolid d
  pub few_cells : HasFewCells d
  pub first : IsFirstOverlap d.boxes i j

pub record HasUncovered (d : Detail) (x y z : ℕ) : Type 0 where
  pub environments : HasEnvironments d
  pub solid : HasSolid d
  pub few_cells : HasFewCells d
  pub apart : AreApart d.boxes
  pub first : IsFirstUncovered d.boxes x y z

pub record HasIsolated (d : Detail) (x y z : ℕ) : Type 0 where
  pub environments : HasEnvironments d
  pub solid : HasSolid d
  pub few_cells : HasFewCells d
  pub apart : AreApart d.boxes
  pub covered : IsCovered d.boxes
  pub first : IsIsolatedAt d x y z

-- the fault of a body
abbrev pub HasFault : Detail → BodyFault → Type 0
HasFault d TooFewEnvironments = IsShortOfEnvironments d
HasFault d NoSolid = IsWithoutSolid d
HasFault d (TooManyCells n) = HasTooManyCells d n
HasFault d (Overlap i j) = HasOverlap d i j
HasFault d (Uncovered x y z) = HasUncovered d x y z
HasFault d (Isolated x y z) = HasIsolated d x y z

-- what is answered to a detail: its body, which contracts see as the detail, or its fault. Want of memory is free
abbrev pub Answers : Detail → Result Detail BodyRefusal → Type 0
Answers d (Ok body) = (body ≡ d) × IsAccepted d
Answers d (Err (Fault fault)) = HasFault d fault
Answers d (Err NoMemory) = Unit {0}
