-- A cell of a grid that carries a body lies in one base cell, and is filled as that is.
use Rattle.std.proofs.Common.{◌≡◌, ℕ, suc, ◌-◌, ◌*◌, ◌<◌, ◌≤◌, List, length, get_or, Option, Some, sym, ap, subst, ◌∙◌, arith}
use Rattle.std.specs.List.{Contains, slice_get}
use Rattle.std.specs.Option.{option_map}
use Rattle.std.proofs.lemmas.List.{get_or-map, length-map}
use Rattle.std.proofs.lemmas.List.Elements.{Contains-get_or}
use Rattle.std.proofs.lemmas.Option.{slice_get-get_or}
use Rattle.tb_places.specs.declared.AxisName.{AxisName}
use Rattle.tb_places.specs.declared.AxisName.TheVariants.{X, Y, Z}
use Rattle.tb_places.specs.declared.Place.{Place}
use Rattle.tb_places.specs.Places.{Counts, IsCell, cell_count, cell_number}
use Rattle.tb_places.proofs.Cells.{cell_number_below}
use Rattle.tb_detail.specs.declared.SpaceBox.{SpaceBox}
use Rattle.tb_detail.specs.declared.Detail.{Detail}
use Rattle.tb_grid.specs.Axis.{IsBetweenEnds, IsIntervalOf, interval_count}
use Rattle.tb_places.specs.Along.{index_along}
use Rattle.tb_grid.specs.Grid.{Axes, counts_of, lines_of}
use Rattle.tb_model.specs.Refinement.{high, low}
use Rattle.tb_geometry.specs.Base.{HasCube, IsBaseCell, base_axes, base_counts, base_lines, base_number}
use Rattle.tb_geometry.specs.Bodies.{Keeps, filled_with, holder, no_box, occupant_of}
use Rattle.tb_geometry.specs.Grids.{CarriesBody, LiesInBaseCell, low_side, occupant_at}
use Rattle.tb_geometry.specs.declared.occupant.Occupant.{Occupant}
use Rattle.tb_geometry.proofs.Carrying.{first_is_least, last_is_greatest, spans_along}
use Rattle.tb_geometry.proofs.Coordinates.{high_line, low_line}
use Rattle.tb_geometry.proofs.Covers.{base_cell_of_cube, cube_from_corner}
use Rattle.tb_grid.proofs.RisingLists.{rises}
use Rattle.tb_geometry.proofs.Lines.{base_rises}
use Rattle.tb_geometry.proofs.Middles.{HasBoxLines, found_box}
use Rattle.tb_geometry.proofs.Tables.{base_lines_of}

-- ---- a grid that carries a body has lines at all coordinates of its boxes
once : (n : ℕ) → 1 * n ≡ n
once n = omega arith

pub carried_has_lines : (d : Detail) (g : Axes) → CarriesBody g d → HasBoxLines d.boxes (lines_of g)
carried_has_lines d g carries =
    record {
      rising = λ a. carries.rising a;
      lows = λ a b there. subst (λ (n : ℕ). Contains (lines_of g a) n) (once (low a b)) (carries.has_lows a b there);
      highs = λ a b there. subst (λ (n : ℕ). Contains (lines_of g a) n) (once (high a b)) (carries.has_highs a b there);
    }

-- ---- the base cell of a cell
-- a line of the grid but its last lies between the ends of the base lines
pub between_base_ends : (d : Detail) (g : Axes) → CarriesBody g d → (a : AxisName) (i : ℕ) → i < interval_count (lines_of g a) →
    IsBetweenEnds (base_lines a d.boxes) (get_or (lines_of g a) i 0)
between_base_ends d g carries a i within =
    let spans = spans_along d g carries a in
    let (n, b, b_within, b_at, b_holds) = spans.from (get_or (lines_of g a) i 0) (Contains-get_or (lines_of g a) i 0 (omega arith)) in
    let (m, c, c_within, c_at, c_holds) = spans.to (get_or (lines_of g a) (suc i) 0) (Contains-get_or (lines_of g a) (suc i) 0 (omega arith)) in
    let from : low a b ≤ get_or (lines_of g a) i 0 = b_holds in
    let to : get_or (lines_of g a) (suc i) 0 ≤ high a c = c_holds in
    let least : get_or (base_lines a d.boxes) 0 0 ≤ low a b =
    first_is_least (base_lines a d.boxes) (base_rises a d.boxes) (low a b) (low_line a d.boxes b (n, b_within, b_at)) in
    let greatest : high a c ≤ get_or (base_lines a d.boxes) (length (base_lines a d.boxes) - 1) 0 =
    last_is_greatest (base_lines a d.boxes) (base_rises a d.boxes) (high a c) (high_line a d.boxes c (m, c_within, c_at)) in
    let up : get_or (lines_of g a) i 0 < get_or (lines_of g a) (suc i) 0 = rises (lines_of g a) (carries.rising a) i (suc i) (omega arith) (omega arith) in
    record { from = omega arith; below = omega arith }

pub cell_along : (g : Axes) (p : Place) → IsCell (counts_of g) p → (a : AxisName) → index_along a p < interval_count (lines_of g a)
cell_along g p cell X = cell.0
cell_along g p cell Y = cell.1
cell_along g p cell Z = cell.2

pub cell_between : (d : Detail) (g base : Axes) → base ≡ base_axes d.boxes → CarriesBody g d → (p : Place) → IsCell (counts_of g) p →
    (a : AxisName) → IsBetweenEnds (lines_of base a) (low_side g a p)
cell_between d g base is carries p cell a =
    subst (λ (lines : List ℕ). IsBetweenEnds lines (low_side g a p)) (sym (base_lines_of base d.boxes is a))
    (between_base_ends d g carries a (index_along a p) (cell_along g p cell a))

-- the base cell has the cube at the low corner of the cell
has_low_corner : (boxes : List SpaceBox) (g : Axes) (p q : Place) → LiesInBaseCell boxes g p q →
    HasCube boxes q (low_side g X p) (low_side g Y p) (low_side g Z p)
has_low_corner boxes g p q lies = record { on_x = lies X; on_y = lies Y; on_z = lies Z }

pub lies_along : (boxes : List SpaceBox) (g base : Axes) (p q : Place) → base ≡ base_axes boxes →
    ((a : AxisName) → IsIntervalOf (lines_of base a) (low_side g a p) (index_along a q)) → LiesInBaseCell boxes g p q
lies_along boxes g base p q is lies a = subst (λ (lines : List ℕ). IsIntervalOf lines (low_side g a p) (index_along a q)) (base_lines_of base boxes is a) (lies a)

pub lies_in_base : (boxes : List SpaceBox) (g : Axes) (p q : Place) → LiesInBaseCell boxes g p q → IsBaseCell boxes q
lies_in_base boxes g p q lies = base_cell_of_cube boxes q (low_side g X p) (low_side g Y p) (low_side g Z p) (has_low_corner boxes g p q lies)

-- a base cell has an entry in the table, of a box
pub record IsEntered (table : List ℕ) (occupants : List Occupant) (number : ℕ) : Type 0 where
  pub in_table : number < length table
  pub within : get_or table number 0 < length occupants

pub base_entered : (d : Detail) (base : Axes) (table : List ℕ) (occupants : List Occupant) (environments : ℕ) → Keeps d base table occupants environments →
    (q : Place) → IsBaseCell d.boxes q → (n : Counts) → n ≡ base_counts d.boxes → (number : ℕ) → number ≡ cell_number n q →
    IsEntered table occupants number
base_entered d base table occupants environments keeps q in_base n counts number is =
    let numbered : number ≡ base_number d.boxes q = is ∙ ap (λ (m : Counts). cell_number m q) counts in
    let below : base_number d.boxes q < cell_count (base_counts d.boxes) = cell_number_below (base_counts d.boxes) q in_base in
    let each_cell : length table ≡ cell_count (base_counts d.boxes) = keeps.holders.each_cell in
    let within : holder d.boxes table q < length d.boxes = keeps.holders.within q in_base in
    let long : length occupants ≡ length d.boxes = ap length keeps.filled ∙ length-map d.boxes (occupant_of d.materials) in
    subst (λ (m : ℕ). IsEntered table occupants m) (sym numbered) (record { in_table = omega arith; within = omega arith })

-- what fills the box that the table has at a base cell fills each cell that lies in it
pub occupant_read : (d : Detail) (base : Axes) (table : List ℕ) (occupants : List Occupant) (environments : ℕ) → Keeps d base table occupants environments →
    (q : Place) → IsBaseCell d.boxes q → (n : Counts) → n ≡ base_counts d.boxes → (number : ℕ) → number ≡ cell_number n q →
    (g : Axes) → CarriesBody g d → (p : Place) → IsCell (counts_of g) p → LiesInBaseCell d.boxes g p q →
    slice_get occupants (get_or table number 0) ≡ occupant_at d g p
occupant_read d base table occupants environments keeps q in_base m counts number is g carries p cell lies =
    let n : ℕ = holder d.boxes table q in
    let numbered : number ≡ base_number d.boxes q = is ∙ ap (λ (m : Counts). cell_number m q) counts in
    let within : n < length d.boxes = keeps.holders.within q in_base in
    let there = Contains-get_or d.boxes n no_box within in
    let corner = cube_from_corner d.boxes (get_or d.boxes n no_box) q (low_side g X p) (low_side g Y p) (low_side g Z p) there (has_low_corner d.boxes g p q lies)
    (keeps.holders.holds q no_box in_base) in
    let found = found_box d.boxes (lines_of g) (carried_has_lines d g carries) keeps.accepted.apart p cell n no_box within corner in
    let long : length occupants ≡ length d.boxes = ap length keeps.filled ∙ length-map d.boxes (occupant_of d.materials) in
    let o : Occupant = occupant_of d.materials no_box in
    let read : get_or occupants n o ≡ occupant_of d.materials (get_or d.boxes n no_box) =
    ap (λ (all : List Occupant). get_or all n o) keeps.filled ∙ get_or-map (occupant_of d.materials) d.boxes n no_box o within in
    ap (λ (m : ℕ). slice_get occupants (get_or table m 0)) numbered
    ∙ slice_get-get_or occupants n o (omega arith) ∙ ap Some read
    ∙ sym (ap (λ (box : Option SpaceBox). option_map (filled_with d.materials) (option_map (λ b. b.content) box)) found)
