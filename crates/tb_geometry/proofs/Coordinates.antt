-- The coordinates of boxes: two at least, two for each box, each with a base line.
use Rattle.std.proofs.Common.{◌≡◌, ℕ, zero, suc, ◌*◌, ◌<◌, List, [], ◌∷◌, length, get_or, length-append, refl, arith}
use Rattle.std.specs.List.{Contains}
use Rattle.std.proofs.lemmas.List.Elements.{Contains-append_left, Contains-append_right, Contains-get_or}
use Rattle.tb_places.specs.declared.AxisName.{AxisName}
use Rattle.tb_detail.specs.declared.SpaceBox.{SpaceBox}
use Rattle.tb_grid.specs.Axis.{AreLinesThrough, HasTwo}
use Rattle.tb_grid.proofs.Through.{lines_unique}
use Rattle.tb_model.specs.Refinement.{low, high}
use Rattle.tb_geometry.specs.Base.{base_lines, coordinates}
use Rattle.tb_geometry.specs.Bodies.{AreBoxes, no_box}
use Rattle.tb_geometry.proofs.Lines.{base_through}

-- ---- of a box in the list
has_of_each : (a : AxisName) (boxes : List SpaceBox) (k n : ℕ) (d : SpaceBox) → k < length boxes →
    Contains (low a (get_or boxes k d) ∷ high a (get_or boxes k d) ∷ []) n → Contains (coordinates a boxes) n
has_of_each a [] k n d within there = absurd (omega arith)
has_of_each a (b ∷ boxes) zero n d within there = Contains-append_left (low a b ∷ high a b ∷ []) (coordinates a boxes) n there
has_of_each a (b ∷ boxes) (suc k) n d within there =
    Contains-append_right (low a b ∷ high a b ∷ []) (coordinates a boxes) n (has_of_each a boxes k n d (omega arith) there)

pub low_coordinate : (a : AxisName) (boxes : List SpaceBox) (b : SpaceBox) → Contains boxes b → Contains (coordinates a boxes) (low a b)
low_coordinate a boxes b (k, within, is) =
    has_of_each a boxes k (low a b) b within (0, omega arith, rw is refl)

pub high_coordinate : (a : AxisName) (boxes : List SpaceBox) (b : SpaceBox) → Contains boxes b → Contains (coordinates a boxes) (high a b)
high_coordinate a boxes b (k, within, is) =
    has_of_each a boxes k (high a b) b within (1, omega arith, rw is refl)

pub low_line : (a : AxisName) (boxes : List SpaceBox) (b : SpaceBox) → Contains boxes b → Contains (base_lines a boxes) (low a b)
low_line a boxes b there = ((base_through a boxes).same (low a b)).1 (low_coordinate a boxes b there)

pub high_line : (a : AxisName) (boxes : List SpaceBox) (b : SpaceBox) → Contains boxes b → Contains (base_lines a boxes) (high a b)
high_line a boxes b there = ((base_through a boxes).same (high a b)).1 (high_coordinate a boxes b there)

-- ---- of the whole list
pub coordinate_count : (a : AxisName) (boxes : List SpaceBox) → length (coordinates a boxes) ≡ 2 * length boxes
coordinate_count a [] = refl
coordinate_count a (b ∷ boxes) =
    let rest : length (coordinates a boxes) ≡ 2 * length boxes = coordinate_count a boxes in
    let both = length-append (low a b ∷ high a b ∷ []) (coordinates a boxes) in
    omega (arith, both, rest)

pub two_coordinates : (a : AxisName) (boxes : List SpaceBox) → 0 < length boxes → AreBoxes boxes → HasTwo (coordinates a boxes)
two_coordinates a boxes some are =
    let first : SpaceBox = get_or boxes 0 no_box in
    let there : Contains boxes first = Contains-get_or boxes 0 no_box some in
    record {
      low = low a first;
      high = high a first;
      has_low = low_coordinate a boxes first there;
      has_high = high_coordinate a boxes first there;
      apart = are.proper 0 no_box some a;
    }

-- the lines through the coordinates are the base lines
pub base_unique : (a : AxisName) (boxes : List SpaceBox) (lines : List ℕ) → AreLinesThrough (coordinates a boxes) lines → lines ≡ base_lines a boxes
base_unique a boxes lines through = lines_unique (coordinates a boxes) lines (base_lines a boxes) through (base_through a boxes)
