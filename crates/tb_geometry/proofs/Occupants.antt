-- What fills a base cell is what fills the box that holds its cubes.
use Rattle.std.proofs.Common.{◌≡◌, ℕ, List, Option, Some, get_or, subst, sym, ◌∙◌, ap}
use Rattle.std.specs.Option.{option_map}
use Rattle.std.specs.List.{Contains}
use Rattle.tb_places.specs.declared.AxisName.TheVariants.{X, Y, Z}
use Rattle.tb_places.specs.declared.Place.{Place}
use Rattle.tb_detail.specs.declared.Detail.{Detail}
use Rattle.tb_detail.specs.declared.SpaceBox.{SpaceBox}
use Rattle.tb_geometry.specs.Base.{HasCube, IsBaseCell, IsFilledBy, base_lines, base_mesh}
use Rattle.tb_geometry.specs.Bodies.{AreBoxes, HoldsCorner}
use Rattle.tb_geometry.specs.Cubes.{AreApart, HoldsCube, IsCovered}
use Rattle.tb_geometry.proofs.Coordinates.{high_line, low_line}
use Rattle.tb_geometry.proofs.Covers.{base_cell_of_cube, corner_from_cube, cube_from_corner}
use Rattle.tb_geometry.proofs.Hulls.{corner_in_hull}
use Rattle.tb_geometry.proofs.Lines.{base_rises}
use Rattle.tb_geometry.proofs.Middles.{HasBoxLines, found_box}

base_has_lines : (boxes : List SpaceBox) → HasBoxLines boxes (λ a. base_lines a boxes)
base_has_lines boxes =
    record {
      rising = λ a. base_rises a boxes;
      lows = λ a b there. low_line a boxes b there;
      highs = λ a b there. high_line a boxes b there;
    }

pub occupant_is : (d : Detail) (b : SpaceBox) (p : Place) → AreApart d.boxes → Contains d.boxes b → IsBaseCell d.boxes p →
    HoldsCorner d.boxes p b → (base_mesh d).occupant p.i p.j p.k ≡ Some b.content
occupant_is d b p apart (n, within, at) cell holds =
    let found = found_box d.boxes (λ a. base_lines a d.boxes) (base_has_lines d.boxes) apart p cell n b within
    (subst (λ (box : SpaceBox). HoldsCorner d.boxes p box) (sym at) holds) in
    ap (λ (box : Option SpaceBox). option_map (λ c. c.content) box) found ∙ ap (λ (box : SpaceBox). Some box.content) at

pub occupant_holds : (d : Detail) (b : SpaceBox) (p : Place) (x y z : ℕ) → AreApart d.boxes → Contains d.boxes b →
    HasCube d.boxes p x y z → HoldsCube b x y z → (base_mesh d).occupant p.i p.j p.k ≡ Some b.content
occupant_holds d b p x y z apart there has holds =
    occupant_is d b p apart there (base_cell_of_cube d.boxes p x y z has) (corner_from_cube d.boxes b p x y z there has holds)

-- in an accepted body one box holds each base cell whole, and fills it
pub cell_filled : (d : Detail) (p : Place) → AreBoxes d.boxes → AreApart d.boxes → IsCovered d.boxes → IsBaseCell d.boxes p → IsFilledBy d p
cell_filled d p are apart covered cell =
    let x = get_or (base_lines X d.boxes) p.i 0 in
    let y = get_or (base_lines Y d.boxes) p.j 0 in
    let z = get_or (base_lines Z d.boxes) p.k 0 in
    let (k, b, within, is, holds) = covered x y z (corner_in_hull d.boxes p are cell) in
    record {
      box = b;
      there = (k, within, is);
      whole = λ u v w has. cube_from_corner d.boxes b p u v w (k, within, is) has holds;
      fills = occupant_is d b p apart (k, within, is) cell holds;
    }
