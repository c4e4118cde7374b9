-- The flags of the solid base cells, by the boxes that hold them.
use Rattle.std.proofs.Common.{◌≡◌, ℕ, ◌<◌, Bool, false, List, length, get_or, Some, refl, subst, sym, ◌∙◌, ap, arith}
use Rattle.std.specs.List.{All}
use Rattle.std.proofs.lemmas.List.{get_or-map, get_or_default}
use Rattle.tb_places.specs.declared.AxisName.{AxisName}
use Rattle.tb_places.specs.declared.AxisName.TheVariants.{X, Y, Z}
use Rattle.tb_places.specs.declared.Place.{Place}
use Rattle.tb_places.specs.Inverse.{cell_place}
use Rattle.tb_places.specs.Places.{cell_count}
use Rattle.tb_places.proofs.Cells.{cell_number_below, cell_number_of_place, cell_place_within}
use Rattle.tb_detail.specs.declared.Content.TheVariants.{Solid}
use Rattle.tb_detail.specs.declared.Detail.{Detail}
use Rattle.tb_detail.specs.declared.SpaceBox.{SpaceBox}
use Rattle.tb_grid.specs.Grid.{Axes, counts_of}
use Rattle.tb_walk.specs.Isolated.{MarkSolids, NoneIsolated}
use Rattle.tb_walk.specs.Marks.{AllReachOpenings, IsFirstWithoutOpening}
use Rattle.tb_walk.proofs.Meshes.{first, none}
use Rattle.tb_geometry.specs.Base.{base_axes, IsBaseCell, base_counts, base_mesh, base_number}
use Rattle.tb_geometry.specs.Bodies.{HasHolders, holder, solid_flags, no_box}
use Rattle.tb_geometry.specs.Cubes.{AreApart}
use Rattle.tb_geometry.specs.Faults.{IsIsolatedAt}
use Rattle.tb_geometry.specs.Boxes.{is_solid}
use Rattle.tb_geometry.proofs.Occupants.{occupant_is}
use Rattle.tb_geometry.proofs.Tested.{solid_content}
use Rattle.tb_geometry.proofs.Tables.{base_lines_of}

-- ---- what fills a base cell
holder_fills : (d : Detail) (table : List ℕ) → AreApart d.boxes → HasHolders d.boxes table → (p : Place) → IsBaseCell d.boxes p →
    (base_mesh d).occupant p.i p.j p.k ≡ Some (get_or d.boxes (holder d.boxes table p) no_box).content
holder_fills d table apart holders p cell =
    let n : ℕ = holder d.boxes table p in
    let within : holder d.boxes table p < length d.boxes = holders.within p cell in
    let b : SpaceBox = get_or d.boxes n no_box in
    occupant_is d b p apart (n, within, get_or_default d.boxes n b no_box within) cell (holders.holds p no_box cell)

-- ---- the flags
flag_of : (boxes : List SpaceBox) (table : List ℕ) (n : ℕ) → n < length table →
    get_or (solid_flags boxes table) n false ≡ is_solid (get_or boxes (get_or table n 0) no_box).content
flag_of boxes table n within = get_or-map (λ b. is_solid (get_or boxes b no_box).content) table n 0 false within

base_counts_along : (d : Detail) (a : AxisName) → counts_of (base_axes d.boxes) a ≡ (base_mesh d).cells a
base_counts_along d X = refl
base_counts_along d Y = refl
base_counts_along d Z = refl

marked_on_base : (d : Detail) (table : List ℕ) → AreApart d.boxes → HasHolders d.boxes table →
    MarkSolids (counts_of (base_axes d.boxes)) (base_mesh d) (solid_flags d.boxes table)
marked_on_base d table apart holders =
    record {
      counts = base_counts_along d;
      filled = λ p cell none. let fills = holder_fills d table apart holders p cell in absurd (cc);
      marked = λ p cell.
          let fills = holder_fills d table apart holders p cell in
          let number : base_number d.boxes p < cell_count (base_counts d.boxes) = cell_number_below (base_counts d.boxes) p cell in
          let long : length table ≡ cell_count (base_counts d.boxes) = holders.each_cell in
          let flag = flag_of d.boxes table (base_number d.boxes p) (omega arith) in (
            λ set. let (material, is) = solid_content (get_or d.boxes (holder d.boxes table p) no_box).content (sym flag ∙ set) in
                record { material = material; fills = fills ∙ ap Some is },
            λ solid. let material = solid.material in let is = solid.fills in
                let content : (get_or d.boxes (holder d.boxes table p) no_box).content ≡ Solid material = cc in
                flag ∙ ap is_solid content,
          );
    }

pub solids_marked : (d : Detail) (g : Axes) (table : List ℕ) → g ≡ base_axes d.boxes → AreApart d.boxes → HasHolders d.boxes table →
    MarkSolids (counts_of g) (base_mesh d) (solid_flags d.boxes table)
solids_marked d g table base apart holders =
    subst (λ (axes : Axes). MarkSolids (counts_of axes) (base_mesh d) (solid_flags d.boxes table)) (sym base) (marked_on_base d table apart holders)

-- each holder is a place of a box
pub holders_are_boxes : (boxes : List SpaceBox) (table : List ℕ) → HasHolders boxes table → All (λ n. n < length boxes) table
holders_are_boxes boxes table holders k d within =
    let long : length table ≡ cell_count (base_counts boxes) = holders.each_cell in
    let p : Place = cell_place (base_counts boxes) k in
    let number : base_number boxes p ≡ k = cell_number_of_place (base_counts boxes) k in
    let at : get_or table k d ≡ get_or table k 0 = get_or_default table k d 0 within in
    let below : get_or table k 0 < length boxes =
    subst (λ (n : ℕ). get_or table n 0 < length boxes) number (holders.within p (cell_place_within (base_counts boxes) k (omega arith))) in
    omega arith

-- ---- what the walk finds
flags_marked : (d : Detail) (g : Axes) (boxes : List SpaceBox) (table : List ℕ) (flags : List Bool) → g ≡ base_axes d.boxes → AreApart d.boxes →
    HasHolders d.boxes table → boxes ≡ d.boxes → flags ≡ solid_flags boxes table → MarkSolids (counts_of g) (base_mesh d) flags
flags_marked d g boxes table flags base apart holders same is =
    subst (λ (marks : List Bool). MarkSolids (counts_of g) (base_mesh d) marks)
    (sym (is ∙ ap (λ (all : List SpaceBox). solid_flags all table) same)) (solids_marked d g table base apart holders)

pub none_is_isolated : (d : Detail) (g : Axes) (boxes : List SpaceBox) (table : List ℕ) (flags : List Bool) → g ≡ base_axes d.boxes → AreApart d.boxes →
    HasHolders d.boxes table → boxes ≡ d.boxes → flags ≡ solid_flags boxes table → AllReachOpenings (counts_of g) flags → NoneIsolated (base_mesh d)
none_is_isolated d g boxes table flags base apart holders same is all =
    (none (counts_of g) (base_mesh d) flags (flags_marked d g boxes table flags base apart holders same is)).0 all

pub first_is_isolated : (d : Detail) (g : Axes) (boxes : List SpaceBox) (table : List ℕ) (flags : List Bool) (n x y z : ℕ) → g ≡ base_axes d.boxes →
    AreApart d.boxes → HasHolders d.boxes table → boxes ≡ d.boxes → flags ≡ solid_flags boxes table →
    IsFirstWithoutOpening (counts_of g) flags (cell_place (counts_of g) n) → x ≡ get_or g.x (cell_place (counts_of g) n).i 0 →
    y ≡ get_or g.y (cell_place (counts_of g) n).j 0 → z ≡ get_or g.z (cell_place (counts_of g) n).k 0 → IsIsolatedAt d x y z
first_is_isolated d g boxes table flags n x y z base apart holders same is enclosed at_x at_y at_z =
    let p : Place = cell_place (counts_of g) n in
    record {
      cell = p;
      isolated = (first (counts_of g) (base_mesh d) flags p (flags_marked d g boxes table flags base apart holders same is)).0 enclosed;
      corner = record {
        on_x = at_x ∙ ap (λ (lines : List ℕ). get_or lines p.i 0) (base_lines_of g d.boxes base X);
        on_y = at_y ∙ ap (λ (lines : List ℕ). get_or lines p.j 0) (base_lines_of g d.boxes base Y);
        on_z = at_z ∙ ap (λ (lines : List ℕ). get_or lines p.k 0) (base_lines_of g d.boxes base Z);
      };
    }
