-- The section has no fault of a body.
use Rattle.std.proofs.Common.{◌≡◌, ℕ, zero, suc, ◌+◌, ◌*◌, ◌≤◌, ◌==◌, ◌&&◌, Bool, true, false, Option, Some, None, arith, refl}
use Rattle.std.specs.Prelude.{nat_le, nat_lt, sum_by}
use Rattle.std.proofs.lemmas.Bool.{eqb-true, leb-true, ltb-true, false≢true}
use Rattle.tb_places.specs.declared.AxisName.TheVariants.{X, Y, Z}
use Rattle.tb_places.specs.Places.{IsCell, cell_count, place_at}
use Rattle.tb_detail.specs.declared.Content.{Content}
use Rattle.tb_detail.specs.declared.Content.TheVariants.{Air, Solid}
use Rattle.tb_grid.specs.Grid.{most_cells}
use Rattle.tb_walk.specs.Isolated.{IsFilled}
use Rattle.tb_walk.proofs.Together.{none_isolated}
use Rattle.tb_geometry.specs.Base.{base_counts, base_lines, base_mesh}
use Rattle.tb_geometry.specs.Bodies.{AreBoxes}
use Rattle.tb_geometry.specs.Cubes.{AreApart, IsCovered}
use Rattle.tb_geometry.specs.Faults.{HasFewCells, HasSolid, IsAccepted, IsSolidBox}
use Rattle.tb_geometry.specs.Volumes.{box_volume, volume}
use Rattle.tb_geometry.proofs.Occupants.{cell_filled}
use Rattle.tb_geometry.proofs.Steps.{boxes_in_limits}
use Rattle.tb_geometry.proofs.Tested.{both_true}
use Rattle.tb_geometry.proofs.Volumes.{cover_of_volumes}
use Rattle.tb_demo.specs.Section.{flat_box, masonry, section, storey, storeys}
use Rattle.tb_demo.proofs.Hull.{ends, hull_of}
use Rattle.tb_demo.proofs.Lists.{any_right}
use Rattle.tb_demo.proofs.Limits.{section_within}
use Rattle.tb_demo.proofs.Computed.{all_apart, apart_from_test, each_number}

has_solid : (n : ℕ) → 1 ≤ n → HasSolid (section n)
has_solid zero some = absurd (omega arith)
has_solid (suc n) some =
    let box = flat_box masonry 10000 12000 (30000 * n) (30000 * n + 14000) in
    any_right IsSolidBox (storeys n) (storey (30000 * n)) (1, box, omega arith, refl, record { material = 0; fills = refl })

few_cells : (n : ℕ) → 1 ≤ n → n ≤ 16 → HasFewCells (section n)
unfolding base_lines
few_cells n some few =
    leb-true (cell_count (base_counts (storeys n))) most_cells
    (each_number (λ k. nat_le (cell_count (base_counts (storeys k))) most_cells) refl n some few)

pub are_apart : (n : ℕ) → 1 ≤ n → n ≤ 16 → AreApart (storeys n)
are_apart n some few = apart_from_test (storeys n) (each_number (λ k. all_apart (storeys k)) refl n some few)

-- the volumes of the boxes add up to that of the hull
volumes_add_up : (n : ℕ) → 1 ≤ n → n ≤ 16 → sum_by box_volume (storeys n) ≡ volume (λ a. 0) (ends n)
volumes_add_up n some few =
    eqb-true (sum_by box_volume (storeys n)) (volume (λ a. 0) (ends n))
    (each_number (λ k. sum_by box_volume (storeys k) == volume (λ a. 0) (ends k)) refl n some few)

are_covering : (n : ℕ) → 1 ≤ n → n ≤ 16 → IsCovered (storeys n)
are_covering n some few = cover_of_volumes (storeys n) (λ a. 0) (ends n) (hull_of n some) (are_apart n some few) (volumes_add_up n some few)

-- ---- every solid cell reaches a surface, since there is air
is_air : Option Content → Bool
is_air (Some (Air e rs)) = true
is_air (Some (Solid m)) = false
is_air None = false

air_found : (o : Option Content) → is_air o ≡ true → (e : ℕ) × (rs : ℕ) × (o ≡ Some (Air e rs))
unfolding is_air
air_found (Some (Air e rs)) t = (e, rs, refl)
air_found (Some (Solid m)) t = absurd (false≢true t)
air_found None t = absurd (false≢true t)

-- there is a base cell at the low corner, and the air inside fills it
is_some_cell : (n : ℕ) → Bool
is_some_cell n = nat_lt 0 (base_counts (storeys n) X) && nat_lt 0 (base_counts (storeys n) Y) && nat_lt 0 (base_counts (storeys n) Z)

first_cell : (n : ℕ) → 1 ≤ n → n ≤ 16 → IsCell (base_counts (storeys n)) (place_at 0 0 0)
unfolding is_some_cell base_lines
first_cell n some few =
    let all = each_number is_some_cell refl n some few in
    let two = both_true (nat_lt 0 (base_counts (storeys n) X) && nat_lt 0 (base_counts (storeys n) Y)) (nat_lt 0 (base_counts (storeys n) Z)) all in
    let one = both_true (nat_lt 0 (base_counts (storeys n) X)) (nat_lt 0 (base_counts (storeys n) Y)) two.0 in
    (ltb-true 0 (base_counts (storeys n) X) one.0, ltb-true 0 (base_counts (storeys n) Y) one.1, ltb-true 0 (base_counts (storeys n) Z) two.1)

first_is_air : (n : ℕ) → 1 ≤ n → n ≤ 16 → is_air ((base_mesh (section n)).occupant 0 0 0) ≡ true
unfolding is_air base_lines
first_is_air n some few = each_number (λ k. is_air ((base_mesh (section k)).occupant 0 0 0)) refl n some few

pub section_accepted : (n : ℕ) → 1 ≤ n → n ≤ 16 → IsAccepted (section n)
section_accepted n some few =
    let d = section n in
    let boxes : AreBoxes (storeys n) = boxes_in_limits d (section_within n few) in
    let apart = are_apart n some few in
    let covered = are_covering n some few in
    let filled : IsFilled (base_mesh d) = λ p cell none. let is = (cell_filled d p boxes apart covered cell).fills in absurd (cc (none, is)) in
    let air = air_found _ (first_is_air n some few) in
    record {
      environments = omega arith;
      solid = has_solid n some;
      few_cells = few_cells n some few;
      apart = apart;
      covered = covered;
      linked = none_isolated (base_mesh d) (place_at 0 0 0) air.0 air.1 filled (first_cell n some few) air.2;
    }
