-- An accepted body has a solid cell on each grid that carries it, and so at least one term: a solid box fills the cell at
-- its low corner.
use mathlib.Core.Path.{◌≡◌, sym, ap, ◌∙◌, subst}
use mathlib.Core.Logic.{◌⊎◌, inl, inr}
use mathlib.Core.List.{List}
use Prim.Native.Nat.{ℕ, zero, suc, ◌+◌, ◌-◌, ◌<◌, ◌≤◌}
use native.Mathlib.Omega.{arith}
use lib.ListN.{get_or, length}
use Rattle.std.specs.Prelude.{Some}
use Rattle.std.specs.Option.{option_map}
use Rattle.std.specs.List.{Contains}
use Rattle.std.proofs.Math.Nat.{eq-or-lt_of_le}
use Rattle.tb_math.specs.Sums.{sum_to}
use Rattle.tb_places.specs.declared.AxisName.{AxisName}
use Rattle.tb_places.specs.declared.AxisName.TheVariants.{X, Y, Z}
use Rattle.tb_places.specs.declared.Place.{Place}
use Rattle.tb_places.specs.Places.{IsCell}
use Rattle.tb_detail.specs.declared.Content.TheVariants.{Solid}
use Rattle.tb_detail.specs.declared.Detail.{Detail}
use Rattle.tb_detail.specs.declared.SpaceBox.{SpaceBox}
use Rattle.tb_detail.specs.Limits.{InLimits}
use Rattle.tb_grid.specs.Grid.{Axes}
use Rattle.tb_model.specs.Energy.{Terms, of_solid, line_sum, axis_sum, number_of_terms}
use Rattle.tb_model.specs.Mesh.{Mesh}
use Rattle.tb_model.specs.Refinement.{low, high}
use Rattle.tb_places.specs.Places.{by_axis}
use Rattle.tb_geometry.specs.Bodies.{IsProper}
use Rattle.tb_geometry.specs.Cubes.{ReachesOver}
use Rattle.tb_geometry.specs.Faults.{IsAccepted}
use Rattle.tb_geometry.specs.Grids.{CarriesBody, mesh_on}
use Rattle.tb_geometry.proofs.Finer.{carried_has_lines}
use Rattle.tb_grid.proofs.RisingLists.{before_from, line_of_member}
use Rattle.tb_geometry.proofs.Middles.{HasBoxLines, HoldsLowCorner, found_box}
use Rattle.tb_geometry.proofs.Steps.{boxes_in_limits}

-- a solid cell of a mesh
record HasSolid (m : Mesh) : Type 0 where
  cell : Place
  within : IsCell m.cells cell
  material : ℕ
  fills : m.occupant cell.i cell.j cell.k ≡ Some (Solid material)

-- where a box begins on an axis
record Begins (lines : List ℕ) (lo hi : ℕ) : Type 0 where
  index : ℕ
  within : index < length lines - 1
  stands : get_or lines index 0 ≡ lo
  rises : lo < hi

begins : (boxes : List SpaceBox) (lines : AxisName → List ℕ) → HasBoxLines boxes lines → (b : SpaceBox) → Contains boxes b → (a : AxisName) → low a b < high a b → Begins (lines a) (low a b) (high a b)
begins boxes lines has b there a rises =
    let (i, at) = line_of_member (lines a) (low a b) (has.lows a b there) in
    let (j, at') = line_of_member (lines a) (high a b) (has.highs a b there) in
    let inside : j < length (lines a) = at'.within in
    let from : get_or (lines a) i 0 ≡ low a b = at.stands in
    let to : get_or (lines a) j 0 ≡ high a b = at'.stands in
    let order : i < j = before_from (lines a) (has.rising a) i j at.within (omega arith) in
    record { index = i; within = omega arith; stands = from; rises = rises }

solid_on : (d : Detail) (g : Axes) → InLimits d → IsAccepted d → CarriesBody g d → HasSolid (mesh_on d g)
solid_on d g limits accepted carries =
    let (n, b, within, at, solid) = accepted.solid in
    from_box n b within at solid.material solid.fills
  where
    lines : AxisName → List ℕ
    lines = by_axis g.x g.y g.z

    has : HasBoxLines d.boxes lines
    has = carried_has_lines d g carries

    from_box : (n : ℕ) (b : SpaceBox) → n < length d.boxes → get_or d.boxes n b ≡ b → (material : ℕ) → b.content ≡ Solid material → HasSolid (mesh_on d g)
    from_box n b within at material fills = record {
      cell = corner;
      within = (x.within, y.within, z.within);
      material = material;
      fills = ap (option_map (λ b. b.content)) (found_box d.boxes lines has accepted.apart corner (x.within, y.within, z.within) n b within held) ∙ ap (λ c. Some c.content) at ∙ ap Some fills;
    }
      where
        starts : (a : AxisName) → Begins (lines a) (low a b) (high a b)
        starts a = begins d.boxes lines has b (n, within, at) a (subst IsProper at ((boxes_in_limits d limits).proper n b within) a)

        x : Begins (lines X) (low X b) (high X b)
        x = starts X

        y : Begins (lines Y) (low Y b) (high Y b)
        y = starts Y

        z : Begins (lines Z) (low Z b) (high Z b)
        z = starts Z

        corner : Place
        corner = record { i = x.index; j = y.index; k = z.index }

        reaches : (a : AxisName) → ReachesOver a b (get_or (lines a) (starts a).index 0)
        reaches a = record { from = omega (arith, (starts a).stands); below = omega (arith, (starts a).stands, (starts a).rises) }

        held : HoldsLowCorner lines corner (get_or d.boxes n b)
        held = subst (HoldsLowCorner lines corner) (sym at) (record { on_x = reaches X; on_y = reaches Y; on_z = reaches Z })

-- Terms --

at_least : (n i : ℕ) (f : ℕ → ℕ) → i < n → f i ≤ sum_to 0 ◌+◌ n f
at_least zero i f h = absurd (omega arith)
at_least (suc n) i f h = by_place (eq-or-lt_of_le {n = i} {m = n} (omega arith)) (at_least n i f)
  where
    by_place : (i ≡ n) ⊎ (i < n) → (i < n → f i ≤ sum_to 0 ◌+◌ n f) → f i ≤ sum_to 0 ◌+◌ n f + f n
    by_place (inl e) ih = let same : f i ≡ f n = ap f e in omega arith
    by_place (inr l) ih = let before : f i ≤ sum_to 0 ◌+◌ n f = ih l in omega arith

with_more : (a b : ℕ) → 1 ≤ a → 1 ≤ a + b
with_more a b h = omega arith

abbrev count_of_line : (m : Mesh) → Terms → AxisName → ℕ → ℕ → ℕ
count_of_line m t a j k = line_sum 0 ◌+◌ (λ _. 1) m t a j k

line_counts : (m : Mesh) (t : Terms) (i j k material : ℕ) → i < m.cells X → m.occupant i j k ≡ Some (Solid material) → 1 ≤ count_of_line m t X j k
line_counts m t i j k material within fills =
    let here : of_solid 0 (λ _. 1) (m.occupant i j k) ≡ 1 = ap (of_solid 0 (λ _. 1)) fills in
    let row : of_solid 0 (λ _. 1) (m.occupant i j k) ≤ sum_to 0 ◌+◌ (m.cells X) (λ i. of_solid 0 (λ _. 1) (m.occupant i j k)) = at_least (m.cells X) i (λ i. of_solid 0 (λ _. 1) (m.occupant i j k)) within in
    with_more (sum_to 0 ◌+◌ (m.cells X) (λ i. of_solid 0 (λ _. 1) (m.occupant i j k))) _ (one_from (of_solid 0 (λ _. 1) (m.occupant i j k)) _ here row)
  where
    one_from : (a b : ℕ) → a ≡ 1 → a ≤ b → 1 ≤ b
    one_from a b e h = omega arith

axis_counts : (m : Mesh) (t : Terms) → HasSolid m → 1 ≤ axis_sum 0 ◌+◌ (λ _. 1) m t X
axis_counts m t solid =
    let p = solid.cell in
    let line : 1 ≤ count_of_line m t X p.j p.k = line_counts m t p.i p.j p.k solid.material solid.within.0 solid.fills in
    let layer : count_of_line m t X p.j p.k ≤ sum_to 0 ◌+◌ (m.cells Y) (λ j. count_of_line m t X j p.k) = at_least (m.cells Y) p.j (λ j. count_of_line m t X j p.k) solid.within.1 in
    let all : sum_to 0 ◌+◌ (m.cells Y) (λ j. count_of_line m t X j p.k) ≤ sum_to 0 ◌+◌ (m.cells Z) (λ k. sum_to 0 ◌+◌ (m.cells Y) (λ j. count_of_line m t X j k)) = at_least (m.cells Z) p.k (λ k. sum_to 0 ◌+◌ (m.cells Y) (λ j. count_of_line m t X j k)) solid.within.2 in
    let total : 1 ≤ sum_to 0 ◌+◌ (m.cells Z) (λ k. sum_to 0 ◌+◌ (m.cells Y) (λ j. count_of_line m t X j k)) = up (count_of_line m t X p.j p.k) _ _ line layer all in total
  where
    up : (a b c : ℕ) → 1 ≤ a → a ≤ b → b ≤ c → 1 ≤ c
    up a b c h k l = omega arith

solid_counts : (m : Mesh) (t : Terms) → HasSolid m → 0 < number_of_terms m t
unfolding number_of_terms
solid_counts m t solid = with_more _ _ (with_more (axis_sum 0 ◌+◌ (λ _. 1) m t X) _ (axis_counts m t solid))

pub some_terms : (d : Detail) (g : Axes) (t : Terms) → InLimits d → IsAccepted d → CarriesBody g d → 0 < number_of_terms (mesh_on d g) t
some_terms d g t limits accepted carries = solid_counts (mesh_on d g) t (solid_on d g limits accepted carries)
