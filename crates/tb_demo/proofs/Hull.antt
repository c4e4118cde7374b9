-- The hull of the storeys.
use Rattle.std.proofs.Common.{◌≡◌, ℕ, zero, suc, ◌+◌, ◌*◌, ◌<◌, ◌≤◌, [], ◌∷◌, ◌++◌, get_or, arith, refl, ap}
use Rattle.std.specs.List.{All, Any}
use Rattle.std.proofs.lemmas.List.Elements.{All-append, All-nil}
use Rattle.tb_places.specs.declared.AxisName.{AxisName}
use Rattle.tb_places.specs.declared.AxisName.TheVariants.{X, Y, Z}
use Rattle.tb_places.specs.Places.{by_axis}
use Rattle.tb_detail.specs.declared.Content.{Content}
use Rattle.tb_detail.specs.declared.SpaceBox.{SpaceBox}
use Rattle.tb_model.specs.Refinement.{low, high}
use Rattle.tb_geometry.specs.Cubes.{IsInHullOn}
use Rattle.tb_geometry.specs.Volumes.{IsHull}
use Rattle.tb_geometry.proofs.Members.{first}
use Rattle.tb_demo.proofs.Lists.{all_of_four, all_of_two, any_left, any_right}
use Rattle.tb_demo.specs.Section.{air_inside, air_outside, concrete, flat_box, insulation, masonry, slab, storey, storeys, wall}

-- where the hull ends
abbrev pub ends : ℕ → AxisName → ℕ
ends n = by_axis 24000 (30000 * n) 10000

-- ---- the boxes

-- the first box begins at the low corner
begins : (a : AxisName) (n : ℕ) → 1 ≤ n → Any (λ b. low a b ≡ 0) (storeys n)
begins a zero some = absurd (omega arith)
begins a (suc zero) some = (0, flat_box air_inside 0 10000 0 14000, omega arith, refl, at_corner a)
  where
    at_corner : (b : AxisName) → low b (flat_box air_inside 0 10000 0 14000) ≡ 0
    at_corner X = refl
    at_corner Y = refl
    at_corner Z = refl
begins a (suc (suc n)) some = any_left (λ b. low a b ≡ 0) (storeys (suc n)) (storey (30000 * suc n)) (begins a (suc n) (omega arith))

-- the last ends at the high corner
last_ends : (a : AxisName) (n : ℕ) → high a (flat_box air_outside 13000 24000 (30000 * n + 16000) (30000 * n + 30000)) ≡ ends (suc n) a
last_ends X n = refl
last_ends Y n = omega arith
last_ends Z n = refl

ends_there : (a : AxisName) (n : ℕ) → 1 ≤ n → Any (λ b. high a b ≡ ends n a) (storeys n)
ends_there a zero some = absurd (omega arith)
ends_there a (suc n) some =
    let y = 30000 * n in
    let P = λ (b : SpaceBox). high a b ≡ ends (suc n) a in
    any_right P (storeys n) (storey y) (any_right P (wall y (y + 14000)) (slab (y + 14000) (y + 16000) ++ wall (y + 16000) (y + 30000))
    (any_right P (slab (y + 14000) (y + 16000)) (wall (y + 16000) (y + 30000))
    (any_right P (flat_box air_inside 0 10000 (y + 16000) (y + 30000) ∷ flat_box masonry 10000 12000 (y + 16000) (y + 30000)
    ∷ flat_box insulation 12000 13000 (y + 16000) (y + 30000) ∷ []) (flat_box air_outside 13000 24000 (y + 16000) (y + 30000) ∷ [])
    (first P (flat_box air_outside 13000 24000 (y + 16000) (y + 30000)) [] (last_ends a n)))))

-- no box reaches further
IsBelow : ℕ → SpaceBox → Type 0
IsBelow n b = (a : AxisName) → high a b ≤ ends n a

box_below : (n : ℕ) (c : Content) (x0 x1 y0 y1 : ℕ) → x1 ≤ 24000 → y1 ≤ 30000 * n → IsBelow n (flat_box c x0 x1 y0 y1)
unfolding IsBelow
box_below n c x0 x1 y0 y1 on_x on_y X = on_x
box_below n c x0 x1 y0 y1 on_x on_y Y = on_y
box_below n c x0 x1 y0 y1 on_x on_y Z = omega arith

wall_below : (n y0 y1 : ℕ) → y1 ≤ 30000 * n → All (IsBelow n) (wall y0 y1)
wall_below n y0 y1 within =
    all_of_four (IsBelow n) (flat_box air_inside 0 10000 y0 y1) (flat_box masonry 10000 12000 y0 y1)
    (flat_box insulation 12000 13000 y0 y1) (flat_box air_outside 13000 24000 y0 y1)
    (box_below n air_inside 0 10000 y0 y1 (omega arith) within)
    (box_below n masonry 10000 12000 y0 y1 (omega arith) within)
    (box_below n insulation 12000 13000 y0 y1 (omega arith) within)
    (box_below n air_outside 13000 24000 y0 y1 (omega arith) within)

slab_below : (n y0 y1 : ℕ) → y1 ≤ 30000 * n → All (IsBelow n) (slab y0 y1)
slab_below n y0 y1 within =
    all_of_two (IsBelow n) (flat_box concrete 0 23000 y0 y1) (flat_box air_outside 23000 24000 y0 y1)
    (box_below n concrete 0 23000 y0 y1 (omega arith) within)
    (box_below n air_outside 23000 24000 y0 y1 (omega arith) within)

storeys_below : (n m : ℕ) → m ≤ n → All (IsBelow n) (storeys m)
storeys_below n zero few = All-nil (IsBelow n)
storeys_below n (suc m) few =
    let P = IsBelow n in
    let y = 30000 * m in
    let top : y + 30000 ≤ 30000 * n = omega arith in
    All-append P (storeys m) (storey y) (storeys_below n m (omega arith))
    (All-append P (wall y (y + 14000)) (slab (y + 14000) (y + 16000) ++ wall (y + 16000) (y + 30000))
    (wall_below n y (y + 14000) (omega arith))
    (All-append P (slab (y + 14000) (y + 16000)) (wall (y + 16000) (y + 30000))
    (slab_below n (y + 14000) (y + 16000) (omega arith))
    (wall_below n (y + 16000) (y + 30000) top)))

-- ---- the hull
hull_on : (a : AxisName) (n x : ℕ) → 1 ≤ n → IsInHullOn a (storeys n) x → x < ends n a
unfolding IsBelow
hull_on a n x some inside =
    let (k, b, within, is, below) = inside.below in
    let most : high a (get_or (storeys n) k b) ≤ ends n a = storeys_below n n (omega arith) k b within a in
    let same : high a (get_or (storeys n) k b) ≡ high a b = ap (high a) is in
    omega (arith, most, same, below)

pub hull_of : (n : ℕ) → 1 ≤ n → IsHull (storeys n) (λ a. 0) (ends n)
hull_of n some a x = (
  λ inside. record { from = omega arith; below = hull_on a n x some inside },
  λ within.
      let (k, b, k_within, is, at) = begins a n some in
      let (j, c, j_within, is', at') = ends_there a n some in
      let top : x < ends n a = within.below in
      record {
        from = (k, b, k_within, is, omega (arith, at));
        below = (j, c, j_within, is', omega (arith, at', top));
      },
)
