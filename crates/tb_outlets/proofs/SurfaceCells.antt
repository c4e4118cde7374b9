-- The two cells that a face lies between.
use Rattle.std.proofs.Common.{◌≡◌, ◌≢◌, ℕ, ◌-◌, ◌<◌, ◌≤◌, List, Bool, true, false, arith, refl, sym, ap, subst, ◌∙◌}
use Rattle.std.proofs.lemmas.Bool.{true≢false, false≢true}
use Rattle.tb_places.specs.declared.AxisName.{AxisName}
use Rattle.tb_places.specs.declared.AxisName.TheVariants.{X, Y, Z}
use Rattle.tb_places.specs.Along.{cell_stride}
use Rattle.tb_places.specs.declared.Place.{Place}
use Rattle.tb_places.specs.declared.FacePlace.{FacePlace}
use Rattle.tb_places.specs.Inverse.{cell_place, face_place}
use Rattle.tb_places.specs.Places.{Counts, IsCell, IsFace, cell_number, face_count, face_number}
use Rattle.tb_places.proofs.Cells.{cell_number_below, cell_number_of_place, cell_place_of_number, cell_place_within}
use Rattle.tb_places.proofs.Faces.{face_number_of_place, face_place_of_number}
use Rattle.tb_places.specs.Along.{ahead, index_along}
use Rattle.tb_walk.specs.Spreading.{IsNextCell, flag}
use Rattle.tb_walk.proofs.NextCells.{cell_before}
use mathlib.Core.Bool.{beq}
use Rattle.tb_outlets.specs.declared.side.Side.{Side}
use Rattle.tb_outlets.specs.declared.side.Side.TheVariants.{Low, High}
use Rattle.tb_outlets.specs.Sides.{axis_of, face_of, number_on, place_on}
use Rattle.tb_outlets.specs.Searching.{IsOpening}
use Rattle.tb_outlets.proofs.Sides.{back_one, face_on_side}

-- the place of the face on a side of a cell
placed_on : (n : Counts) (solid : List Bool) (f c : ℕ) (s : Side) → IsOpening n solid f c s →
    face_place n f ≡ record { axis = axis_of s; place = place_on s (cell_place n c) }
placed_on n solid f c s is =
    let p = cell_place n c in
    let q = place_on s p in
    ap (face_place n) (sym is.face) ∙ face_place_of_number n (record { axis = axis_of s; place = q }) (face_on_side n p s (cell_place_within n c is.cell))

-- a face with an opening stands neither at the first line of its axis nor at the last
record StandsInside (n : Counts) (a : AxisName) (p : Place) : Type 0 where
  low : 0 < index_along a p
  high : index_along a p < n a

ahead_inside : (n : Counts) (a : AxisName) (p : Place) → let q = ahead a 1 p in IsCell n q → StandsInside n a q
ahead_inside n X p cell = record { low = omega arith; high = cell.0 }
ahead_inside n Y p cell = record { low = omega arith; high = cell.1 }
ahead_inside n Z p cell = record { low = omega arith; high = cell.2 }

inside : (n : Counts) (solid : List Bool) (f c : ℕ) (s : Side) → IsOpening n solid f c s → StandsInside n (axis_of s) (place_on s (cell_place n c))
inside n solid f c (Low a) is =
    let next = cell_place n is.opening.next in
    subst (StandsInside n a) is.opening.beyond (ahead_inside n a next
    (subst (IsCell n) (sym is.opening.beyond) (cell_place_within n c is.cell)))
inside n solid f c (High a) is =
    ahead_inside n a (cell_place n c) (subst (IsCell n) (sym is.opening.beyond) (cell_place_within n is.opening.next is.opening.in_grid))

pub stands_inside : (n : Counts) (solid : List Bool) (f c : ℕ) (s : Side) (a : AxisName) (p : Place) → face_place n f ≡ record { axis = a; place = p } →
    IsOpening n solid f c s → (0 < index_along a p) × (index_along a p < n a)
stands_inside n solid f c s a p at is =
    let same = sym (placed_on n solid f c s is) ∙ at in
    let stands = subst (λ (g : FacePlace). StandsInside n g.axis g.place) same (inside n solid f c s is) in
    (stands.low, stands.high)

-- The cells above and below a face, by their numbers.
pub record IsFaceBetween (n : Counts) (f : ℕ) (a : AxisName) (below above : ℕ) : Type 0 where
  pub next : IsNextCell n a below above
  pub face : face_place n f ≡ record { axis = a; place = cell_place n above }
  pub number : f < face_count n

pub face_number_at : (n : Counts) (f : ℕ) (a : AxisName) (below above : ℕ) → IsFaceBetween n f a below above → face_of n above (Low a) ≡ f
face_number_at n f a below above is =
    ap (λ (g : FacePlace). face_number n g.axis g.place) (sym is.face) ∙ face_number_of_place n f is.number

pub opens_above : (n : Counts) (solid : List Bool) (f : ℕ) (a : AxisName) (below above : ℕ) → IsFaceBetween n f a below above →
    flag solid above ≡ true → flag solid below ≡ false → IsOpening n solid f above (Low a)
opens_above n solid f a below above is set unset = record {
  cell = is.next.second;
  in_set = set;
  opening = record { next = below; in_grid = is.next.first; beyond = is.next.next; unmarked = unset };
  face = face_number_at n f a below above is;
}

pub opens_below : (n : Counts) (solid : List Bool) (f : ℕ) (a : AxisName) (below above : ℕ) → IsFaceBetween n f a below above →
    flag solid above ≡ false → flag solid below ≡ true → IsOpening n solid f below (High a)
opens_below n solid f a below above is unset set = record {
  cell = is.next.first;
  in_set = set;
  opening = record { next = above; in_grid = is.next.second; beyond = is.next.next; unmarked = unset };
  face = ap (λ (q : Place). number_on n (Low a) q) is.next.next ∙ face_number_at n f a below above is;
}

same_number : (n : Counts) (c d : ℕ) → cell_place n c ≡ cell_place n d → c ≡ d
same_number n c d same =
    sym (cell_number_of_place n c) ∙ ap (cell_number n) same ∙ cell_number_of_place n d

differ : (n : Counts) (solid : List Bool) (f : ℕ) (a : AxisName) (below above c : ℕ) (s : Side) → IsFaceBetween n f a below above →
    axis_of s ≡ a → place_on s (cell_place n c) ≡ cell_place n above → IsOpening n solid f c s → flag solid above ≡ flag solid below → ⊥
differ n solid f a below above c (Low b) is axis place opening same =
    let at_c : c ≡ above = same_number n c above place in
    let at_next : opening.opening.next ≡ below = same_number n opening.opening.next below
    (back_one a (cell_place n opening.opening.next) (cell_place n below)
    (ap (λ (e : AxisName). ahead e 1 (cell_place n opening.opening.next)) (sym axis) ∙ opening.opening.beyond ∙ place ∙ sym is.next.next)) in
    true≢false (sym opening.in_set ∙ ap (flag solid) at_c ∙ same ∙ ap (flag solid) (sym at_next) ∙ opening.opening.unmarked)
differ n solid f a below above c (High b) is axis place opening same =
    let at_next : opening.opening.next ≡ above = same_number n opening.opening.next above (sym opening.opening.beyond ∙ place) in
    let at_c : c ≡ below = same_number n c below
    (back_one a (cell_place n c) (cell_place n below)
    (ap (λ (e : AxisName). ahead e 1 (cell_place n c)) (sym axis) ∙ place ∙ sym is.next.next)) in
    true≢false (sym opening.in_set ∙ ap (flag solid) at_c ∙ sym same ∙ ap (flag solid) (sym at_next) ∙ opening.opening.unmarked)

pub no_opening : (n : Counts) (solid : List Bool) (f : ℕ) (a : AxisName) (below above c : ℕ) (s : Side) → IsFaceBetween n f a below above →
    flag solid above ≡ flag solid below → ¬ IsOpening n solid f c s
no_opening n solid f a below above c s is same opening =
    let one = sym (placed_on n solid f c s opening) ∙ is.face in
    differ n solid f a below above c s is (ap (λ (g : FacePlace). g.axis) one) (ap (λ (g : FacePlace). g.place) one) opening same

is_cell_inside : (n : Counts) (a : AxisName) (p : Place) → IsFace n a p → index_along a p < n a → IsCell n p
is_cell_inside n X p face below = (below, face.1, face.2)
is_cell_inside n Y p face below = (face.0, below, face.2)
is_cell_inside n Z p face below = (face.0, face.1, below)

pub between_at : (n : Counts) (f : ℕ) (a : AxisName) (p : Place) (above stride : ℕ) → face_place n f ≡ record { axis = a; place = p } →
    f < face_count n → IsFace n a p → 0 < index_along a p → index_along a p < n a →
    above ≡ cell_number n p → stride ≡ cell_stride n a → (stride ≤ above) × IsFaceBetween n f a (above - stride) above
between_at n f a p above stride at number face low high is_above is_stride =
    let cell = is_cell_inside n a p face high in
    let within = cell_number_below n p cell in
    let here : cell_place n above ≡ p = ap (cell_place n) is_above ∙ cell_place_of_number n p cell in
    let before = cell_before n a above (omega arith) (subst (λ (q : Place). 0 < index_along a q) (sym here) low) in
    let steps = before.1 in
    let same : before.0 ≡ above - stride = omega arith in (
      omega arith,
      record {
        next = subst (λ (d : ℕ). IsNextCell n a d above) same before.2;
        face = at ∙ ap (λ (q : Place). let g : FacePlace = record { axis = a; place = q } in g) (sym here);
        number = number;
      },
    )

index_at_most : (n : Counts) (a : AxisName) (p : Place) → IsFace n a p → index_along a p ≤ n a
index_at_most n X p face = face.0
index_at_most n Y p face = face.1
index_at_most n Z p face = face.2

-- as a program finds it
pub between_found : (n : Counts) (f : ℕ) (a : AxisName) (p : Place) (index count above stride : ℕ) → face_place n f ≡ record { axis = a; place = p } →
    f < face_count n → IsFace n a p → index ≡ index_along a p → count ≡ n a → index ≢ 0 → index ≢ count →
    above ≡ cell_number n p → stride ≡ cell_stride n a → (stride ≤ above) × IsFaceBetween n f a (above - stride) above
between_found n f a p index count above stride at number face is_index is_count not_first not_last is_above is_stride =
    let most = index_at_most n a p face in
    between_at n f a p above stride at number face (omega arith) (omega arith) is_above is_stride

pub same_flags : (a b : Bool) → beq a b ≡ true → a ≡ b
same_flags true true e = refl
same_flags true false e = absurd (false≢true e)
same_flags false true e = absurd (false≢true e)
same_flags false false e = refl

pub other_false : (a b : Bool) → a ≡ true → beq a b ≡ false → b ≡ false
other_false true true set e = absurd (true≢false e)
other_false true false set e = refl
other_false false b set e = absurd (false≢true set)

pub other_true : (a b : Bool) → a ≡ false → beq a b ≡ false → b ≡ true
other_true true b unset e = absurd (true≢false unset)
other_true false true unset e = refl
other_true false false unset e = absurd (true≢false e)
