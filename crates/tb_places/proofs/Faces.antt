-- Faces and their numbers, the faces of the three axes together.
use Rattle.std.proofs.Common.{◌≡◌, ℕ, zero, suc, ◌+◌, ◌-◌, ◌*◌, ◌/◌, ◌%◌, ◌<◌, ◌≤◌, ◌⊎◌, inl, inr, arith, ap, sym, subst, ◌∙◌}
use Rattle.std.specs.Prelude.{nat_lt}
use Rattle.std.proofs.lemmas.Bool.{cases_lt, cond-true, cond-false, cond_both, lt-ltb, le-ltb, ltb-true, ltb-false}
use Rattle.std.proofs.lemmas.Nat.{mul-add-lt, div-mul-add, mod-mul-add, div-add-mod', div_below, mod_below, mul-le}
use Rattle.tb_places.specs.declared.AxisName.{AxisName}
use Rattle.tb_places.specs.declared.AxisName.TheVariants.{X, Y, Z}
use Rattle.tb_places.specs.declared.FacePlace.{FacePlace}
use Rattle.tb_places.specs.declared.Place.{Place}
use Rattle.tb_places.specs.Places.{Counts, IsFace, faces_a_layer, face_count, face_number, place_at}
use Rattle.tb_places.specs.Inverse.{face_place, face_in_layer, side_in_layer, face_by_rows}
use Rattle.tb_places.proofs.Rows.{row_within}

-- ---- layers

-- a number is below the count in a full layer, and in the first w of the one above the last
pub layer_number_below : (l c k r : ℕ) → k < c → r < l → k * l + r < c * l
layer_number_below l c k r in_grid in_layer =
    let below : k * l + r < l * c = mul-add-lt k l r c in_grid in_layer in omega arith

pub last_number_below : (l w c k r : ℕ) → k ≤ c → r < w → k * l + r < c * l + w
last_number_below l w c k r in_grid in_layer =
    let below : k * l ≤ c * l = mul-le k l c l in_grid (omega arith) in omega arith

pub positive_layer : (l w c f : ℕ) → w ≤ l → f < c * l + w → 0 < l
positive_layer zero w c f part below = absurd (omega arith)
positive_layer (suc l) w c f part below = omega arith

-- where a number below the count stands: in a full layer, or among the first w of the one above
pub layer_within : (l w c f : ℕ) → w ≤ l → f < c * l + w →
    (f % l < l) × (((f / l ≤ c) × (f % l < w)) ⊎ ((f / l < c) × (w ≤ f % l)))
layer_within l w c f part below =
    let some : 0 < l = positive_layer l w c f part below in
    let split : f / l * l + f % l ≡ f = div-add-mod' f l in
    let first : f / l < c + 1 = div_below f l (c + 1) some (omega arith) in (
      mod_below f l some,
      elim (cases_lt (f % l) w) [
        | inl low ↦ inl (omega arith, low)
        | inr high ↦ inr (
          elim (cases_lt (f / l) c) [
            | inl full ↦ full
            | inr past ↦ let more : c * l ≤ f / l * l = mul-le c l (f / l) l past (omega arith) in absurd (omega arith)
          ],
          high,
        )
      ],
    )

-- ---- from places to numbers

pub x_face_in_layer : (n : Counts) (i j : ℕ) → i ≤ n X → j < n Y → j * (n X + 1) + i < (n X + 1) * n Y
x_face_in_layer n i j on_x on_y = mul-add-lt j (n X + 1) i (n Y) on_y (omega arith)

pub y_face_in_layer : (n : Counts) (i j : ℕ) → i < n X → j ≤ n Y → j * n X + i < n X * (n Y + 1)
y_face_in_layer n i j on_x on_y = mul-add-lt j (n X) i (n Y + 1) (omega arith) on_x

pub z_face_in_layer : (n : Counts) (i j : ℕ) → i < n X → j < n Y → j * n X + i < n X * n Y
z_face_in_layer n i j on_x on_y = mul-add-lt j (n X) i (n Y) on_y on_x

pub face_number_below : (n : Counts) (a : AxisName) (p : Place) → IsFace n a p → face_number n a p < face_count n
face_number_below n X p (on_x, on_y, on_z) =
    let row = x_face_in_layer n p.i p.j on_x on_y in
    let below = layer_number_below (faces_a_layer n) (n Z) p.k (n X * n Y + (p.j * (n X + 1) + p.i)) on_z (omega arith) in
    omega arith
face_number_below n Y p (on_x, on_y, on_z) =
    let row = y_face_in_layer n p.i p.j on_x on_y in
    let below = layer_number_below (faces_a_layer n) (n Z) p.k (n X * n Y + ((n X + 1) * n Y + (p.j * n X + p.i))) on_z (omega arith) in
    omega arith
face_number_below n Z p (on_x, on_y, on_z) =
    last_number_below (faces_a_layer n) (n X * n Y) (n Z) p.k (p.j * n X + p.i) on_z (z_face_in_layer n p.i p.j on_x on_y)

-- ---- and back

-- a face across an axis
abbrev face : AxisName → Place → FacePlace
face a p = record { axis = a; place = p }

face_of_row : (a : AxisName) (w : ℕ) (p : Place) → p.i < w → face_by_rows a w p.k (p.j * w + p.i) ≡ face a p
face_of_row a w p in_row =
    let first : (p.j * w + p.i) % w ≡ p.i = mod-mul-add p.j w p.i in_row in
    let row : (p.j * w + p.i) / w ≡ p.j = div-mul-add p.j w p.i in_row in
    ap (λ (m : ℕ). face a (place_at m ((p.j * w + p.i) / w) p.k)) first ∙ ap (λ (m : ℕ). face a (place_at p.i m p.k)) row

-- number r of a layer among the z-faces, the x-faces and the y-faces
z_face_of_layer : (n : Counts) (k r : ℕ) → r < n X * n Y → face_in_layer n k r ≡ face_by_rows Z (n X) k r
z_face_of_layer n k r low = cond-true (nat_lt r (n X * n Y)) _ _ (lt-ltb r (n X * n Y) low)

side_of_layer : (n : Counts) (k r : ℕ) → face_in_layer n k (n X * n Y + r) ≡ side_in_layer n k r
side_of_layer n k r =
    let back : n X * n Y + r - n X * n Y ≡ r = omega arith in
    cond-false (nat_lt (n X * n Y + r) (n X * n Y)) _ _ (le-ltb (n X * n Y + r) (n X * n Y) (omega arith))
    ∙ ap (λ (m : ℕ). side_in_layer n k m) back

x_face_of_side : (n : Counts) (k r : ℕ) → r < (n X + 1) * n Y → side_in_layer n k r ≡ face_by_rows X (n X + 1) k r
x_face_of_side n k r low = cond-true (nat_lt r ((n X + 1) * n Y)) _ _ (lt-ltb r ((n X + 1) * n Y) low)

y_face_of_side : (n : Counts) (k r : ℕ) → side_in_layer n k ((n X + 1) * n Y + r) ≡ face_by_rows Y (n X) k r
y_face_of_side n k r =
    let back : (n X + 1) * n Y + r - (n X + 1) * n Y ≡ r = omega arith in
    cond-false (nat_lt ((n X + 1) * n Y + r) ((n X + 1) * n Y)) _ _
    (le-ltb ((n X + 1) * n Y + r) ((n X + 1) * n Y) (omega arith))
    ∙ ap (λ (m : ℕ). face_by_rows Y (n X) k m) back

face_of_layer : (n : Counts) (k r : ℕ) → r < faces_a_layer n →
    face_place n (k * faces_a_layer n + r) ≡ face_in_layer n k r
unfolding face_place
face_of_layer n k r in_layer =
    let l = faces_a_layer n in
    let layer : (k * l + r) / l ≡ k = div-mul-add k l r in_layer in
    let rest : (k * l + r) % l ≡ r = mod-mul-add k l r in_layer in
    ap (λ (m : ℕ). face_in_layer n m ((k * l + r) % l)) layer ∙ ap (λ (m : ℕ). face_in_layer n k m) rest

place_of_number : (n : Counts) (a : AxisName) (p : Place) → IsFace n a p → face_place n (face_number n a p) ≡ face a p
place_of_number n X p (on_x, on_y, on_z) =
    let in_layer = x_face_in_layer n p.i p.j on_x on_y in
    let r = p.j * (n X + 1) + p.i in
    face_of_layer n p.k (n X * n Y + r) (omega arith) ∙ side_of_layer n p.k r ∙ x_face_of_side n p.k r in_layer
    ∙ face_of_row X (n X + 1) p (omega arith)
place_of_number n Y p (on_x, on_y, on_z) =
    let in_layer = y_face_in_layer n p.i p.j on_x on_y in
    let r = p.j * n X + p.i in
    face_of_layer n p.k (n X * n Y + ((n X + 1) * n Y + r)) (omega arith) ∙ side_of_layer n p.k ((n X + 1) * n Y + r)
    ∙ y_face_of_side n p.k r ∙ face_of_row Y (n X) p on_x
place_of_number n Z p (on_x, on_y, on_z) =
    let in_layer = z_face_in_layer n p.i p.j on_x on_y in
    let r = p.j * n X + p.i in
    face_of_layer n p.k r (omega arith) ∙ z_face_of_layer n p.k r in_layer ∙ face_of_row Z (n X) p on_x

pub face_place_of_number : (n : Counts) (f : FacePlace) → IsFace n f.axis f.place →
    face_place n (face_number n f.axis f.place) ≡ f
face_place_of_number n f within = place_of_number n f.axis f.place within

-- two faces with one number stand across one axis, and are one face
pub face_number_apart : (n : Counts) (a b : AxisName) (p q : Place) → IsFace n a p → IsFace n b q →
    face_number n a p ≡ face_number n b q → (a ≡ b) × (p ≡ q)
face_number_apart n a b p q first second same =
    let one : face a p ≡ face b q =
    sym (place_of_number n a p first) ∙ ap (λ (m : ℕ). face_place n m) same ∙ place_of_number n b q second in
    (ap (λ (t : FacePlace). t.axis) one, ap (λ (t : FacePlace). t.place) one)

-- ---- the three cases of a face's place, as a program tells them apart

pub face_place_z : (n : Counts) (f : ℕ) → f % faces_a_layer n < n X * n Y →
    face_place n f ≡ face_by_rows Z (n X) (f / faces_a_layer n) (f % faces_a_layer n)
unfolding face_place
face_place_z n f low = z_face_of_layer n (f / faces_a_layer n) (f % faces_a_layer n) low

face_place_side : (n : Counts) (f s : ℕ) → f % faces_a_layer n ≡ n X * n Y + s →
    face_place n f ≡ side_in_layer n (f / faces_a_layer n) s
unfolding face_place
face_place_side n f s split =
    ap (λ (m : ℕ). face_in_layer n (f / faces_a_layer n) m) split ∙ side_of_layer n (f / faces_a_layer n) s

pub face_place_x : (n : Counts) (f s : ℕ) → f % faces_a_layer n ≡ n X * n Y + s → s < (n X + 1) * n Y →
    face_place n f ≡ face_by_rows X (n X + 1) (f / faces_a_layer n) s
face_place_x n f s split low = face_place_side n f s split ∙ x_face_of_side n (f / faces_a_layer n) s low

pub face_place_y : (n : Counts) (f t : ℕ) → f % faces_a_layer n ≡ n X * n Y + ((n X + 1) * n Y + t) →
    face_place n f ≡ face_by_rows Y (n X) (f / faces_a_layer n) t
face_place_y n f t split = face_place_side n f ((n X + 1) * n Y + t) split ∙ y_face_of_side n (f / faces_a_layer n) t

-- ---- every number below the count

-- the face at t has the number f
record Has (n : Counts) (f : ℕ) (t : FacePlace) : Type 0 where
  within : IsFace n t.axis t.place
  number : face_number n t.axis t.place ≡ f

z_face_has : (n : Counts) (k r : ℕ) → k ≤ n Z → r < n X * n Y →
    Has n (k * faces_a_layer n + r) (face_by_rows Z (n X) k r)
z_face_has n k r in_grid low =
    let row = row_within (n X) (n Y) r low in
    let split : r / n X * n X + r % n X ≡ r = div-add-mod' r (n X) in
    record { within = (row.0, row.1, in_grid); number = ap (λ (m : ℕ). k * faces_a_layer n + m) split }

x_face_has : (n : Counts) (k r : ℕ) → k < n Z → r < (n X + 1) * n Y →
    Has n (k * faces_a_layer n + (n X * n Y + r)) (face_by_rows X (n X + 1) k r)
x_face_has n k r in_grid low =
    let row = row_within (n X + 1) (n Y) r low in
    let split : r / (n X + 1) * (n X + 1) + r % (n X + 1) ≡ r = div-add-mod' r (n X + 1) in
    record {
      within = (omega arith, row.1, in_grid);
      number = ap (λ (m : ℕ). k * faces_a_layer n + (n X * n Y + m)) split;
    }

y_face_has : (n : Counts) (k r : ℕ) → k < n Z → r < n X * (n Y + 1) →
    Has n (k * faces_a_layer n + (n X * n Y + ((n X + 1) * n Y + r))) (face_by_rows Y (n X) k r)
y_face_has n k r in_grid low =
    let row = row_within (n X) (n Y + 1) r low in
    let split : r / n X * n X + r % n X ≡ r = div-add-mod' r (n X) in
    record {
      within = (row.0, omega arith, in_grid);
      number = ap (λ (m : ℕ). k * faces_a_layer n + (n X * n Y + ((n X + 1) * n Y + m))) split;
    }

side_has : (n : Counts) (k r : ℕ) → k < n Z → n X * n Y + r < faces_a_layer n →
    Has n (k * faces_a_layer n + (n X * n Y + r)) (side_in_layer n k r)
side_has n k r in_grid in_layer =
    let x_faces = (n X + 1) * n Y in
    cond_both (nat_lt r x_faces) (face_by_rows X (n X + 1) k r) (face_by_rows Y (n X) k (r - x_faces))
    (λ t. Has n (k * faces_a_layer n + (n X * n Y + r)) t)
    (λ low. x_face_has n k r in_grid (ltb-true r x_faces low))
    (λ past. let high : x_faces ≤ r = ltb-false r x_faces past in
    let rest : x_faces + (r - x_faces) ≡ r = omega arith in
    subst (λ (m : ℕ). Has n (k * faces_a_layer n + (n X * n Y + m)) (face_by_rows Y (n X) k (r - x_faces))) rest
    (y_face_has n k (r - x_faces) in_grid (omega arith)))

layer_has : (n : Counts) (k r : ℕ) → r < faces_a_layer n →
    ((k ≤ n Z) × (r < n X * n Y)) ⊎ ((k < n Z) × (n X * n Y ≤ r)) →
    Has n (k * faces_a_layer n + r) (face_in_layer n k r)
layer_has n k r in_layer (inl (in_grid, low)) =
    subst (λ (t : FacePlace). Has n (k * faces_a_layer n + r) t) (sym (z_face_of_layer n k r low))
    (z_face_has n k r in_grid low)
layer_has n k r in_layer (inr (in_grid, high)) =
    let s = r - n X * n Y in
    let rest : n X * n Y + s ≡ r = omega arith in
    let side : Has n (k * faces_a_layer n + (n X * n Y + s)) (face_in_layer n k (n X * n Y + s)) =
    subst (λ (t : FacePlace). Has n (k * faces_a_layer n + (n X * n Y + s)) t) (sym (side_of_layer n k s))
    (side_has n k s in_grid (omega arith)) in
    subst (λ (m : ℕ). Has n (k * faces_a_layer n + m) (face_in_layer n k m)) rest side

face_has : (n : Counts) (f : ℕ) → f < face_count n → Has n f (face_place n f)
unfolding face_place
face_has n f below =
    let l = faces_a_layer n in
    let stands = layer_within l (n X * n Y) (n Z) f (omega arith) below in
    let split : f / l * l + f % l ≡ f = div-add-mod' f l in
    subst (λ (m : ℕ). Has n m (face_place n f)) split (layer_has n (f / l) (f % l) stands.0 stands.1)

pub face_number_of_place : (n : Counts) (f : ℕ) → f < face_count n →
    let t = face_place n f in face_number n t.axis t.place ≡ f
face_number_of_place n f below = (face_has n f below).number

pub face_place_within : (n : Counts) (f : ℕ) → f < face_count n →
    let t = face_place n f in IsFace n t.axis t.place
face_place_within n f below = (face_has n f below).within
