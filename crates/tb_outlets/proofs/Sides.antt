-- A cell's six faces are apart, and a face on sides of two cells lies between them.
use Rattle.std.proofs.Common.{◌≡◌, ◌≢◌, ◌<◌, arith, sym, ap, ◌∙◌}
use Rattle.tb_places.specs.declared.AxisName.{AxisName}
use Rattle.tb_places.specs.declared.AxisName.TheVariants.{X, Y, Z}
use Rattle.tb_places.specs.declared.Place.{Place}
use Rattle.tb_places.specs.Places.{Counts, IsCell, IsFace, face_count}
use Rattle.tb_places.proofs.Faces.{face_number_apart, face_number_below}
use Rattle.tb_places.proofs.Rows.{same_place}
use Rattle.tb_places.specs.Along.{ahead}
use Rattle.tb_outlets.specs.declared.side.Side.{Side}
use Rattle.tb_outlets.specs.declared.side.Side.TheVariants.{Low, High}
use Rattle.tb_outlets.specs.Sides.{IsBeyond, axis_of, place_on, number_on}

pub face_on_side : (n : Counts) (p : Place) (s : Side) → IsCell n p →
    let f = place_on s p in IsFace n (axis_of s) f
face_on_side n p (Low X) cell = (omega (arith, cell.0), cell.1, cell.2)
face_on_side n p (Low Y) cell = (cell.0, omega (arith, cell.1), cell.2)
face_on_side n p (Low Z) cell = (cell.0, cell.1, omega (arith, cell.2))
face_on_side n p (High X) cell = (omega (arith, cell.0), cell.1, cell.2)
face_on_side n p (High Y) cell = (cell.0, omega (arith, cell.1), cell.2)
face_on_side n p (High Z) cell = (cell.0, cell.1, omega (arith, cell.2))

pub number_below : (n : Counts) (p : Place) (s : Side) → IsCell n p → number_on n s p < face_count n
number_below n p s cell = let f = place_on s p in face_number_below n (axis_of s) f (face_on_side n p s cell)

-- one number, one face
pub record IsOneFace (s t : Side) (p q : Place) : Type 0 where
  pub axis : axis_of s ≡ axis_of t
  pub place : place_on s p ≡ place_on t q

pub one_face : (n : Counts) (p q : Place) (s t : Side) → IsCell n p → IsCell n q →
    number_on n s p ≡ number_on n t q → IsOneFace s t p q
one_face n p q s t first second same =
    let f = place_on s p in
    let g = place_on t q in
    let e = face_number_apart n (axis_of s) (axis_of t) f g (face_on_side n p s first) (face_on_side n q t second) same in
    record { axis = e.0; place = e.1 }

never_ahead : (a : AxisName) (p : Place) → p ≢ ahead a 1 p
never_ahead X p e = let same = ap (λ (t : Place). t.i) e in absurd (omega arith)
never_ahead Y p e = let same = ap (λ (t : Place). t.j) e in absurd (omega arith)
never_ahead Z p e = let same = ap (λ (t : Place). t.k) e in absurd (omega arith)

pub back_one : (a : AxisName) (p q : Place) → ahead a 1 p ≡ ahead a 1 q → p ≡ q
back_one X p q e = let along = ap (λ (t : Place). t.i) e in same_place p q (omega arith) (ap (λ (t : Place). t.j) e) (ap (λ (t : Place). t.k) e)
back_one Y p q e = let along = ap (λ (t : Place). t.j) e in same_place p q (ap (λ (t : Place). t.i) e) (omega arith) (ap (λ (t : Place). t.k) e)
back_one Z p q e = let along = ap (λ (t : Place). t.k) e in same_place p q (ap (λ (t : Place). t.i) e) (ap (λ (t : Place). t.j) e) (omega arith)

sides_apart : (p : Place) (s t : Side) → axis_of s ≡ axis_of t → place_on s p ≡ place_on t p → s ≡ t
sides_apart p (Low a) (Low b) axis place = ap Low axis
sides_apart p (High a) (High b) axis place = ap High axis
sides_apart p (Low a) (High b) axis place = absurd (never_ahead b p place)
sides_apart p (High a) (Low b) axis place = absurd (never_ahead a p (sym place))

-- the six faces of a cell are apart
pub faces_apart : (n : Counts) (p : Place) (s t : Side) → IsCell n p → number_on n s p ≡ number_on n t p → s ≡ t
faces_apart n p s t cell same = let one = one_face n p p s t cell cell same in sides_apart p s t one.axis one.place

between : (p q : Place) (s t : Side) → p ≢ q → axis_of s ≡ axis_of t → place_on s p ≡ place_on t q → IsBeyond t q p
between p q (Low a) (Low b) other axis place = absurd (other place)
between p q (High a) (High b) other axis place =
    absurd (other (back_one a p q (place ∙ sym (ap (λ (c : AxisName). ahead c 1 q) axis))))
between p q (Low a) (High b) other axis place = sym place
between p q (High a) (Low b) other axis place = sym (ap (λ (c : AxisName). ahead c 1 p) axis) ∙ place

-- a face on sides of two cells lies between them
pub face_between : (n : Counts) (p q : Place) (s t : Side) → IsCell n p → IsCell n q → p ≢ q →
    number_on n s p ≡ number_on n t q → IsBeyond t q p
face_between n p q s t first second other same =
    let one = one_face n p q s t first second same in between p q s t other one.axis one.place

-- only one place lies beyond a side
pub one_beyond : (s : Side) (p q r : Place) → IsBeyond s p q → IsBeyond s p r → q ≡ r
one_beyond (Low a) p q r first second = back_one a q r (first ∙ sym second)
one_beyond (High a) p q r first second = sym first ∙ second
