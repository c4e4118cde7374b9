-- A cell has one outlet, and the face there carries heat.
use Rattle.std.proofs.Common.{[], ◌∷◌, get_or, ◌≡◌, inl, inr, ℕ, ◌<◌, ◌≤◌, true, arith, refl, sym, ap, subst, ◌∙◌, ⊎_elim}
use Rattle.std.proofs.lemmas.Bool.{cases_lt}
use Rattle.tb_places.specs.declared.AxisName.TheVariants.{X, Y, Z}
use Rattle.tb_places.specs.declared.Place.{Place}
use Rattle.tb_places.specs.declared.FacePlace.{FacePlace}
use Rattle.tb_places.specs.Inverse.{cell_place}
use Rattle.tb_places.specs.Places.{IsCell, cell_number}
use Rattle.tb_places.proofs.Cells.{cell_number_below, cell_place_of_number}
use Rattle.tb_places.proofs.Faces.{face_place_of_number}
use Rattle.tb_model.specs.Mesh.{Mesh}
use Rattle.tb_model.specs.declared.FaceKind.{FaceKind}
use Rattle.tb_model.specs.declared.FaceKind.TheVariants.{Inner, Surface, Shut, Idle}
use Rattle.tb_walk.specs.Isolated.{IsSolidCell, IsSurface}
use Rattle.tb_model.specs.Mesh.{kind_at}
use Rattle.tb_outlets.specs.declared.side.Side.{Side}
use Rattle.tb_outlets.specs.declared.side.Side.TheVariants.{Low, High}
use Rattle.tb_outlets.specs.Flows.{IsOutlet}
use Rattle.tb_outlets.specs.Sides.{axis_of, place_on, number_on, kind_on, face_of}
use Rattle.tb_outlets.specs.Outlets.{IsRoot, IsDistance, LeadsNearer, IsFirstNearer, IsOutletOf, IsSolidAt, AreOutlets, side_number}
use Rattle.tb_outlets.specs.Repair.{IsOutletFace, carries, kind_of}
use Rattle.tb_outlets.proofs.Sides.{face_on_side, faces_apart}
use Rattle.tb_outlets.proofs.Trees.{inner_between, one_distance}

-- ---- the first of six is one

side_of : ℕ → Side
side_of n = get_or (Low X ∷ High X ∷ Low Y ∷ High Y ∷ Low Z ∷ High Z ∷ []) n (Low X)

side_of_number : (s : Side) → side_of (side_number s) ≡ s
unfolding side_of
side_of_number (Low X) = refl
side_of_number (High X) = refl
side_of_number (Low Y) = refl
side_of_number (High Y) = refl
side_of_number (Low Z) = refl
side_of_number (High Z) = refl

one_first : (m : Mesh) (p : Place) (s t : Side) → IsFirstNearer m p s → IsFirstNearer m p t → s ≡ t
one_first m p s t first second =
    let same : side_number s ≡ side_number t = ⊎_elim
    (λ (l : side_number s < side_number t). absurd (second.first s l first.leads))
    (λ (l : side_number t ≤ side_number s). ⊎_elim
    (λ (k : side_number t < side_number s). absurd (first.first t k second.leads))
    (λ (k : side_number s ≤ side_number t). omega arith)
    (cases_lt (side_number t) (side_number s)))
    (cases_lt (side_number s) (side_number t)) in
    sym (side_of_number s) ∙ ap side_of same ∙ side_of_number t

-- nothing leads nearer from the root's cell
at_root : (m : Mesh) (p : Place) (s : Side) → IsRoot m p p s → IsDistance m p 1
at_root m p s root = record {
  solid = root.solid;
  cell = p;
  side = s;
  root = root;
  way = [];
  leads = refl;
  long = refl;
  least = λ other way. omega arith;
}

root_is_last : (m : Mesh) (p : Place) (s t : Side) → IsRoot m p p s → LeadsNearer m p t → ⊥
root_is_last m p s t root leads =
    let one = one_distance m p leads.from 1 leads.from_here (at_root m p s root) in
    let some = leads.from_next.long in
    let falls = leads.nearer in
    omega arith

pub one_outlet : (m : Mesh) (p : Place) (s t : Side) → IsSolidCell m p → IsOutletOf m p s → IsOutletOf m p t → s ≡ t
one_outlet m p s t solid (inl first) (inl second) =
    let up = first.least p t second.solid second.linked second.surface in
    let down = second.least p s first.solid first.linked first.surface in
    faces_apart m.cells p s t solid.0 (omega arith)
one_outlet m p s t solid (inl first) (inr second) = absurd (root_is_last m p s t first second.leads)
one_outlet m p s t solid (inr first) (inl second) = absurd (root_is_last m p t s second first.leads)
one_outlet m p s t solid (inr first) (inr second) = one_first m p s t first second

-- ---- faces that are outlets

pub outlet_is_face : (m : Mesh) (outlet : ℕ → Side) → AreOutlets m outlet → (f : ℕ) →
    IsOutlet (face_of m.cells) (IsSolidAt m) outlet f → IsOutletFace m f
outlet_is_face m outlet outlets f is = record {
  cell = cell_place m.cells is.cell;
  side = outlet is.cell;
  solid = is.in_set.1;
  outlet = outlets is.cell is.in_set;
  at = is.is;
}

pub face_is_outlet : (m : Mesh) (outlet : ℕ → Side) → AreOutlets m outlet → (f : ℕ) →
    IsOutletFace m f → IsOutlet (face_of m.cells) (IsSolidAt m) outlet f
face_is_outlet m outlet outlets f is =
    let p = is.cell in
    let c = cell_number m.cells p in
    let here : cell_place m.cells c ≡ p = cell_place_of_number m.cells p is.solid.0 in
    let inside : IsSolidAt m c = (cell_number_below m.cells p is.solid.0, subst (IsSolidCell m) (sym here) is.solid) in
    let same : outlet c ≡ is.side = one_outlet m p (outlet c) is.side is.solid (subst (λ (q : Place). IsOutletOf m q (outlet c)) here (outlets c inside)) is.outlet in
    record {
      cell = c;
      in_set = inside;
      is = ap (face_of m.cells c) same ∙ ap (λ (q : Place). number_on m.cells is.side q) here ∙ is.at;
    }

-- ---- an outlet carries heat

surface_carries : (k : FaceKind) → IsSurface k → carries k ≡ true
surface_carries Inner surface = refl
surface_carries (Surface e rs low) surface = refl
surface_carries Shut surface = absurd surface
surface_carries Idle surface = absurd surface

carries_outlet : (m : Mesh) (p : Place) (s : Side) → IsSolidCell m p → IsOutletOf m p s → carries (kind_on m s p) ≡ true
carries_outlet m p s solid (inl root) = surface_carries (kind_on m s p) root.surface
carries_outlet m p s solid (inr is) =
    ap carries (inner_between m s p is.leads.next is.leads.beyond solid is.leads.solid)

pub kind_of_number : (m : Mesh) (p : Place) (s : Side) → IsCell m.cells p → kind_of m (number_on m.cells s p) ≡ kind_on m s p
kind_of_number m p s cell =
    let f = place_on s p in
    ap (λ (g : FacePlace). kind_at m g.axis g.place) (face_place_of_number m.cells (record { axis = axis_of s; place = f }) (face_on_side m.cells p s cell))

pub outlet_carries : (m : Mesh) (f : ℕ) → IsOutletFace m f → carries (kind_of m f) ≡ true
outlet_carries m f is =
    ap (λ (g : ℕ). carries (kind_of m g)) (sym is.at) ∙ ap carries (kind_of_number m is.cell is.side is.solid.0)
    ∙ carries_outlet m is.cell is.side is.solid is.outlet
