-- Outlets make a tree: the distance falls from a cell to the next along its outlet.
use Rattle.std.proofs.Common.{◌≡◌, ◌≢◌, inl, inr, ℕ, ◌<◌, arith, refl, sym, ap, subst, ◌∙◌}
use Rattle.std.proofs.Math.Decide.{ℕ_discrete}
use Rattle.tb_places.specs.declared.AxisName.{AxisName}
use Rattle.tb_places.specs.declared.Place.{Place}
use Rattle.tb_places.specs.Inverse.{cell_place}
use Rattle.tb_places.specs.Places.{Counts, cell_number}
use Rattle.tb_places.proofs.Cells.{cell_number_of_place}
use Rattle.tb_places.specs.Along.{ahead}
use Rattle.tb_model.specs.Mesh.{Mesh}
use Rattle.tb_model.specs.declared.FaceKind.TheVariants.{Inner}
use Rattle.tb_walk.specs.Isolated.{IsSolidCell, IsSurface}
use Rattle.tb_model.specs.Mesh.{kind_at}
use Rattle.tb_walk.proofs.Meshes.{kind_between_next}
use Rattle.tb_outlets.specs.declared.side.Side.{Side}
use Rattle.tb_outlets.specs.declared.side.Side.TheVariants.{Low, High}
use Rattle.tb_outlets.specs.Flows.{IsTree}
use Rattle.tb_outlets.specs.Sides.{IsBeyond, kind_on, face_of}
use Rattle.tb_outlets.specs.Outlets.{IsWay, IsRoot, IsDistance, IsOutletOf, IsSolidAt, AreDistances, AreOutlets}
use Rattle.tb_outlets.proofs.Sides.{faces_apart, face_between, one_beyond}

-- ---- the face between two solid cells is Inner

inner_ahead : (m : Mesh) (a : AxisName) (p : Place) → IsSolidCell m p → IsSolidCell m (ahead a 1 p) → kind_at m a (ahead a 1 p) ≡ Inner
inner_ahead m a p first second = kind_between_next m a p second.0 ∙ rw (first.1.fills, second.1.fills) refl

pub inner_between : (m : Mesh) (s : Side) (p q : Place) → IsBeyond s p q → IsSolidCell m p → IsSolidCell m q → kind_on m s p ≡ Inner
inner_between m (High a) p q beyond first second = inner_ahead m a p first (subst (IsSolidCell m) (sym beyond) second)
inner_between m (Low a) p q beyond first second =
    ap (kind_at m a) (sym beyond) ∙ inner_ahead m a q second (subst (IsSolidCell m) (sym beyond) first)

pub no_surface_between : (m : Mesh) (s : Side) (p q : Place) → IsBeyond s p q → IsSolidCell m p → IsSolidCell m q → ¬ IsSurface (kind_on m s p)
no_surface_between m s p q beyond first second surface = subst IsSurface (inner_between m s p q beyond first second) surface

-- ---- distances

cannot_differ : (x y : ℕ) → (x ≢ y → x ≡ y) → x ≡ y
cannot_differ x y h = by_test (ℕ_discrete x y)
  where
    by_test : Dec (x ≡ y) → x ≡ y
    by_test (yes same) = same
    by_test (no other) = h other

-- the root of a linked set is the root that each of its cells has
root_cells : (m : Mesh) (p c d : Place) (s t : Side) → IsRoot m p c s → IsRoot m p d t → ¬ (c ≢ d)
root_cells m p c d s t first second other =
    let up = first.least d t second.solid second.linked second.surface in
    let down = second.least c s first.solid first.linked first.surface in
    no_surface_between m t d c (face_between m.cells c d s t first.solid.0 second.solid.0 other (omega arith)) second.solid first.solid second.surface

pub one_distance : (m : Mesh) (p : Place) (d e : ℕ) → IsDistance m p d → IsDistance m p e → d ≡ e
one_distance m p d e first second = cannot_differ d e (λ differ. absurd
    (root_cells m p first.cell second.cell first.side second.side first.root second.root
    (λ same. differ
    (let long_one = first.long in
    let long_two = second.long in
    let one = first.least second.way (subst (IsWay m p second.way) (sym same) second.leads) in
    let two = second.least first.way (subst (IsWay m p first.way) same first.leads) in
    omega arith))))

-- ---- the tree

-- what makes a tree: each outlet is a surface, or leads to a solid cell of smaller rank
pub record LeadsOut (m : Mesh) (rank : Place → ℕ) (p : Place) (s : Side) : Type 0 where
  pub next : Place
  pub beyond : IsBeyond s p next
  pub solid : IsSolidCell m next
  pub falls : rank next < rank p

other_places : (n : Counts) (c d : ℕ) → c ≢ d → cell_place n c ≢ cell_place n d
other_places n c d other same =
    other (sym (cell_number_of_place n c) ∙ ap (cell_number n) same ∙ cell_number_of_place n d)

nearer : (m : Mesh) (p q : Place) (s : Side) (d e : ℕ) → IsSolidCell m p → IsSolidCell m q → IsBeyond s q p → IsOutletOf m q s →
    IsDistance m p d → IsDistance m q e → d < e
nearer m p q s d e first second beyond (inl root) at_p at_q = absurd (no_surface_between m s q p beyond second first root.surface)
nearer m p q s d e first second beyond (inr is) at_p at_q =
    let leads = is.leads in
    let from = one_distance m q e leads.from at_q leads.from_here in
    let to = one_distance m p d leads.to at_p (subst (λ (r : Place). IsDistance m r leads.to) (one_beyond s q leads.next p leads.beyond beyond) leads.from_next) in
    let falls = leads.nearer in
    omega arith

pub tree : (m : Mesh) (outlet : ℕ → Side) (distance : ℕ → ℕ) → AreOutlets m outlet → AreDistances m distance →
    IsTree (face_of m.cells) (IsSolidAt m) outlet distance
tree m outlet distance outlets distances = record {
  apart = λ c s t here. faces_apart m.cells (cell_place m.cells c) s t here.1.0;
  inwards = λ c d s here there other same.
      nearer m (cell_place m.cells c) (cell_place m.cells d) (outlet d) (distance c) (distance d) here.1 there.1
      (face_between m.cells (cell_place m.cells c) (cell_place m.cells d) s (outlet d) here.1.0 there.1.0 (other_places m.cells c d other) same)
      (outlets d there) (distances c here) (distances d there);
}
