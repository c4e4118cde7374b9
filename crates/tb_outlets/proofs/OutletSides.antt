-- The outlets that a program finds from distances are those of the mesh.
use Rattle.std.proofs.Common.{◌≡◌, ◌≢◌, inl, inr, ℕ, ◌+◌, ◌<◌, List, [], length, Bool, arith, refl, sym, subst, ⊎_elim}
use Rattle.std.specs.Prelude.{slice_set}
use Rattle.std.proofs.Common.{◌++◌, take, get_or-set_same, get_or-set_other}
use Rattle.std.proofs.Math.Seq.{take-append_seam}
use Rattle.std.proofs.lemmas.Bool.{cases_eq}
use Rattle.tb_outlets.specs.Balancing.{side_at}
use Rattle.tb_places.specs.declared.AxisName.TheVariants.{X, Y, Z}
use Rattle.tb_places.specs.declared.Place.{Place}
use Rattle.tb_places.specs.Inverse.{cell_place}
use Rattle.tb_places.specs.Places.{Counts, cell_count, cell_number, face_count}
use Rattle.tb_places.proofs.Cells.{cell_number_below, cell_place_of_number, cell_place_within}
use Rattle.tb_grid.specs.declared.ids.CellId.{CellId}
use Rattle.tb_model.specs.Mesh.{Mesh}
use Rattle.tb_walk.specs.Isolated.{IsSolidCell, MarkSolids, NoneIsolated}
use Rattle.tb_walk.specs.Spreading.{AreNeighbours}
use Rattle.tb_outlets.specs.declared.side.Side.{Side}
use Rattle.tb_outlets.specs.declared.side.Side.TheVariants.{Low, High}
use Rattle.tb_outlets.specs.declared.marks.Mark.{Mark}
use Rattle.tb_outlets.specs.Sides.{IsBeyond}
use Rattle.tb_outlets.specs.Outlets.{AreOutlets, IsDistance, IsOutletOf, IsSolidAt, LeadsNearer, side_number}
use Rattle.tb_outlets.specs.Searching.{HasNearer, HasRoot, IsFirstNearerAt, IsOpening, IsOutletAt, IsRootAt, LeadsNearerAt, distance_at, root_at}
use Rattle.tb_outlets.proofs.Trees.{one_distance}
use Rattle.tb_outlets.specs.Searching.{IsMarked}
use Rattle.tb_outlets.proofs.Roots.{one_opening}
use Rattle.tb_outlets.proofs.Sides.{number_below}
use Rattle.tb_outlets.proofs.Distances.{are_distances, root_of}
use Rattle.tb_outlets.proofs.Orders.{solid_at}
use Rattle.tb_outlets.proofs.Ways.{HasWay, IsDone}

-- what holds of none of the first k sides
pub earlier : (P : Side → Type 0) (k : ℕ) → (0 < k → ¬ P (Low X)) → (1 < k → ¬ P (High X)) → (2 < k → ¬ P (Low Y)) → (3 < k → ¬ P (High Y)) →
    (4 < k → ¬ P (Low Z)) → (5 < k → ¬ P (High Z)) → (t : Side) → side_number t < k → ¬ P t
earlier P k a b c d e f (Low X) below = a below
earlier P k a b c d e f (High X) below = b below
earlier P k a b c d e f (Low Y) below = c below
earlier P k a b c d e f (High Y) below = d below
earlier P k a b c d e f (Low Z) below = e below
earlier P k a b c d e f (High Z) below = f below

pub nearer_on_side : (n : Counts) (marks : List Mark) (c : ℕ) → HasNearer n marks c → (s : Side) × LeadsNearerAt n marks c s
nearer_on_side n marks c has = by_side has.beside
  where
    nearer : distance_at marks has.next < distance_at marks c
    nearer = let e = has.nearer in omega arith

    by_side : AreNeighbours n has.axis c has.next → (s : Side) × LeadsNearerAt n marks c s
    by_side (inl next) = (Low has.axis, record { next = has.next; in_grid = next.first; beyond = next.next; found = has.found; nearer = nearer })
    by_side (inr next) = (High has.axis, record { next = has.next; in_grid = next.second; beyond = next.next; found = has.found; nearer = nearer })

-- the first side that leads nearer, where the sides before it don't
pub first_at : (n : Counts) (marks : List Mark) (c : ℕ) (s : Side) → LeadsNearerAt n marks c s →
    (0 < side_number s → ¬ LeadsNearerAt n marks c (Low X)) → (1 < side_number s → ¬ LeadsNearerAt n marks c (High X)) →
    (2 < side_number s → ¬ LeadsNearerAt n marks c (Low Y)) → (3 < side_number s → ¬ LeadsNearerAt n marks c (High Y)) →
    (4 < side_number s → ¬ LeadsNearerAt n marks c (Low Z)) → IsFirstNearerAt n marks c s
first_at n marks c s leads x x' y y' z = record {
  leads = leads;
  first = earlier (LeadsNearerAt n marks c) (side_number s) x x' y y' z (λ l. absurd (past s l));
}
  where
    past : (s : Side) → 5 < side_number s → ⊥
    past (Low X) l = omega arith
    past (High X) l = omega arith
    past (Low Y) l = omega arith
    past (High Y) l = omega arith
    past (Low Z) l = omega arith
    past (High Z) l = omega arith

-- where the first five don't, the last one does
pub last_nearer : (n : Counts) (marks : List Mark) (c : ℕ) → HasNearer n marks c → ¬ LeadsNearerAt n marks c (Low X) → ¬ LeadsNearerAt n marks c (High X) →
    ¬ LeadsNearerAt n marks c (Low Y) → ¬ LeadsNearerAt n marks c (High Y) → ¬ LeadsNearerAt n marks c (Low Z) → IsFirstNearerAt n marks c (High Z)
last_nearer n marks c has x x' y y' z =
    let some = nearer_on_side n marks c has in
    first_at n marks c (High Z) (by_side some.0 some.1) (λ l. x) (λ l. x') (λ l. y) (λ l. y') (λ l. z)
  where
    by_side : (s : Side) → LeadsNearerAt n marks c s → LeadsNearerAt n marks c (High Z)
    by_side (Low X) leads = absurd (x leads)
    by_side (High X) leads = absurd (x' leads)
    by_side (Low Y) leads = absurd (y leads)
    by_side (High Y) leads = absurd (y' leads)
    by_side (Low Z) leads = absurd (z leads)
    by_side (High Z) leads = leads

-- ---- on a mesh

leads_there : (m : Mesh) (flags : List Bool) (marks : List Mark) (order : List CellId) → MarkSolids m.cells m flags → NoneIsolated m →
    IsDone m.cells flags (face_count m.cells) marks order → (c : ℕ) (s : Side) → IsSolidAt m c → LeadsNearerAt m.cells marks c s → LeadsNearer m (cell_place m.cells c) s
leads_there m flags marks order mark reach done c s here leads =
    let distances = are_distances m flags marks order mark reach done in
    let there = solid_at m flags marks order mark done leads.next leads.found in
    record {
      next = cell_place m.cells leads.next;
      beyond = leads.beyond;
      solid = there.1;
      from = distance_at marks c;
      to = distance_at marks leads.next;
      from_here = distances c here;
      from_next = distances leads.next there;
      nearer = leads.nearer;
    }

leads_back : (m : Mesh) (flags : List Bool) (marks : List Mark) (order : List CellId) → MarkSolids m.cells m flags → NoneIsolated m →
    IsDone m.cells flags (face_count m.cells) marks order → (c : ℕ) (s : Side) → IsSolidAt m c → LeadsNearer m (cell_place m.cells c) s → LeadsNearerAt m.cells marks c s
leads_back m flags marks order mark reach done c s here leads =
    let n = m.cells in
    let distances = are_distances m flags marks order mark reach done in
    let q = leads.next in
    let d = cell_number n q in
    let at : cell_place n d ≡ q = cell_place_of_number n q leads.solid.0 in
    let there : IsSolidAt m d = (cell_number_below n q leads.solid.0, subst (IsSolidCell m) (sym at) leads.solid) in
    let from = one_distance m (cell_place n c) leads.from (distance_at marks c) leads.from_here (distances c here) in
    let to = one_distance m q leads.to (distance_at marks d) leads.from_next (subst (λ (p : Place). IsDistance m p (distance_at marks d)) at (distances d there)) in
    let falls = leads.nearer in
    let some = leads.from_next.long in
    record {
      next = d;
      in_grid = there.0;
      beyond = subst (IsBeyond s (cell_place n c)) (sym at) leads.beyond;
      found = omega arith;
      nearer = omega arith;
    }

outlet_is : (m : Mesh) (flags : List Bool) (marks : List Mark) (order : List CellId) → MarkSolids m.cells m flags → NoneIsolated m →
    IsDone m.cells flags (face_count m.cells) marks order → (c : ℕ) (s : Side) → IsSolidAt m c → IsOutletAt m.cells flags marks c s → IsOutletOf m (cell_place m.cells c) s
outlet_is m flags marks order mark reach done c s here (inl root) =
    let first = root.first in
    let way : HasWay m.cells flags marks (IsSolidCell m) c = record {
      end = c;
      found = omega arith;
      root = record { first = root.first; side = s; opening = root.opening.opening; root = root.opening.face };
      same_root = refl;
      way = [];
      leads = refl;
      long = root.first;
    } in
    inl (root_of m flags marks order mark done c (omega arith) here.1 way)
outlet_is m flags marks order mark reach done c s here (inr is) = inr (record {
  leads = leads_there m flags marks order mark reach done c s here is.leads;
  first = λ t below leads. is.first t below (leads_back m flags marks order mark reach done c t here leads);
})

pub are_outlets : (m : Mesh) (flags : List Bool) (marks : List Mark) (order : List CellId) (outlet : ℕ → Side) → MarkSolids m.cells m flags → NoneIsolated m →
    IsDone m.cells flags (face_count m.cells) marks order →
    ((c : ℕ) → 0 < distance_at marks c → IsOutletAt m.cells flags marks c (outlet c)) → AreOutlets m outlet
are_outlets m flags marks order outlet mark reach done each c here =
    let some = (are_distances m flags marks order mark reach done c here).long in
    outlet_is m flags marks order mark reach done c (outlet c) here (each c (omega arith))

-- ---- the root of a cell of distance 1

has_root : (n : Counts) (solid : List Bool) (marks : List Mark) (c : ℕ) → IsMarked n solid marks c → distance_at marks c ≡ 1 → HasRoot n solid marks c
has_root n solid marks c marked first = ⊎_elim
    (λ (has : HasRoot n solid marks c). has)
    (λ (has : HasNearer n marks c). let some = has.found in let nearer = has.nearer in absurd (omega arith))
    (marked.origin (omega arith))

root_opening : (n : Counts) (solid : List Bool) (marks : List Mark) (c : ℕ) → c < cell_count n → IsMarked n solid marks c → distance_at marks c ≡ 1 →
    (s : Side) × IsOpening n solid (root_at marks c) c s
root_opening n solid marks c below marked first =
    let has = has_root n solid marks c marked first in
    (has.side, record { cell = below; in_set = marked.in_set (omega arith); opening = has.opening; face = has.root })

pub root_below : (n : Counts) (solid : List Bool) (marks : List Mark) (c : ℕ) → c < cell_count n → IsMarked n solid marks c → distance_at marks c ≡ 1 →
    root_at marks c < face_count n
root_below n solid marks c below marked first =
    let has = has_root n solid marks c marked first in
    let within = number_below n (cell_place n c) has.side (cell_place_within n c below) in
    let face = has.root in
    omega arith

pub root_side : (n : Counts) (solid : List Bool) (marks : List Mark) (c d : ℕ) (s : Side) → c < cell_count n → IsMarked n solid marks c → distance_at marks c ≡ 1 →
    IsOpening n solid (root_at marks c) d s → IsRootAt n solid marks c s
root_side n solid marks c d s below marked first opening =
    let own = root_opening n solid marks c below marked first in
    let same = one_opening n solid (root_at marks c) d c s own.0 opening own.1 in
    record { first = first; opening = subst (λ (x : ℕ). IsOpening n solid (root_at marks c) x s) same opening }

-- ---- a list of sides, written one after the other

pub one_written : (P : ℕ → Side → Type 0) (sides : List Side) (k : ℕ) (s : Side) → k < length sides →
    ((c : ℕ) → c < k → P c (side_at sides c)) → P k s → (c : ℕ) → c < k + 1 → P c (side_at (slice_set sides k s) c)
one_written P sides k s within before here c below = ⊎_elim
    (λ (same : c ≡ k). subst (λ (x : ℕ). P x (side_at (slice_set sides k s) x)) (sym same) (subst (P k) (sym (get_or-set_same sides k s (Low X) within)) here))
    (λ (other : c ≢ k). subst (P c) (sym (get_or-set_other sides k c s (Low X) other)) (before c (omega arith)))
    (cases_eq c k)

-- a slice of a whole list is given back as the list
pub given_back : (n : ℕ) (new rest : List Side) → n ≡ length new → take n (new ++ rest) ≡ new
given_back n new rest e = subst (λ (m : ℕ). take m (new ++ rest) ≡ new) (sym e) (take-append_seam new rest)
