-- Where flags mark the solid cells of a mesh, openings are surfaces.
use Rattle.std.proofs.Common.{◌≡◌, ◌≢◌, ◌↔◌, inl, inr, ℕ, zero, suc, ◌+◌, ◌<◌, ◌≤◌, List, Bool, ⊎_elim, arith, add-one, refl, sym, subst, ◌∙◌}
use Rattle.std.specs.Prelude.{Option, Some, None}
use Rattle.std.proofs.lemmas.Bool.{cases_lt, false_from_ne_true, false≢true}
use mathlib.Core.Path.{fun_ext}
use Rattle.tb_places.specs.declared.AxisName.{AxisName}
use Rattle.tb_places.specs.declared.AxisName.TheVariants.{X, Y, Z}
use Rattle.tb_places.specs.declared.Place.{Place}
use Rattle.tb_places.specs.Places.{Counts, IsCell, place_at}
use Rattle.tb_places.proofs.Rows.{same_place}
use Rattle.tb_detail.specs.declared.Content.{Content}
use Rattle.tb_detail.specs.declared.Content.TheVariants.{Solid, Air}
use Rattle.tb_places.specs.Along.{ahead}
use Rattle.tb_model.specs.Mesh.{Mesh, below, above, kind_between}
use Rattle.tb_model.specs.Faults.{IsSolid}
use Rattle.tb_walk.specs.Paths.{SharesFace}
use Rattle.tb_walk.specs.Marks.{IsMarked, HasOpening, AllReachOpenings, IsFirstWithoutOpening}
use Rattle.tb_walk.specs.Isolated.{IsSolidCell, IsSurface, HasSurface, MarkSolids, NoneIsolated, IsFirstIsolated}
use Rattle.tb_model.specs.Mesh.{kind_at}
use Rattle.tb_walk.proofs.Sets.{Extends, all_reach_in, first_in}

-- ---- two cells beside one another, and the face between them

pub record IsAir (o : Option Content) : Type 0 where
  pub environment : ℕ
  pub resistance : ℕ
  pub fills : o ≡ Some (Air environment resistance)

pub record IsOfSolid (o : Option Content) : Type 0 where
  pub material : ℕ
  pub fills : o ≡ Some (Solid material)

pub air_below : (o u : Option Content) → IsOfSolid u → IsSurface (kind_between o u) → IsAir o
air_below (Some (Solid n)) u solid surface = absurd (subst (λ (v : Option Content). IsSurface (kind_between (Some (Solid n)) v)) solid.fills surface)
air_below (Some (Air e rs)) u solid surface = record { environment = e; resistance = rs; fills = refl }
air_below None u solid surface = absurd (subst (λ (v : Option Content). IsSurface (kind_between None v)) solid.fills surface)

pub air_above : (o u : Option Content) → IsOfSolid o → IsSurface (kind_between o u) → IsAir u
air_above o (Some (Solid n)) solid surface = absurd (subst (λ (v : Option Content). IsSurface (kind_between v (Some (Solid n)))) solid.fills surface)
air_above o (Some (Air e rs)) solid surface = record { environment = e; resistance = rs; fills = refl }
air_above o None solid surface = absurd (subst (λ (v : Option Content). IsSurface (kind_between v None)) solid.fills surface)

pub surface_above : (o u : Option Content) → IsOfSolid o → IsAir u → IsSurface (kind_between o u)
surface_above o u solid air = rw (solid.fills, air.fills) tt

pub surface_below : (o u : Option Content) → IsAir o → IsOfSolid u → IsSurface (kind_between o u)
surface_below o u air solid = rw (solid.fills, air.fills) tt

pub air_or_solid : (o : Option Content) → o ≢ None → (IsOfSolid o → ⊥) → IsAir o
air_or_solid (Some (Solid n)) filled other = absurd (other (record { material = n; fills = refl }))
air_or_solid (Some (Air e rs)) filled other = record { environment = e; resistance = rs; fills = refl }
air_or_solid None filled other = absurd (filled refl)

pub not_solid : (o : Option Content) → IsAir o → IsOfSolid o → ⊥
not_solid o air solid = absurd (cc (air.fills, solid.fills))

pub not_empty : IsAir None → ⊥
not_empty air = absurd (cc air.fills)

-- ---- one line of cells

pub above_within : (n i : ℕ) (f : ℕ → Option Content) → i < n → above n f i ≡ f i
above_within n i f h = grind arith

pub above_past : (n i : ℕ) (f : ℕ → Option Content) → n ≤ i → above n f i ≡ None
above_past n i f h = grind arith

pub next_on_line : (n i : ℕ) (f : ℕ → Option Content) → i + 1 < n → kind_between (below f (i + 1)) (above n f (i + 1)) ≡ kind_between (f i) (f (i + 1))
next_on_line n i f h = rw (above_within n (i + 1) f h, add-one) refl

pub end_of_line : (n i : ℕ) (f : ℕ → Option Content) → n ≤ i + 1 → kind_between (below f (i + 1)) (above n f (i + 1)) ≡ kind_between (f i) None
end_of_line n i f h = rw (above_past n (i + 1) f h, add-one) refl

-- the high face of a solid cell is a surface only where air follows on the line
pub record HasAirAbove (n i : ℕ) (f : ℕ → Option Content) : Type 0 where
  pub within : i + 1 < n
  pub air : IsAir (f (i + 1))

pub high_air : (n i : ℕ) (f : ℕ → Option Content) → IsOfSolid (f i) → IsSurface (kind_between (below f (i + 1)) (above n f (i + 1))) → HasAirAbove n i f
high_air n i f solid surface = ⊎_elim
    (λ (h : i + 1 < n). record { within = h; air = air_above (f i) (f (i + 1)) solid (subst IsSurface (next_on_line n i f h) surface) })
    (λ (h : n ≤ i + 1). absurd (not_empty (air_above (f i) None solid (subst IsSurface (end_of_line n i f h) surface))))
    (cases_lt (i + 1) n)

-- and the low face only where air comes before
pub record HasAirBelow (i : ℕ) (f : ℕ → Option Content) : Type 0 where
  pub index : ℕ
  pub is : index + 1 ≡ i
  pub air : IsAir (f index)

pub low_air : (n i : ℕ) (f : ℕ → Option Content) → i < n → IsOfSolid (f i) → IsSurface (kind_between (below f i) (above n f i)) → HasAirBelow i f
low_air n zero f h solid surface =
    absurd (not_empty (air_below None (f zero) solid (subst (λ (u : Option Content). IsSurface (kind_between None u)) (above_within n zero f h) surface)))
low_air n (suc i) f h solid surface = record {
  index = i;
  is = add-one i;
  air = air_below (f i) (f (suc i)) solid (subst (λ (u : Option Content). IsSurface (kind_between (f i) u)) (above_within n (suc i) f h) surface);
}

-- ---- cells of a mesh

pub is_of_solid : (m : Mesh) (p : Place) → IsSolid m p → IsOfSolid (m.occupant p.i p.j p.k)
is_of_solid m p solid = record { material = solid.material; fills = solid.fills }

pub is_solid : (m : Mesh) (p : Place) → IsOfSolid (m.occupant p.i p.j p.k) → IsSolid m p
is_solid m p solid = record { material = solid.material; fills = solid.fills }

-- the face between a cell and the next one
pub kind_between_next : (m : Mesh) (a : AxisName) (p : Place) → let q = ahead a 1 p in IsCell m.cells q →
    kind_at m a q ≡ kind_between (m.occupant p.i p.j p.k) (m.occupant q.i q.j q.k)
kind_between_next m X p cell = next_on_line (m.cells X) p.i (λ n. m.occupant n p.j p.k) cell.0
kind_between_next m Y p cell = next_on_line (m.cells Y) p.j (λ n. m.occupant p.i n p.k) cell.1
kind_between_next m Z p cell = next_on_line (m.cells Z) p.k (λ n. m.occupant p.i p.j n) cell.2

pub surface_next : (m : Mesh) (a : AxisName) (p q : Place) → ahead a 1 p ≡ q → IsCell m.cells q →
    IsSurface (kind_between (m.occupant p.i p.j p.k) (m.occupant q.i q.j q.k)) → IsSurface (kind_at m a q)
surface_next m a p q next = subst
    (λ (r : Place). IsCell m.cells r → IsSurface (kind_between (m.occupant p.i p.j p.k) (m.occupant r.i r.j r.k)) → IsSurface (kind_at m a r)) next
    (λ cell surface. subst IsSurface (sym (kind_between_next m a p cell)) surface)

-- a face that a solid cell shares with an air cell is a surface
pub surface_at_air : (m : Mesh) (p q : Place) → SharesFace p q → IsSolidCell m p → IsCell m.cells q →
    IsAir (m.occupant q.i q.j q.k) → HasSurface m p
surface_at_air m p q (a, inl next) solid cell air = (a, inr (subst (λ (r : Place). IsSurface (kind_at m a r)) (sym next) (surface_next m a p q next cell (surface_above _ _ (is_of_solid m p solid.1) air))))
surface_at_air m p q (a, inr next) solid cell air = (a, inl (surface_next m a q p next solid.0 (surface_below _ _ air (is_of_solid m p solid.1))))

pub opening_is_surface : (m : Mesh) (flags : List Bool) → MarkSolids m.cells m flags → (p : Place) → IsSolidCell m p →
    HasOpening m.cells flags p → HasSurface m p
opening_is_surface m flags marks p solid opening =
    surface_at_air m p opening.beyond opening.shared solid opening.in_grid (air_or_solid _ (marks.filled opening.beyond opening.in_grid)
    (λ other. false≢true (sym opening.unmarked ∙ (marks.marked opening.beyond opening.in_grid).1 (is_solid m opening.beyond other))))

opening_at_air : (m : Mesh) (flags : List Bool) → MarkSolids m.cells m flags → (p q : Place) → SharesFace p q →
    IsCell m.cells q → IsAir (m.occupant q.i q.j q.k) → HasOpening m.cells flags p
opening_at_air m flags marks p q shared cell air = record {
  beyond = q;
  in_grid = cell;
  shared = shared;
  unmarked = false_from_ne_true _ (λ set. not_solid _ air (is_of_solid m q ((marks.marked q cell).0 set)));
}

pub surface_is_opening : (m : Mesh) (flags : List Bool) → MarkSolids m.cells m flags → (p : Place) → IsSolidCell m p →
    HasSurface m p → HasOpening m.cells flags p
surface_is_opening m flags marks p solid (X, inr surface) =
    let found = high_air (m.cells X) p.i (λ n. m.occupant n p.j p.k) (is_of_solid m p solid.1) surface in
    opening_at_air m flags marks p (ahead X 1 p) (X, inl refl) (found.within, solid.0.1, solid.0.2) found.air
surface_is_opening m flags marks p solid (Y, inr surface) =
    let found = high_air (m.cells Y) p.j (λ n. m.occupant p.i n p.k) (is_of_solid m p solid.1) surface in
    opening_at_air m flags marks p (ahead Y 1 p) (Y, inl refl) (solid.0.0, found.within, solid.0.2) found.air
surface_is_opening m flags marks p solid (Z, inr surface) =
    let found = high_air (m.cells Z) p.k (λ n. m.occupant p.i p.j n) (is_of_solid m p solid.1) surface in
    opening_at_air m flags marks p (ahead Z 1 p) (Z, inl refl) (solid.0.0, solid.0.1, found.within) found.air
surface_is_opening m flags marks p solid (X, inl surface) =
    let found = low_air (m.cells X) p.i (λ n. m.occupant n p.j p.k) solid.0.0 (is_of_solid m p solid.1) surface in
    let q : Place = place_at found.index p.j p.k in
    opening_at_air m flags marks p q (X, inr (same_place (ahead X 1 q) p found.is refl refl)) (omega arith, solid.0.1, solid.0.2) found.air
surface_is_opening m flags marks p solid (Y, inl surface) =
    let found = low_air (m.cells Y) p.j (λ n. m.occupant p.i n p.k) solid.0.1 (is_of_solid m p solid.1) surface in
    let q : Place = place_at p.i found.index p.k in
    opening_at_air m flags marks p q (Y, inr (same_place (ahead Y 1 q) p refl found.is refl)) (solid.0.0, omega arith, solid.0.2) found.air
surface_is_opening m flags marks p solid (Z, inl surface) =
    let found = low_air (m.cells Z) p.k (λ n. m.occupant p.i p.j n) solid.0.2 (is_of_solid m p solid.1) surface in
    let q : Place = place_at p.i p.j found.index in
    opening_at_air m flags marks p q (Z, inr (same_place (ahead Z 1 q) p refl refl found.is)) (solid.0.0, solid.0.1, omega arith) found.air

-- ---- the sets

there : (m : Mesh) (flags : List Bool) → MarkSolids m.cells m flags →
    Extends (IsMarked m.cells flags) (HasOpening m.cells flags) (IsSolidCell m) (HasSurface m)
there m flags marks = record {
  cells = λ p here. (here.0, (marks.marked p here.0).0 here.1);
  openings = λ p here opening. opening_is_surface m flags marks p (here.0, (marks.marked p here.0).0 here.1) opening;
}

back : (m : Mesh) (flags : List Bool) → MarkSolids m.cells m flags →
    Extends (IsSolidCell m) (HasSurface m) (IsMarked m.cells flags) (HasOpening m.cells flags)
back m flags marks = record {
  cells = λ p here. (here.0, (marks.marked p here.0).1 here.1);
  openings = λ p here surface. surface_is_opening m flags marks p here surface;
}

-- what holds with the counts of the mesh holds with counts that are the same
with_counts : (n : Counts) (m : Mesh) (flags : List Bool) (says : Counts → Type 0) → (MarkSolids m.cells m flags → says m.cells) →
    MarkSolids n m flags → says n
with_counts n m flags says proof marks =
    let same : n ≡ m.cells = fun_ext marks.counts in
    subst (λ (k : Counts). MarkSolids k m flags → says k) (sym same) proof marks

pub openings : (n : Counts) (m : Mesh) (flags : List Bool) (p : Place) → MarkSolids n m flags → IsSolidCell m p →
    HasOpening n flags p ↔ HasSurface m p
openings n m flags p marks solid = with_counts n m flags (λ k. HasOpening k flags p ↔ HasSurface m p)
    (λ here. (opening_is_surface m flags here p solid, surface_is_opening m flags here p solid)) marks

pub none : (n : Counts) (m : Mesh) (flags : List Bool) → MarkSolids n m flags → AllReachOpenings n flags ↔ NoneIsolated m
none n m flags marks = with_counts n m flags (λ k. AllReachOpenings k flags ↔ NoneIsolated m)
    (λ here. (all_reach_in _ _ _ _ (there m flags here) (back m flags here), all_reach_in _ _ _ _ (back m flags here) (there m flags here))) marks

pub first : (n : Counts) (m : Mesh) (flags : List Bool) (p : Place) → MarkSolids n m flags → IsFirstWithoutOpening n flags p ↔ IsFirstIsolated m p
first n m flags p marks = with_counts n m flags (λ k. IsFirstWithoutOpening k flags p ↔ IsFirstIsolated m p)
    (λ here. (first_in m.cells _ _ _ _ (there m flags here) (back m flags here) p, first_in m.cells _ _ _ _ (back m flags here) (there m flags here) p)) marks
