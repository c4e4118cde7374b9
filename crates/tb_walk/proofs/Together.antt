-- A grid hangs together: what passes over shared faces passes from each cell of the grid to all.
use Rattle.std.proofs.Common.{◌≡◌, ℕ, zero, suc, ◌<◌, ◌≤◌, inl, ⊎_elim, List, [], Bool, true, false, arith, add-one, refl}
use Rattle.std.specs.Prelude.{Option, Some, None}
use Rattle.std.proofs.lemmas.Bool.{cases_lt}
use Rattle.tb_places.specs.declared.AxisName.TheVariants.{X, Y, Z}
use Rattle.tb_places.specs.declared.Place.{Place}
use Rattle.tb_places.specs.Places.{Counts, IsCell, cell_number}
use Rattle.tb_places.proofs.Cells.{cell_number_apart}
use Rattle.tb_places.proofs.Rows.{same_place}
use Rattle.tb_detail.specs.declared.Content.{Content}
use Rattle.tb_detail.specs.declared.Content.TheVariants.{Solid, Air}
use Rattle.tb_model.specs.Mesh.{Mesh}
use Rattle.tb_model.specs.Faults.{IsSolid}
use Rattle.tb_walk.specs.Paths.{IsEnclosed, SharesFace}
use Rattle.tb_walk.specs.Marks.{flag_at, IsMarked, HasOpening, IsWithoutOpening}
use Rattle.tb_walk.specs.Isolated.{IsFilled, IsIsolated, IsFirstIsolated, IsSolidCell, HasSurface, NoneIsolated, ReachesSurface}
use Rattle.tb_walk.proofs.Meshes.{is_of_solid, not_solid, surface_at_air}
use Rattle.tb_places.specs.Places.{place_at}
use Rattle.tb_walk.proofs.Sets.{shares_back, further_out}

-- a property of cells passes from each cell of a grid to those that share a face with it
Passes : Counts → (Place → Type 0) → Type 0
Passes n holds = (p q : Place) → IsCell n p → IsCell n q → SharesFace p q → holds p → holds q

-- cells one after the other
record IsLine (n : Counts) (count : ℕ) (at : ℕ → Place) : Type 0 where
  cells : (i : ℕ) → i < count → IsCell n (at i)
  shared : (i : ℕ) → SharesFace (at i) (at (suc i))

to_first : (n : Counts) (holds : Place → Type 0) (count : ℕ) (at : ℕ → Place) → Passes n holds → IsLine n count at → (i : ℕ) →
    i < count → holds (at i) → holds (at zero)
unfolding Passes
to_first n holds count at passes line zero below here = here
to_first n holds count at passes line (suc i) below here = to_first n holds count at passes line i (omega arith)
    (passes (at (suc i)) (at i) (line.cells (suc i) below) (line.cells i (omega arith)) (shares_back (at i) (at (suc i)) (line.shared i)) here)

from_first : (n : Counts) (holds : Place → Type 0) (count : ℕ) (at : ℕ → Place) → Passes n holds → IsLine n count at → (i : ℕ) →
    i < count → holds (at zero) → holds (at i)
unfolding Passes
from_first n holds count at passes line zero below here = here
from_first n holds count at passes line (suc i) below here = passes (at i) (at (suc i)) (line.cells i (omega arith)) (line.cells (suc i) below) (line.shared i)
    (from_first n holds count at passes line i (omega arith) here)

along_line : (n : Counts) (holds : Place → Type 0) (count : ℕ) (at : ℕ → Place) → Passes n holds → IsLine n count at → (i j : ℕ) →
    i < count → j < count → holds (at i) → holds (at j)
along_line n holds count at passes line i j from to here = from_first n holds count at passes line j to (to_first n holds count at passes line i from here)

-- along x, then along y, then along z
everywhere : (n : Counts) (holds : Place → Type 0) → Passes n holds → (p q : Place) → IsCell n p → IsCell n q → holds p → holds q
everywhere n holds passes p q from to here =
    let on_x = along_line n holds (n X) (λ t. place_at t p.j p.k) passes
    (record { cells = λ t l. (l, from.1, from.2); shared = λ t. (X, inl (same_place _ _ (add-one t) refl refl)) }) p.i q.i from.0 to.0 here in
    let on_y = along_line n holds (n Y) (λ t. place_at q.i t p.k) passes
    (record { cells = λ t l. (to.0, l, from.2); shared = λ t. (Y, inl (same_place _ _ refl (add-one t) refl)) }) p.j q.j from.1 to.1 on_x in
    along_line n holds (n Z) (λ t. place_at q.i q.j t) passes
    (record { cells = λ t l. (to.0, to.1, l); shared = λ t. (Z, inl (same_place _ _ refl refl (add-one t))) }) p.k q.k from.2 to.2 on_y

-- ---- marked cells

-- an enclosed cell's neighbours in the set are enclosed
enclosed_beside : (inside opens : Place → Type 0) (p q : Place) → SharesFace p q → inside q → IsEnclosed inside opens p → IsEnclosed inside opens q
enclosed_beside inside opens p q shared next enclosed = record {
  in_set = next;
  no_way = λ way. enclosed.no_way (further_out inside opens p q shared next way);
}

-- and it has no opening
no_opening : (inside opens : Place → Type 0) (p : Place) → IsEnclosed inside opens p → ¬ opens p
no_opening inside opens p enclosed opening = enclosed.no_way (record { path = []; exit = p; leads = refl; is_open = opening })

marked_pass : (n : Counts) (flags : List Bool) → Passes n (IsWithoutOpening n flags)
unfolding Passes
marked_pass n flags p q from to shared enclosed = on_flag (flag_at n flags q) refl
  where
    on_flag : (b : Bool) → flag_at n flags q ≡ b → IsWithoutOpening n flags q
    on_flag true set = enclosed_beside (IsMarked n flags) (HasOpening n flags) p q shared (to, set) enclosed
    on_flag false unset = absurd (no_opening (IsMarked n flags) (HasOpening n flags) p enclosed (record { beyond = q; in_grid = to; shared = shared; unmarked = unset }))

pub all_marked : (n : Counts) (flags : List Bool) (p q : Place) → IsWithoutOpening n flags p → IsCell n q → IsMarked n flags q
all_marked n flags p q here to =
    let there : IsWithoutOpening n flags q = everywhere n (IsWithoutOpening n flags) (marked_pass n flags) p q here.in_set.0 to here in
    there.in_set

-- ---- solid cells of a mesh

solids_pass : (m : Mesh) → IsFilled m → Passes m.cells (IsIsolated m)
unfolding Passes
solids_pass m filled p q from to shared enclosed = on_content (m.occupant q.i q.j q.k) refl
  where
    on_content : (o : Option Content) → m.occupant q.i q.j q.k ≡ o → IsIsolated m q
    on_content (Some (Solid n)) is = enclosed_beside (IsSolidCell m) (HasSurface m) p q shared (to, record { material = n; fills = is }) enclosed
    on_content (Some (Air e rs)) is = absurd (no_opening (IsSolidCell m) (HasSurface m) p enclosed (surface_at_air m p q shared enclosed.in_set to (record { environment = e; resistance = rs; fills = is })))
    on_content None is = absurd (filled q to is)

all_isolated : (m : Mesh) (p q : Place) → IsFilled m → IsIsolated m p → IsCell m.cells q → IsIsolated m q
all_isolated m p q filled here to = everywhere m.cells (IsIsolated m) (solids_pass m filled) p q here.in_set.0 to here

pub all_solid : (m : Mesh) (p q : Place) → IsFilled m → IsIsolated m p → IsCell m.cells q → IsSolid m q
all_solid m p q filled here to = let there = all_isolated m p q filled here to in there.in_set.1

pub first_at_corner : (m : Mesh) (p : Place) → IsFilled m → IsFirstIsolated m p → p ≡ place_at 0 0 0
first_at_corner m p filled is =
    let corner = place_at 0 0 0 in
    let within : IsCell m.cells p = is.in_set.0 in
    let cell : IsCell m.cells corner = (omega (arith, within.0), omega (arith, within.1), omega (arith, within.2)) in
    let there = all_isolated m p corner filled (record { in_set = is.in_set; no_way = is.is_bad }) cell in
    cell_number_apart m.cells p corner within cell (⊎_elim
    (λ (l : cell_number m.cells corner < cell_number m.cells p). absurd (there.no_way (is.before corner there.in_set l)))
    (λ (l : cell_number m.cells p ≤ cell_number m.cells corner). omega arith)
    (cases_lt (cell_number m.cells corner) (cell_number m.cells p)))

-- ---- where there is air

-- from a cell, if it is solid, a way leads to a surface
LeadsOut : Mesh → Place → Type 0
LeadsOut m p = IsSolid m p → ReachesSurface m p

ways_pass : (m : Mesh) → IsFilled m → Passes m.cells (LeadsOut m)
unfolding Passes LeadsOut
ways_pass m filled p q from to shared way solid = on_content (m.occupant p.i p.j p.k) refl
  where
    on_content : (o : Option Content) → m.occupant p.i p.j p.k ≡ o → ReachesSurface m q
    on_content (Some (Solid n)) is =
        let here : IsSolid m p = record { material = n; fills = is } in
        further_out (IsSolidCell m) (HasSurface m) q p (shares_back p q shared) (from, here) (way here)
    on_content (Some (Air e rs)) is = record {
      path = [];
      exit = q;
      leads = refl;
      is_open = surface_at_air m q p (shares_back p q shared) (to, solid) from (record { environment = e; resistance = rs; fills = is });
    }
    on_content None is = absurd (filled p from is)

-- an air cell leads each solid part to a surface
pub none_isolated : (m : Mesh) (q : Place) (environment rs : ℕ) → IsFilled m → IsCell m.cells q →
    m.occupant q.i q.j q.k ≡ Some (Air environment rs) → NoneIsolated m
unfolding LeadsOut
none_isolated m q environment rs filled cell air p here =
    let first : LeadsOut m q = λ solid. absurd (not_solid _ (record { environment = environment; resistance = rs; fills = air }) (is_of_solid m q solid)) in
    let there : LeadsOut m p = everywhere m.cells (LeadsOut m) (ways_pass m filled) q p cell here.0 first in
    there here.1
