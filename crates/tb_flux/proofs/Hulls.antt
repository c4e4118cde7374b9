-- A face is adiabatic only on the hull of a mesh whose cells are all filled: inner faces may be passed over.
use Rattle.std.proofs.Common.{◌≡◌, ℕ, zero, suc, ◌+◌, ◌-◌, ◌*◌, ◌/◌, ◌%◌, ◌<◌, ◌≤◌, ◌⊎◌, inl, inr, ⊎_elim, Option, Some, None, ap, refl, subst, sym, ◌∙◌, arith}
use Rattle.std.specs.Prelude.{◌≢◌, Bool, List, ℤ, if◌then◌else◌}
use Rattle.std.proofs.lemmas.Bool.{cases_lt, lt-ltb}
use Rattle.std.proofs.lemmas.Nat.{div-add-mod', mod_below, mul-le}
use Rattle.tb_places.specs.declared.AxisName.{AxisName}
use Rattle.tb_places.specs.declared.AxisName.TheVariants.{X, Y, Z}
use Rattle.tb_places.specs.declared.Place.{Place}
use Rattle.tb_places.specs.Along.{index_along}
use Rattle.tb_places.specs.Places.{Counts, IsFace, along, face_count, face_number, faces_a_layer, place_at, second, third}
use Rattle.tb_places.proofs.Bounds.{face_count_below}
use Rattle.tb_places.proofs.Faces.{face_number_apart, face_number_below}
use Rattle.tb_places.proofs.Rows.{positive_of_below, row_within}
use Rattle.tb_walk.specs.Isolated.{IsFilled}
use Rattle.tb_detail.specs.declared.Content.{Content}
use Rattle.tb_detail.specs.declared.Content.TheVariants.{Solid, Air}
use Rattle.tb_detail.specs.declared.Detail.{Detail}
use Rattle.tb_grid.specs.Grid.{Axes, IsGrid, counts_of}
use Rattle.tb_model.specs.declared.FaceKind.TheVariants.{Shut}
use Rattle.tb_model.specs.Energy.{Flux}
use Rattle.tb_model.specs.Mesh.{Mesh, above, below, kind_at, kind_between}
use Rattle.tb_geometry.specs.Faults.{IsAccepted}
use Rattle.tb_geometry.specs.Grids.{CarriesBody, mesh_on}
use Rattle.tb_geometry.proofs.Whole.{cell_in_box}
use Rattle.tb_flux.specs.Walks.{IsInner, IsTightBelow, ShutsOffBelow}
use Rattle.tb_flux.proofs.Firsts.{same_counts}

-- ---- where a face is adiabatic
-- nothing lies on one of its sides
one_side : (lo hi : Option Content) → kind_between lo hi ≡ Shut → (lo ≡ None) ⊎ (hi ≡ None)
one_side (Some (Solid m)) (Some (Solid n)) e = cc
one_side (Some (Solid m)) (Some (Air f rs)) e = cc
one_side (Some (Solid m)) None e = inr refl
one_side (Some (Air f rs)) (Some (Solid n)) e = cc
one_side (Some (Air f rs)) (Some (Air g rs')) e = cc
one_side (Some (Air f rs)) None e = inr refl
one_side None hi e = inl refl

-- inside a line of filled cells something lies on both
filled_below : (n i : ℕ) (f : ℕ → Option Content) → ((c : ℕ) → c < n → f c ≢ None) → 0 < i → i ≤ n → below f i ≢ None
filled_below n zero f filled first last none = absurd (omega arith)
filled_below n (suc i) f filled first last none = filled i (omega arith) none

filled_above : (n i : ℕ) (f : ℕ → Option Content) → ((c : ℕ) → c < n → f c ≢ None) → i < n → above n f i ≢ None
filled_above n i f filled within none =
    filled i within (sym (ap (λ (b : Bool). if b then f i else None) (lt-ltb i n within)) ∙ none)

inner_is_open : (n i : ℕ) (f : ℕ → Option Content) → ((c : ℕ) → c < n → f c ≢ None) → 0 < i → i < n →
    kind_between (below f i) (above n f i) ≡ Shut → ⊥
inner_is_open n i f filled first last shut =
    ⊎_elim (filled_below n i f filled first (omega arith)) (filled_above n i f filled last) (one_side (below f i) (above n f i) shut)

-- the cells of the line through a face are filled
line_filled : (m : Mesh) (a : AxisName) (p : Place) → IsFilled m → IsFace m.cells a p →
    (c : ℕ) → c < m.cells a → along a m.occupant c (index_along (second a) p) (index_along (third a) p) ≢ None
line_filled m X p filled (on_x, on_y, on_z) c within = filled (place_at c p.j p.k) (within, on_y, on_z)
line_filled m Y p filled (on_x, on_y, on_z) c within = filled (place_at p.i c p.k) (on_x, within, on_z)
line_filled m Z p filled (on_x, on_y, on_z) c within = filled (place_at p.i p.j c) (on_x, on_y, within)

-- an inner face isn't adiabatic
not_shut : (m : Mesh) (a : AxisName) (p : Place) → IsFilled m → IsFace m.cells a p → 0 < index_along a p → index_along a p < m.cells a →
    kind_at m a p ≡ Shut → ⊥
not_shut m a p filled face first last shut =
    inner_is_open (m.cells a) (index_along a p) (λ n. along a m.occupant n (index_along (second a) p) (index_along (third a) p))
    (line_filled m a p filled face) first last shut

inner_not_shut : (m : Mesh) (a : AxisName) (p : Place) → IsFilled m → IsFace m.cells a p → IsInner m.cells (face_number m.cells a p) →
    kind_at m a p ≡ Shut → ⊥
inner_not_shut m a p filled face inner shut =
    let same = face_number_apart m.cells inner.axis a inner.face p inner.in_mesh face inner.numbered in
    let first : 0 < index_along a p =
    subst (λ (b : AxisName). 0 < index_along b p) same.0 (subst (λ (r : Place). 0 < index_along inner.axis r) same.1 inner.above_first) in
    let last : index_along a p < m.cells a =
    subst (λ (b : AxisName). index_along b p < m.cells b) same.0 (subst (λ (r : Place). index_along inner.axis r < m.cells inner.axis) same.1 inner.below_last) in
    not_shut m a p filled face first last shut

-- ---- inner faces are passed over
over_inner : (m : Mesh) (q : Flux) (from to : ℕ) → IsFilled m → ShutsOffBelow m q from →
    ((f : ℕ) → from ≤ f → f < to → IsInner m.cells f) → ShutsOffBelow m q to
over_inner m q from to filled before inner a p face shut below =
    elim (cases_lt (face_number m.cells a p) from) [
      | inl low ↦ before a p face shut low
      | inr high ↦ absurd (inner_not_shut m a p filled face (inner (face_number m.cells a p) high below) shut)
    ]

filled_on : (d : Detail) (g : Axes) → IsAccepted d → CarriesBody g d → IsFilled (mesh_on d g)
filled_on d g accepted carries p cell none =
    let fills = (cell_in_box d g p accepted.apart accepted.covered carries cell).fills in absurd (cc (fills, none))

pub pass_over : (d : Detail) (g : Axes) (values : List ℤ) (from to : ℕ) → IsAccepted d → CarriesBody g d → IsTightBelow d g values from →
    ((f : ℕ) → from ≤ f → f < to → IsInner (counts_of g) f) → IsTightBelow d g values to
pass_over d g values from to accepted carries before inner =
    over_inner (mesh_on d g) _ from to (filled_on d g accepted carries) before
    (subst (λ (n : Counts). (f : ℕ) → from ≤ f → f < to → IsInner n f) (same_counts d g) inner)

-- ---- which numbers inner faces have
nothing : (a : ℕ) → 0 * a ≡ 0
nothing a = omega arith

row_above : (a r : ℕ) → 0 < a → a ≤ r → 0 < r / a
row_above a r some full =
    elim (cases_lt 0 (r / a)) [
      | inl up ↦ up
      | inr none ↦
          let split : r / a * a + r % a ≡ r = div-add-mod' r a in
          let rest : r % a < a = mod_below r a some in
          let first : r / a ≡ 0 = omega arith in
          let none : r / a * a ≡ 0 = ap (λ (q : ℕ). q * a) first ∙ nothing a in
          absurd (omega arith)
    ]

-- of a row of x-faces all but the first and the last,
pub inner_x : (n : Counts) (j k from x f : ℕ) → from ≡ face_number n X (place_at 0 j k) → x ≡ n X → j < n Y → k < n Z →
    from + 1 ≤ f → f + 1 < from + (x + 1) → IsInner n f
inner_x n j k from x f at on_x row layer low high =
    let i = f - from in
    record {
      axis = X;
      face = place_at i j k;
      in_mesh = (omega arith, row, layer);
      numbered = omega arith;
      above_first = omega arith;
      below_last = omega arith;
    }

-- of the y-faces of a layer all but those of the first and the last row,
pub inner_y : (n : Counts) (k from x y f : ℕ) → from ≡ face_number n Y (place_at 0 0 k) → x ≡ n X → y ≡ n Y → k < n Z →
    from + x ≤ f → f + x < from + x * (y + 1) → IsInner n f
inner_y n k from x y f at on_x on_y layer low high =
    let last : f + n X < from + n X * (n Y + 1) =
    subst (λ (b : ℕ). f + n X < from + n X * (b + 1)) on_y (subst (λ (a : ℕ). f + a < from + a * (y + 1)) on_x high) in
    let r = f - from in
    let within : r < n X * n Y = omega arith in
    let row = row_within (n X) (n Y) r within in
    let split : r / n X * n X + r % n X ≡ r = div-add-mod' r (n X) in
    let up = row_above (n X) r (positive_of_below (n X) (n Y) r within) (omega arith) in
    record {
      axis = Y;
      face = place_at (r % n X) (r / n X) k;
      in_mesh = (row.0, omega (arith, row.1), layer);
      numbered = omega arith;
      above_first = up;
      below_last = row.1;
    }

-- and all z-faces at a line that is neither the first nor the last
pub inner_z : (n : Counts) (k from f : ℕ) → from ≡ face_number n Z (place_at 0 0 k) → 0 < k → k < n Z →
    from ≤ f → f < face_number n Z (place_at 0 (n Y) k) → IsInner n f
inner_z n k from f at first last low high =
    let r = f - from in
    let within : r < n X * n Y = omega arith in
    let row = row_within (n X) (n Y) r within in
    let split : r / n X * n X + r % n X ≡ r = div-add-mod' r (n X) in
    record {
      axis = Z;
      face = place_at (r % n X) (r / n X) k;
      in_mesh = (row.0, row.1, omega (arith, last));
      numbered = omega arith;
      above_first = first;
      below_last = last;
    }

-- ---- where rows and layers of faces end
pub z_span : (n : Counts) (k from x y : ℕ) → from ≡ face_number n Z (place_at 0 0 k) → x ≡ n X → y ≡ n Y →
    from + x * y ≡ face_number n Z (place_at 0 (n Y) k)
z_span n k from x y at on_x on_y =
    let area : x * y ≡ n X * n Y = ap (λ (a : ℕ). a * y) on_x ∙ ap (λ (b : ℕ). n X * b) on_y in omega (arith, at, area)

pub x_span : (n : Counts) (j k from x : ℕ) → from ≡ face_number n X (place_at 0 j k) → x ≡ n X →
    from + (x + 1) ≡ face_number n X (place_at 0 (j + 1) k)
x_span n j k from x at on_x = omega arith

pub y_span : (n : Counts) (k from x y : ℕ) → from ≡ face_number n Y (place_at 0 0 k) → x ≡ n X → y ≡ n Y →
    from + x * (y + 1) ≡ face_number n Y (place_at 0 (n Y + 1) k)
y_span n k from x y at on_x on_y =
    let area : x * (y + 1) ≡ n X * (n Y + 1) = ap (λ (a : ℕ). a * (y + 1)) on_x ∙ ap (λ (b : ℕ). n X * (b + 1)) on_y in omega (arith, at, area)

pub z_within : (n : Counts) (k : ℕ) → k ≤ n Z → face_number n Z (place_at 0 (n Y) k) ≤ face_count n
z_within n k line = let layers = mul-le k (faces_a_layer n) (n Z) (faces_a_layer n) line (omega arith) in omega (arith, layers)

pub x_within : (n : Counts) (j k : ℕ) → j < n Y → k < n Z → face_number n X (place_at 0 (j + 1) k) ≤ face_count n
x_within n j k row layer =
    let below = face_number_below n X (place_at (n X) j k) (omega arith, row, layer) in omega (arith, below)

pub y_within : (n : Counts) (k : ℕ) → k < n Z → face_number n Y (place_at 0 (n Y + 1) k) ≤ face_count n
y_within n k layer = let layers = mul-le (k + 1) (faces_a_layer n) (n Z) (faces_a_layer n) (omega (arith, layer)) (omega arith) in omega (arith, layers)

pub some_cells : (g : Axes) → IsGrid g → (a : AxisName) → 0 < counts_of g a
some_cells g grid X = let least = (grid.axes X).least in omega (arith, least)
some_cells g grid Y = let least = (grid.axes Y).least in omega (arith, least)
some_cells g grid Z = let least = (grid.axes Z).least in omega (arith, least)

pub few_faces : (g : Axes) → IsGrid g → face_count (counts_of g) ≤ 1572864
few_faces g grid = let below = face_count_below (counts_of g) (some_cells g grid) in omega (arith, below, grid.few)
