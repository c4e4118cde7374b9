-- The first faults of a flux, found by a walk over numbers.
use Rattle.std.proofs.Common.{◌≡◌, ◌≢◌, ℕ, zero, suc, ◌+◌, ◌<◌, ◌⊎◌, inl, inr, List, ap, sym, subst, ◌∙◌, refl, arith}
use Rattle.std.specs.Prelude.{ℤ, pos, negsuc, slice_index_or, MatchOption, Option, Some, None}
use Rattle.std.proofs.lemmas.Bool.{cases_lt}
use Rattle.tb_math.specs.Rational.{ℚ, int}
use Rattle.tb_math.specs.Ceiling.{ceiling}
use Rattle.tb_math.proofs.CeilingLaws.{ceiling-int}
use Rattle.tb_places.specs.declared.FacePlace.{FacePlace}
use Rattle.tb_places.specs.declared.Place.{Place}
use Rattle.tb_places.specs.Inverse.{cell_place, face_place}
use Rattle.tb_places.specs.Places.{Counts, cell_count, cell_number, face_count, face_number}
use Rattle.tb_places.proofs.ByAxis.{same_by_axis}
use Rattle.tb_places.proofs.Cells.{cell_number_of_place, cell_number_below, cell_place_of_number, cell_place_within}
use Rattle.tb_places.proofs.Faces.{face_number_of_place, face_number_below, face_place_of_number, face_place_within}
use Rattle.tb_detail.specs.declared.Detail.{Detail}
use Rattle.tb_grid.specs.declared.ids.FaceId.{FaceId}
use Rattle.tb_grid.specs.Grid.{Axes, counts_of}
use Rattle.tb_model.specs.Energy.{Flux, outflow}
use Rattle.tb_model.specs.Faults.{IsFirstOuter, IsFirstUnbalanced, IsSolid}
use Rattle.tb_model.specs.Mesh.{Mesh}
use Rattle.tb_geometry.specs.Grids.{mesh_on}
use Rattle.tb_flux.specs.Fluxes.{IsLoss, IsPassed, IsShut, KeepsHeat, ShutsOff, flux_on}
use Rattle.tb_flux.specs.Walks.{FindsOuter, KeepsHeatBelow, ShutsOffBelow}

-- the mesh of a body on a grid has the grid's cells
pub same_counts : (d : Detail) (g : Axes) → counts_of g ≡ (mesh_on d g).cells
same_counts d g = same_by_axis _ _ _ _ refl refl refl

-- ---- faces

-- the flow through a face at a place
abbrev pub flow_at : Flux → FacePlace → ℚ
flow_at q f = q f.axis f.place.i f.place.j f.place.k

-- a face of a mesh is adiabatic, and heat passes it
abbrev pub Leaks : Mesh → Flux → FacePlace → Type 0
Leaks m q f = IsShut m f × (flow_at q f ≢ int (pos 0))

pub none_shut_off : (m : Mesh) (q : Flux) → ShutsOffBelow m q 0
none_shut_off m q a p face shut below = absurd (omega arith)

one_more_shut : (m : Mesh) (q : Flux) (f : ℕ) → ShutsOffBelow m q f →
    (IsShut m (face_place m.cells f) → flow_at q (face_place m.cells f) ≡ int (pos 0)) → ShutsOffBelow m q (f + 1)
one_more_shut m q f before here a p face shut below =
    let t : FacePlace = record { axis = a; place = p } in
    elim (cases_lt (face_number m.cells a p) f) [
      | inl low ↦ before a p face shut low
      | inr high ↦
          let same : face_number m.cells a p ≡ f = omega arith in
          let at : face_place m.cells f ≡ t = ap (λ (n : ℕ). face_place m.cells n) (sym same) ∙ face_place_of_number m.cells t face in
          subst (λ (s : FacePlace). flow_at q s ≡ int (pos 0)) at (here (subst (λ (s : FacePlace). IsShut m s) (sym at) shut))
    ]

first_leak : (m : Mesh) (q : Flux) (f : ℕ) → f < face_count m.cells → ShutsOffBelow m q f →
    IsShut m (face_place m.cells f) → flow_at q (face_place m.cells f) ≢ int (pos 0) → IsFirstOuter m q f
first_leak m q f below before shut passing = record {
  axis = (face_place m.cells f).axis;
  face = (face_place m.cells f).place;
  in_mesh = face_place_within m.cells f below;
  numbered = face_number_of_place m.cells f below;
  shut = shut;
  passing = passing;
  first = before;
}

all_shut_off : (m : Mesh) (q : Flux) → ShutsOffBelow m q (face_count m.cells) → ShutsOff m q
all_shut_off m q before a p face shut = before a p face shut (face_number_below m.cells a p face)

-- the flow through the face of a number
flow_of_number : (g : Axes) (values : List ℤ) (f : ℕ) → f < face_count (counts_of g) →
    flow_at (flux_on g values) (face_place (counts_of g) f) ≡ int (slice_index_or values f (pos 0))
flow_of_number g values f below = ap (λ (n : ℕ). int (slice_index_or values n (pos 0))) (face_number_of_place (counts_of g) f below)

pub int-zero : (z : ℤ) → int z ≡ int (pos 0) → z ≡ pos 0
int-zero z e = sym (ceiling-int z) ∙ ap ceiling e ∙ ceiling-int (pos 0)

nothing_or_not : (z : ℤ) → (z ≡ pos 0) ⊎ (z ≢ pos 0)
nothing_or_not (pos zero) = inl refl
nothing_or_not (pos (suc n)) = inr (λ e. (cc))
nothing_or_not (negsuc n) = inr (λ e. (cc))

-- ---- on a grid

pub leak_is_first : (d : Detail) (g : Axes) (values : List ℤ) (f : ℕ) → f < face_count (counts_of g) →
    ShutsOffBelow (mesh_on d g) (flux_on g values) f → IsPassed (mesh_on d g) (counts_of g) values f →
    IsFirstOuter (mesh_on d g) (flux_on g values) f
leak_is_first d g values f below before passed =
    let m = mesh_on d g in let q = flux_on g values in
    let e : counts_of g ≡ m.cells = same_counts d g in
    let flows : flow_at q (face_place (counts_of g) f) ≢ int (pos 0) =
    λ none. passed.passing (int-zero _ (sym (flow_of_number g values f below) ∙ none)) in
    first_leak m q f
    (subst (λ (n : Counts). f < face_count n) e below) before
    (subst (λ (n : Counts). IsShut m (face_place n f)) e passed.shut)
    (subst (λ (n : Counts). flow_at q (face_place n f) ≢ int (pos 0)) e flows)

pub no_leak : (d : Detail) (g : Axes) (values : List ℤ) (f : ℕ) → f < face_count (counts_of g) →
    ShutsOffBelow (mesh_on d g) (flux_on g values) f → (IsPassed (mesh_on d g) (counts_of g) values f → ⊥) →
    ShutsOffBelow (mesh_on d g) (flux_on g values) (f + 1)
no_leak d g values f below before tight =
    let m = mesh_on d g in let q = flux_on g values in
    let nothing : IsShut m (face_place (counts_of g) f) → slice_index_or values f (pos 0) ≡ pos 0 =
    λ shut. elim (nothing_or_not (slice_index_or values f (pos 0))) [
      | inl none ↦ none
      | inr some ↦ absurd (tight (record { shut = shut; passing = some }))
    ] in
    one_more_shut m q f before
    (subst (λ (n : Counts). IsShut m (face_place n f) → flow_at q (face_place n f) ≡ int (pos 0)) (same_counts d g)
    (λ shut. flow_of_number g values f below ∙ ap int (nothing shut)))

pub none_leaks : (d : Detail) (g : Axes) (q : Flux) → ShutsOffBelow (mesh_on d g) q (face_count (counts_of g)) → ShutsOff (mesh_on d g) q
none_leaks d g q before =
    all_shut_off (mesh_on d g) q (subst (λ (n : Counts). ShutsOffBelow (mesh_on d g) q (face_count n)) (same_counts d g) before)

-- what a walk over all faces has found
pub outer_in_all : (d : Detail) (g : Axes) (values : List ℤ) (f : ℕ) (found : Option FaceId) → f ≡ face_count (counts_of g) →
    FindsOuter d g values f found →
    MatchOption found (ShutsOff (mesh_on d g) (flux_on g values)) (λ face. IsFirstOuter (mesh_on d g) (flux_on g values) face.0)
outer_in_all d g values f (Some face) all finds = finds
outer_in_all d g values f None all finds =
    none_leaks d g (flux_on g values) (subst (λ (t : ℕ). ShutsOffBelow (mesh_on d g) (flux_on g values) t) all finds)

-- ---- cells

abbrev pub leaving : Flux → Place → ℚ
leaving q p = outflow q p.i p.j p.k

pub none_kept : (m : Mesh) (q : Flux) → KeepsHeatBelow m q 0
none_kept m q p cell solid below = absurd (omega arith)

one_more_kept : (m : Mesh) (q : Flux) (c : ℕ) → KeepsHeatBelow m q c →
    (IsSolid m (cell_place m.cells c) → leaving q (cell_place m.cells c) ≡ int (pos 0)) → KeepsHeatBelow m q (c + 1)
one_more_kept m q c before here p cell solid below =
    elim (cases_lt (cell_number m.cells p) c) [
      | inl low ↦ before p cell solid low
      | inr high ↦
          let same : cell_number m.cells p ≡ c = omega arith in
          let at : cell_place m.cells c ≡ p = ap (λ (n : ℕ). cell_place m.cells n) (sym same) ∙ cell_place_of_number m.cells p cell in
          subst (λ (s : Place). leaving q s ≡ int (pos 0)) at (here (subst (λ (s : Place). IsSolid m s) (sym at) solid))
    ]

first_loss : (m : Mesh) (q : Flux) (c : ℕ) (sum : ℤ) → c < cell_count m.cells → KeepsHeatBelow m q c →
    IsSolid m (cell_place m.cells c) → leaving q (cell_place m.cells c) ≡ int sum → sum ≢ pos 0 → IsFirstUnbalanced m q c sum
first_loss m q c sum below before solid is unbalanced = record {
  cell = cell_place m.cells c;
  in_mesh = cell_place_within m.cells c below;
  numbered = cell_number_of_place m.cells c;
  solid = solid;
  leaving = is;
  unbalanced = unbalanced;
  first = before;
}

pub loss_is_first : (d : Detail) (g : Axes) (q : Flux) (c : ℕ) (sum : ℤ) → c < cell_count (counts_of g) →
    KeepsHeatBelow (mesh_on d g) q c → leaving q (cell_place (counts_of g) c) ≡ int sum →
    IsLoss (mesh_on d g) (counts_of g) c sum → IsFirstUnbalanced (mesh_on d g) q c sum
loss_is_first d g q c sum below before is loss =
    let m = mesh_on d g in
    let e : counts_of g ≡ m.cells = same_counts d g in
    first_loss m q c sum
    (subst (λ (n : Counts). c < cell_count n) e below) before
    (subst (λ (n : Counts). IsSolid m (cell_place n c)) e loss.solid)
    (subst (λ (n : Counts). leaving q (cell_place n c) ≡ int sum) e is)
    loss.unbalanced

pub no_loss : (d : Detail) (g : Axes) (q : Flux) (c : ℕ) (sum : ℤ) → KeepsHeatBelow (mesh_on d g) q c →
    leaving q (cell_place (counts_of g) c) ≡ int sum → (IsLoss (mesh_on d g) (counts_of g) c sum → ⊥) →
    KeepsHeatBelow (mesh_on d g) q (c + 1)
no_loss d g q c sum before is kept =
    let m = mesh_on d g in
    let nothing : IsSolid m (cell_place (counts_of g) c) → sum ≡ pos 0 =
    λ solid. elim (nothing_or_not sum) [
      | inl none ↦ none
      | inr some ↦ absurd (kept (record { solid = solid; unbalanced = some }))
    ] in
    one_more_kept m q c before
    (subst (λ (n : Counts). IsSolid m (cell_place n c) → leaving q (cell_place n c) ≡ int (pos 0)) (same_counts d g)
    (λ solid. is ∙ ap int (nothing solid)))

pub none_lost : (d : Detail) (g : Axes) (q : Flux) → KeepsHeatBelow (mesh_on d g) q (cell_count (counts_of g)) → KeepsHeat (mesh_on d g) q
none_lost d g q before p cell solid =
    let kept : KeepsHeatBelow (mesh_on d g) q (cell_count (mesh_on d g).cells) =
    subst (λ (n : Counts). KeepsHeatBelow (mesh_on d g) q (cell_count n)) (same_counts d g) before in
    kept p cell solid (cell_number_below (mesh_on d g).cells p cell)
