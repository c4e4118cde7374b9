-- Heat may pass a face where it stands between two cells, one of them solid at least.
use Rattle.std.proofs.Common.{◌≡◌, ◌≢◌, ◌↔◌, ℕ, ◌+◌, ◌<◌, ⊎_elim, ◌||◌, Bool, true, false, List, [], ◌∷◌, ◌++◌, length, refl, sym, ap, subst, ◌∙◌, arith}
use Rattle.std.proofs.Math.ListN.{get_or-append, length-append}
use Rattle.std.proofs.Math.Seq.{get_or-append_seam}
use Rattle.std.proofs.lemmas.Bool.{cases_eq, false_from_ne_true}
use Rattle.std.specs.Prelude.{Option, Some, None}
use Rattle.tb_places.specs.declared.AxisName.{AxisName}
use Rattle.tb_places.specs.declared.FacePlace.{FacePlace}
use Rattle.tb_places.specs.declared.Place.{Place}
use Rattle.tb_places.specs.Along.{ahead, index_along}
use Rattle.tb_places.specs.Inverse.{cell_place, face_place}
use Rattle.tb_places.specs.Places.{Counts, IsCell, along, cell_number, face_count, second, third}
use Rattle.tb_places.proofs.Cells.{cell_number_of_place, cell_place_within}
use Rattle.tb_detail.specs.declared.Content.{Content}
use Rattle.tb_detail.specs.declared.Content.TheVariants.{Solid, Air}
use Rattle.tb_model.specs.Mesh.{Mesh, above, below, kind_at, kind_between}
use Rattle.tb_walk.specs.Isolated.{MarkSolids}
use Rattle.tb_walk.specs.Spreading.{flag}
use Rattle.tb_walk.proofs.Meshes.{IsAir, IsOfSolid, above_past, is_of_solid, is_solid, kind_between_next, not_solid}
use Rattle.tb_outlets.specs.Repair.{MarkCarrying, carries, kind_of}
use Rattle.tb_outlets.proofs.SurfaceCells.{IsFaceBetween}
use Rattle.tb_trees.specs.Flags.{TellPassable}

-- ---- at the ends of an axis

nothing_below : (o : Option Content) → carries (kind_between None o) ≡ false
nothing_below None = refl
nothing_below (Some (Solid n)) = refl
nothing_below (Some (Air e rs)) = refl

nothing_above : (o : Option Content) → carries (kind_between o None) ≡ false
nothing_above None = refl
nothing_above (Some (Solid n)) = refl
nothing_above (Some (Air e rs)) = refl

at_first : (n i : ℕ) (f : ℕ → Option Content) → i ≡ 0 → carries (kind_between (below f i) (above n f i)) ≡ false
at_first n i f is = subst (λ (x : ℕ). carries (kind_between (below f x) (above n f x)) ≡ false) (sym is) (nothing_below (above n f 0))

at_last : (n i : ℕ) (f : ℕ → Option Content) → i ≡ n → carries (kind_between (below f i) (above n f i)) ≡ false
at_last n i f is = subst (λ (o : Option Content). carries (kind_between (below f i) o) ≡ false) (sym (above_past n i f (omega arith))) (nothing_above (below f i))

pub end_passes_none : (n : Counts) (m : Mesh) (f : ℕ) (a : AxisName) (p : Place) → n ≡ m.cells → face_place n f ≡ record { axis = a; place = p } →
    (index_along a p ≡ 0 → carries (kind_of m f) ≡ false) × (index_along a p ≡ n a → carries (kind_of m f) ≡ false)
end_passes_none n m f a p same at =
    let here : kind_of m f ≡ kind_at m a p = ap (λ (g : FacePlace). kind_at m g.axis g.place) (ap (λ (k : Counts). face_place k f) (sym same) ∙ at) in
    let line : ℕ → Option Content = λ x. along a m.occupant x (index_along (second a) p) (index_along (third a) p) in (
      λ first. ap carries here ∙ at_first (m.cells a) (index_along a p) line first,
      λ last. ap carries here ∙ at_last (m.cells a) (index_along a p) line (last ∙ ap (λ (k : Counts). k a) same),
    )

-- ---- between two cells

flag_false : (b : Bool) (o : Option Content) → (b ≡ true) ↔ IsOfSolid o → IsAir o → b ≡ false
flag_false b o tells air = false_from_ne_true b (λ set. not_solid o air (tells.0 set))

passes_between : (o u : Option Content) (b c : Bool) → o ≢ None → u ≢ None → (b ≡ true) ↔ IsOfSolid o → (c ≡ true) ↔ IsOfSolid u →
    (c || b) ≡ carries (kind_between o u)
passes_between None u b c some other tell_b tell_c = absurd (some refl)
passes_between (Some (Solid n)) None b c some other tell_b tell_c = absurd (other refl)
passes_between (Some (Air e rs)) None b c some other tell_b tell_c = absurd (other refl)
passes_between (Some (Solid n)) (Some (Solid k)) b c some other tell_b tell_c =
    rw (tell_b.1 (record { material = n; fills = refl }), tell_c.1 (record { material = k; fills = refl })) refl
passes_between (Some (Solid n)) (Some (Air e rs)) b c some other tell_b tell_c =
    rw (tell_b.1 (record { material = n; fills = refl }), flag_false c (Some (Air e rs)) tell_c (record { environment = e; resistance = rs; fills = refl })) refl
passes_between (Some (Air e rs)) (Some (Solid k)) b c some other tell_b tell_c =
    rw (flag_false b (Some (Air e rs)) tell_b (record { environment = e; resistance = rs; fills = refl }), tell_c.1 (record { material = k; fills = refl })) refl
passes_between (Some (Air e rs)) (Some (Air d r)) b c some other tell_b tell_c =
    rw (flag_false b (Some (Air e rs)) tell_b (record { environment = e; resistance = rs; fills = refl }), flag_false c (Some (Air d r)) tell_c (record { environment = d; resistance = r; fills = refl })) refl

-- the flag of a cell tells whether it is solid
flag_tells : (m : Mesh) (flags : List Bool) (c : ℕ) → MarkSolids m.cells m flags → IsCell m.cells (cell_place m.cells c) →
    (flag flags c ≡ true) ↔ IsOfSolid (m.occupant (cell_place m.cells c).i (cell_place m.cells c).j (cell_place m.cells c).k)
flag_tells m flags c marks cell =
    let p = cell_place m.cells c in
    let told = marks.marked p cell in
    let at : flag flags (cell_number m.cells p) ≡ flag flags c = ap (flag flags) (cell_number_of_place m.cells c) in
    (λ set. is_of_solid m p (told.0 (at ∙ set)), λ solid. sym at ∙ told.1 (is_solid m p solid))

between_on : (m : Mesh) (flags : List Bool) (f : ℕ) (a : AxisName) (low high : ℕ) → MarkSolids m.cells m flags → IsFaceBetween m.cells f a low high →
    (flag flags high || flag flags low) ≡ carries (kind_of m f)
between_on m flags f a low high marks is =
    let p = cell_place m.cells low in
    let q = cell_place m.cells high in
    let cell_low = cell_place_within m.cells low is.next.first in
    let cell_high = cell_place_within m.cells high is.next.second in
    let ahead_cell : IsCell m.cells (ahead a 1 p) = subst (IsCell m.cells) (sym is.next.next) cell_high in
    let kind : kind_at m a q ≡ kind_between (m.occupant p.i p.j p.k) (m.occupant q.i q.j q.k) =
    subst (λ (r : Place). kind_at m a r ≡ kind_between (m.occupant p.i p.j p.k) (m.occupant r.i r.j r.k)) is.next.next (kind_between_next m a p ahead_cell) in
    passes_between (m.occupant p.i p.j p.k) (m.occupant q.i q.j q.k) (flag flags low) (flag flags high) (marks.filled p cell_low) (marks.filled q cell_high)
    (flag_tells m flags low marks cell_low) (flag_tells m flags high marks cell_high)
    ∙ ap carries (sym kind) ∙ ap carries (sym (ap (λ (g : FacePlace). kind_at m g.axis g.place) is.face))

pub passes_where_solid : (n : Counts) (m : Mesh) (flags : List Bool) (f : ℕ) (a : AxisName) (low high : ℕ) → n ≡ m.cells → MarkSolids m.cells m flags →
    IsFaceBetween n f a low high → (flag flags high || flag flags low) ≡ carries (kind_of m f)
passes_where_solid n m flags f a low high same marks is =
    between_on m flags f a low high marks (subst (λ (k : Counts). IsFaceBetween k f a low high) same is)

-- ---- one face more

pub face_next : (m : Mesh) (flags more : List Bool) (k : ℕ) (b : Bool) → TellPassable m flags k →
    b ≡ carries (kind_of m k) → more ≡ flags ++ b ∷ [] → TellPassable m more (k + 1)
face_next m flags more k b told here is = record {
  long = ap length is ∙ length-append flags (b ∷ []) ∙ ap (λ (l : ℕ). l + 1) told.long;
  each = λ f below. ap (λ (all : List Bool). flag all f) is ∙ ⊎_elim
      (λ (same : f ≡ k). ap (flag (flags ++ b ∷ [])) same ∙ at_end flags k b told.long ∙ here ∙ ap (λ (x : ℕ). carries (kind_of m x)) (sym same))
      (λ (other : f ≢ k). get_or-append flags (b ∷ []) false f (before flags f k told.long below other) ∙ told.each f (omega arith))
      (cases_eq f k);
}
  where
    at_end : (flags : List Bool) (k : ℕ) (b : Bool) → length flags ≡ k → flag (flags ++ b ∷ []) k ≡ b
    at_end flags k b long = subst (λ (x : ℕ). flag (flags ++ b ∷ []) x ≡ b) long (get_or-append_seam flags b [] false)

    before : (flags : List Bool) (f k : ℕ) → length flags ≡ k → f < k + 1 → f ≢ k → f < length flags
    before flags f k long below other = omega arith

pub or_first : (a b x : Bool) → a ≡ true → (a || b) ≡ x → a ≡ x
or_first true b x set is = is
or_first false b x set is = absurd (cc set)

pub or_second : (a b x : Bool) → a ≡ false → (a || b) ≡ x → b ≡ x
or_second true b x unset is = absurd (cc unset)
or_second false b x unset is = is

pub all_faces : (n : Counts) (m : Mesh) (flags : List Bool) (k : ℕ) → n ≡ m.cells → k ≡ face_count n → TellPassable m flags k → MarkCarrying m flags
all_faces n m flags k same all told =
    let count : k ≡ face_count m.cells = all ∙ ap face_count same in
    record { count = told.long ∙ count; marked = λ f below. told.each f (omega arith) }
