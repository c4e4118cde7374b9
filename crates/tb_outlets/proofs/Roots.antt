-- From one root to the next.
use Rattle.std.proofs.Common.{◌≡◌, ◌≢◌, inl, ℕ, ◌+◌, ◌<◌, ◌≤◌, List, [], ◌∷◌, ◌++◌, length, Bool, arith, refl, sym, ap, subst, ◌∙◌, ⊎_elim, get_or-set_same}
use Rattle.std.specs.Prelude.{slice_set}
use Rattle.std.proofs.lemmas.Bool.{cases_eq, cases_lt, true≢false}
use Rattle.tb_places.specs.Inverse.{cell_place}
use Rattle.tb_places.specs.Places.{Counts, cell_count, cell_number}
use Rattle.tb_places.proofs.Cells.{cell_number_of_place, cell_place_within}
use Rattle.tb_grid.specs.declared.ids.CellId.{CellId}
use Rattle.tb_walk.specs.Spreading.{flag}
use Rattle.tb_walk.proofs.Spreads.{flag_below}
use Rattle.tb_outlets.specs.declared.side.Side.{Side}
use Rattle.tb_outlets.specs.declared.marks.Mark.{Mark}
use Rattle.tb_outlets.specs.Sides.{face_of}
use Rattle.tb_outlets.specs.Searching.{IsIdle, IsLater, IsOpening, IsSearch, distance_at, found_at, mark_at, no_mark, root_at}
use Rattle.tb_outlets.proofs.MarkRows.{row_begun, row_done}
use Rattle.tb_outlets.proofs.Finding.{added, longer_row}
use Rattle.tb_outlets.proofs.Sides.{face_between, one_beyond}

-- a Surface is on a side of one cell of the set
pub one_opening : (n : Counts) (solid : List Bool) (f c d : ℕ) (s t : Side) → IsOpening n solid f c s → IsOpening n solid f d t → c ≡ d
one_opening n solid f c d s t first second = ⊎_elim
    (λ (same : c ≡ d). same)
    (λ (other : c ≢ d).
    let apart : cell_place n c ≢ cell_place n d = λ e. other (sym (cell_number_of_place n c) ∙ ap (cell_number n) e ∙ cell_number_of_place n d) in
    let beyond = face_between n (cell_place n c) (cell_place n d) s t (cell_place_within n c first.cell) (cell_place_within n d second.cell) apart (first.face ∙ sym second.face) in
    let next = one_beyond t (cell_place n d) (cell_place n c) (cell_place n second.opening.next) beyond second.opening.beyond in
    let same : c ≡ second.opening.next = sym (cell_number_of_place n c) ∙ ap (cell_number n) next ∙ cell_number_of_place n second.opening.next in
    absurd (true≢false (sym first.in_set ∙ ap (flag solid) same ∙ second.opening.unmarked)))
    (cases_eq c d)

-- the search goes on to the next face, where the cell at this one, if it is a Surface, is found
pub idle_next : (n : Counts) (solid : List Bool) (f : ℕ) (marks : List Mark) (order : List CellId) → length solid ≡ cell_count n →
    IsSearch n solid f (length order) marks order → ((c : ℕ) (s : Side) → IsOpening n solid f c s → 0 < distance_at marks c) →
    IsIdle n solid (f + 1) marks order
idle_next n solid f marks order long was here = record {
  search = record {
    long = was.long;
    counted = was.counted;
    row = row_done (λ k. mark_at marks (found_at order k)) (length order) f (f + 1) was.row (omega arith);
    distinct = was.distinct;
    placed = was.placed;
    in_set = was.in_set;
    least = was.least;
    origin = was.origin;
    begun = λ c s set opening below. ⊎_elim
        (λ (l : face_of n c s < f). was.begun c s set opening l)
        (λ (l : f ≤ face_of n c s). here c s (record {
          cell = let within = flag_below solid c set in omega arith;
          in_set = set;
          opening = opening;
          face = omega arith;
        }))
        (cases_lt (face_of n c s) f);
    spread = was.spread;
  };
  roots = λ c found.
      let at = was.placed c found in
      let most = was.row.most at.0 at.1 in
      let same = ap (root_at marks) at.2 in
      omega arith;
}

-- the cell of a new root is found
pub begins : (n : Counts) (solid : List Bool) (f : ℕ) (marks : List Mark) (order : List CellId) (c : CellId) (s : Side) →
    IsIdle n solid f marks order → IsOpening n solid f c.0 s → distance_at marks c.0 ≡ 0 →
    IsSearch n solid f (length order) (slice_set marks c.0 (record { distance = 1; root = f })) (order ++ c ∷ [])
begins n solid f marks order c s idle opening none =
    let v : Mark = record { distance = 1; root = f } in
    let was = idle.search in
    let long = was.long in
    let within = opening.cell in
    let below : c.0 < length marks = omega arith in
    let longer = longer_row n solid f (length order) marks order c v was below none in
    let here : mark_at (slice_set marks c.0 v) c.0 ≡ v = get_or-set_same marks c.0 v no_mark below in
    added n solid f (length order) marks order c v was opening.cell opening.in_set none (omega arith) refl (omega arith)
    (row_begun (λ k. mark_at marks (found_at order k)) (λ k. mark_at (slice_set marks c.0 v) (found_at (order ++ c ∷ []) k)) (length order) f f v
    was.row longer (λ k l. idle.roots (found_at order k) (was.row.found k l)) refl refl)
    (inl (record {
      first = ap (λ (m : Mark). m.distance) here;
      side = s;
      opening = opening.opening;
      root = opening.face ∙ sym (ap (λ (m : Mark). m.root) here);
    }))

-- and with all cells that are linked with it the search goes on
pub idle_after : (n : Counts) (solid : List Bool) (f : ℕ) (marks : List Mark) (order : List CellId) (c : CellId) (s : Side) (marks' : List Mark) (order' : List CellId) →
    length solid ≡ cell_count n → length marks ≡ cell_count n → IsOpening n solid f c.0 s →
    IsSearch n solid f (length order') marks' order' →
    IsLater (slice_set marks c.0 (record { distance = 1; root = f })) (order ++ c ∷ []) marks' order' →
    IsIdle n solid (f + 1) marks' order'
idle_after n solid f marks order c s marks' order' long long_marks opening search' later =
    let v : Mark = record { distance = 1; root = f } in
    let within = opening.cell in
    let below : c.0 < length marks = omega arith in
    let here : mark_at (slice_set marks c.0 v) c.0 ≡ v = get_or-set_same marks c.0 v no_mark below in
    let some : 0 < distance_at (slice_set marks c.0 v) c.0 = subst (λ (m : Mark). 0 < m.distance) (sym here) (omega arith) in
    let found : 0 < distance_at marks' c.0 = subst (λ (m : Mark). 0 < m.distance) (sym (later.same c.0 some)) some in
    idle_next n solid f marks' order' long search'
    (λ d t other. subst (λ (x : ℕ). 0 < distance_at marks' x) (one_opening n solid f c.0 d s t opening other) found)
