-- The cells found, last first, are an order in which they can be balanced.
use Rattle.std.proofs.Common.{◌≡◌, ◌≢◌, inl, inr, ℕ, suc, ◌-◌, ◌<◌, List, [], ◌∷◌, length, reverse, get_or, Bool, arith, sym, ap, subst, ◌∙◌}
use Rattle.std.proofs.lemmas.List.{get_or-reverse, get_or_default, length-reverse, get_or_read}
use Rattle.tb_places.specs.declared.Place.{Place}
use Rattle.tb_places.specs.Inverse.{cell_place}
use Rattle.tb_places.specs.Places.{Counts, cell_count, face_count}
use Rattle.tb_places.proofs.Cells.{cell_number_of_place, cell_place_within}
use Rattle.tb_grid.specs.declared.ids.CellId.{CellId}
use Rattle.tb_model.specs.Mesh.{Mesh}
use Rattle.tb_walk.specs.Paths.{SharesFace}
use Rattle.tb_walk.specs.Isolated.{MarkSolids, NoneIsolated}
use Rattle.tb_walk.specs.Spreading.{AreNeighbours, flag}
use Rattle.tb_walk.proofs.Beside.{share_is_neighbours}
use Rattle.tb_outlets.specs.declared.side.Side.{Side}
use Rattle.tb_outlets.specs.declared.side.Side.TheVariants.{Low, High}
use Rattle.tb_outlets.specs.declared.marks.Mark.{Mark}
use Rattle.tb_outlets.specs.Flows.{Sides}
use Rattle.tb_outlets.specs.Balancing.{IsOrder}
use Rattle.tb_outlets.specs.Sides.{IsBeyond, face_of}
use Rattle.tb_outlets.specs.Outlets.{AreOutlets, IsSolidAt}
use Rattle.tb_outlets.specs.Repair.{ListsSolids}
use Rattle.tb_outlets.specs.Searching.{distance_at, found_at, root_at}
use Rattle.tb_outlets.proofs.Sides.{face_between}
use Rattle.tb_outlets.proofs.Trees.{tree}
use Rattle.tb_outlets.proofs.Heads.{found_below}
use Rattle.tb_outlets.proofs.Distances.{all_found, are_distances}
use Rattle.tb_outlets.proofs.Ways.{IsDone, number_of, spreads}

-- ---- an order by indexes

IsClear : Sides → (ℕ → Side) → List CellId → Type 0
IsClear face outlet cells = (k l : ℕ) (s : Side) → k < l → l < length cells → face (found_at cells k) s ≢ face (found_at cells l) (outlet (found_at cells l))

order_of_clear : (face : Sides) (outlet : ℕ → Side) (cells : List CellId) → IsClear face outlet cells → IsOrder face outlet cells
unfolding IsClear
order_of_clear face outlet [] clear = tt
order_of_clear face outlet (c ∷ cs) clear = (
  λ d s within.
      let k = within.0 in
      let below = within.1 in
      let at : found_at cs k ≡ d.0 = ap (λ (x : CellId). x.0) (sym (get_or_read cs k d below (sym within.2) (record { 0 = 0 }))) in
      subst (λ (x : ℕ). face c.0 s ≢ face x (outlet x)) at (clear 0 (suc k) s (omega arith) (omega arith)),
  order_of_clear face outlet cs (λ k l s first last. clear (suc k) (suc l) s (omega arith) (omega arith)),
)

-- ---- a neighbour found is from the same root

shares : (s : Side) (p q : Place) → IsBeyond s p q → SharesFace p q
shares (Low a) p q beyond = (a, inr beyond)
shares (High a) p q beyond = (a, inl beyond)

beside_root : (n : Counts) (solid : List Bool) (f : ℕ) (marks : List Mark) (order : List CellId) → IsDone n solid f marks order →
    (c d : ℕ) (s : Side) → c < cell_count n → d < cell_count n → 0 < distance_at marks c → 0 < distance_at marks d →
    IsBeyond s (cell_place n d) (cell_place n c) → root_at marks c ≡ root_at marks d
beside_root n solid f marks order done c d s below_c below_d found_c found_d beyond =
    let beside = share_is_neighbours n (cell_place n d) (cell_place n c) (cell_place_within n d below_d) (cell_place_within n c below_c)
    (shares s (cell_place n d) (cell_place n c) beyond) in
    let at_d = cell_number_of_place n d in
    let at_c = cell_number_of_place n c in
    let between : AreNeighbours n beside.0 d c = subst (λ (x : ℕ). AreNeighbours n beside.0 x c) at_d (subst (λ (x : ℕ). AreNeighbours n beside.0 (number_of n (cell_place n d)) x) at_c beside.1) in
    (spreads n solid f marks order done d found_d beside.0 c between (done.in_set c found_c)).1

-- ---- last first

turned : (order : List CellId) (k : ℕ) → k < length order → found_at (reverse order) k ≡ found_at order (length order - 1 - k)
turned order k below = ap (λ (x : CellId). x.0) (get_or-reverse order k (record { 0 = 0 }) below)

pub solid_at : (m : Mesh) (flags : List Bool) (marks : List Mark) (order : List CellId) → MarkSolids m.cells m flags →
    IsDone m.cells flags (face_count m.cells) marks order → (c : ℕ) → 0 < distance_at marks c → IsSolidAt m c
solid_at m flags marks order mark done c found =
    let below = found_below marks c found in
    let long = done.long in
    let within : c < cell_count m.cells = omega arith in
    let cell = cell_place_within m.cells c within in
    (within, (cell, (mark.marked (cell_place m.cells c) cell).0 (ap (flag flags) (cell_number_of_place m.cells c) ∙ done.in_set c found)))

pub serves : (m : Mesh) (flags : List Bool) (marks : List Mark) (order : List CellId) (outlet : ℕ → Side) → MarkSolids m.cells m flags → NoneIsolated m →
    IsDone m.cells flags (face_count m.cells) marks order → AreOutlets m outlet → IsOrder (face_of m.cells) outlet (reverse order)
unfolding IsClear
serves m flags marks order outlet mark reach done outlets =
    let is_tree = tree m outlet (distance_at marks) outlets (are_distances m flags marks order mark reach done) in
    let n = m.cells in
    order_of_clear (face_of n) outlet (reverse order) (λ k l s first last same.
    let long = length-reverse order in
    let below_k : k < length order = omega arith in
    let below_l : l < length order = omega arith in
    let i = length order - 1 - k in
    let j = length order - 1 - l in
    let c = found_at order i in
    let d = found_at order j in
    let at_k = turned order k below_k in
    let at_l = turned order l below_l in
    let below_i : i < length order = omega arith in
    let below_j : j < length order = omega arith in
    let up : j < i = omega arith in
    let same' : face_of n c s ≡ face_of n d (outlet d) = ap (λ (x : ℕ). face_of n x s) (sym at_k) ∙ same ∙ ap (λ (x : ℕ). face_of n x (outlet x)) at_l in
    let found_c = done.row.found i below_i in
    let found_d = done.row.found j below_j in
    let solid_c = solid_at m flags marks order mark done c found_c in
    let solid_d = solid_at m flags marks order mark done d found_d in
    let other : c ≢ d = λ e. done.distinct j i up below_i (sym e) in
    let falls = is_tree.inwards c d s solid_c solid_d other same' in
    let apart : cell_place n c ≢ cell_place n d = λ e. other (sym (cell_number_of_place n c) ∙ ap (number_of n) e ∙ cell_number_of_place n d) in
    let beyond = face_between n (cell_place n c) (cell_place n d) s (outlet d) solid_c.1.0 solid_d.1.0 apart same' in
    let root = beside_root n flags (face_count n) marks order done c d (outlet d) solid_c.0 solid_d.0 found_c found_d beyond in
    let rises = done.row.rise j i (omega arith) below_i (sym root) in
    omega (arith, falls, rises))

same_cell : (c d : CellId) → c.0 ≡ d.0 → c ≡ d
same_cell c d e = ap (λ (m : ℕ). let x : CellId = record { 0 = m } in x) e

pub lists_solids : (m : Mesh) (flags : List Bool) (marks : List Mark) (order : List CellId) → MarkSolids m.cells m flags → NoneIsolated m →
    IsDone m.cells flags (face_count m.cells) marks order → ListsSolids m (reverse order)
lists_solids m flags marks order mark reach done = record {
  solid = λ c within.
      let k = within.0 in
      let long = length-reverse order in
      let below = within.1 in
      let below_k : k < length order = omega arith in
      let i = length order - 1 - k in
      let at : found_at (reverse order) k ≡ c.0 = ap (λ (x : CellId). x.0) (sym (get_or_read (reverse order) k c below (sym within.2) (record { 0 = 0 }))) in
      subst (IsSolidAt m) (sym (turned order k below_k) ∙ at) (solid_at m flags marks order mark done (found_at order i) (done.row.found i (omega arith)));
  all = λ c here.
      let found : 0 < distance_at marks c.0 = subst (λ (x : ℕ). 0 < distance_at marks x) (cell_number_of_place m.cells c.0)
      (all_found m flags marks order mark reach done (cell_place m.cells c.0) here.1) in
      let at = done.placed c.0 found in
      let long = length-reverse order in
      let first = at.1 in
      let k = length order - 1 - at.0 in
      let below : k < length order = omega arith in
      let back : length order - 1 - k ≡ at.0 = omega arith in (
        k,
        omega arith,
        get_or-reverse order k c below ∙ ap (λ (i : ℕ). get_or order i c) back
            ∙ get_or_default order at.0 c (record { 0 = 0 }) first ∙ same_cell (get_or order at.0 (record { 0 = 0 })) c at.2,
      );
}
