-- The numbers of cells, nodes, faces and edges after a cut of an axis.
use mathlib.Core.Path.{◌≡◌, refl, sym, ap, ◌∙◌, subst}
use mathlib.Core.Logic.{◌⊎◌, inl, inr}
use Prim.Native.Nat.{ℕ, zero, suc, ◌+◌, ◌<◌, ◌≤◌}
use native.Mathlib.Omega.{arith}
use Rattle.std.specs.Prelude.{◌≢◌}
use Rattle.tb_places.specs.declared.AxisName.{AxisName}
use Rattle.tb_places.specs.Along.{cell_stride}
use Rattle.tb_places.specs.Cuts.{cut_counts}
use Rattle.tb_places.specs.declared.Place.{Place}
use Rattle.tb_places.specs.declared.FacePlace.{FacePlace}
use Rattle.tb_places.specs.Inverse.{cell_place, node_place, face_place, edge_place}
use Rattle.tb_places.specs.Places.{Counts, IsCell, IsNode, IsFace, IsEdge, cell_count, node_count, face_count, edge_count, cell_number, node_number, face_number, edge_number}
use Rattle.tb_places.proofs.Cells.{cell_number_below, cell_number_of_place, cell_place_of_number, cell_place_within}
use Rattle.tb_places.proofs.Edges.{edge_number_below, edge_number_of_place, edge_place_of_number, edge_place_within}
use Rattle.tb_places.proofs.Faces.{face_number_below, face_number_of_place, face_place_of_number, face_place_within}
use Rattle.tb_places.proofs.Meeting.{low_face_of_cell}
use Rattle.tb_places.proofs.Nodes.{node_number_below, node_number_of_place, node_place_of_number, node_place_within}
use Rattle.tb_grid.specs.Cuts.{moved_place, moved_cell, moved_node, moved_face, moved_edge}
use Rattle.tb_places.specs.Along.{ahead, index_along}
use Rattle.tb_grid.specs.Direction.{low_face_of, high_face_of}
use Rattle.tb_grid.proofs.MovedPlaces.{OldPlace, old_place, moved_is_cell, moved_is_node, moved_is_face, moved_is_edge, moved_place-apart, second_within, high_is_face, first_part, ahead_along, ahead_across, behind_both}
use Rattle.tb_grid.proofs.Neighbours.{next_place, shared_face}

module _ (a : AxisName) (p : ℕ) (n : Counts) where
  -- Cells --

  at_cell : (c : ℕ) → c < cell_count n → let q = moved_place a p (cell_place n c) in IsCell (cut_counts a n) q
  at_cell c below = moved_is_cell a p n (cell_place n c) (cell_place_within n c below)

  pub cell_within : (c : ℕ) → c < cell_count n → moved_cell a p n c < cell_count (cut_counts a n)
  cell_within c below = let q = moved_place a p (cell_place n c) in cell_number_below (cut_counts a n) q (at_cell c below)

  pub cell_placed : (c : ℕ) → c < cell_count n → cell_place (cut_counts a n) (moved_cell a p n c) ≡ moved_place a p (cell_place n c)
  cell_placed c below = let q = moved_place a p (cell_place n c) in cell_place_of_number (cut_counts a n) q (at_cell c below)

  pub cell_apart : (c d : ℕ) → c < cell_count n → d < cell_count n → moved_cell a p n c ≡ moved_cell a p n d → c ≡ d
  cell_apart c d below below' same =
      let places : cell_place n c ≡ cell_place n d = moved_place-apart a p (cell_place n c) (cell_place n d) (sym (cell_placed c below) ∙ ap (λ (t : ℕ). cell_place (cut_counts a n) t) same ∙ cell_placed d below') in
      sym (cell_number_of_place n c) ∙ ap (λ (q : Place). cell_number n q) places ∙ cell_number_of_place n d

  pub cell_all : (d : ℕ) → p < n a → d < cell_count (cut_counts a n) → (index_along a (cell_place (cut_counts a n) d) ≡ p + 1) ⊎ ((c : ℕ) × (c < cell_count n) × (moved_cell a p n c ≡ d))
  cell_all d within below = by_place (old_place a p (cell_place (cut_counts a n) d))
    where
      old : (o : OldPlace a p (cell_place (cut_counts a n) d)) → (c : ℕ) × (c < cell_count n) × (moved_cell a p n c ≡ d)
      old o = let q = o.old in let is = o.cell n within (cell_place_within (cut_counts a n) d below) in (
        cell_number n q,
        cell_number_below n q is,
        ap (λ (r : Place). let u = moved_place a p r in cell_number (cut_counts a n) u) (cell_place_of_number n q is)
            ∙ ap (λ (r : Place). cell_number (cut_counts a n) r) o.is ∙ cell_number_of_place (cut_counts a n) d,
      )

      by_place : (index_along a (cell_place (cut_counts a n) d) ≡ p + 1) ⊎ OldPlace a p (cell_place (cut_counts a n) d) → (index_along a (cell_place (cut_counts a n) d) ≡ p + 1) ⊎ ((c : ℕ) × (c < cell_count n) × (moved_cell a p n c ≡ d))
      by_place (inl e) = inl e
      by_place (inr o) = inr (old o)

  -- Nodes --

  at_node : (m : ℕ) → m < node_count n → let q = moved_place a p (node_place n m) in IsNode (cut_counts a n) q
  at_node m below = moved_is_node a p n (node_place n m) (node_place_within n m below)

  pub node_within : (m : ℕ) → m < node_count n → moved_node a p n m < node_count (cut_counts a n)
  node_within m below = let q = moved_place a p (node_place n m) in node_number_below (cut_counts a n) q (at_node m below)

  pub node_placed : (m : ℕ) → m < node_count n → node_place (cut_counts a n) (moved_node a p n m) ≡ moved_place a p (node_place n m)
  node_placed m below = let q = moved_place a p (node_place n m) in node_place_of_number (cut_counts a n) q (at_node m below)

  pub node_apart : (m d : ℕ) → m < node_count n → d < node_count n → moved_node a p n m ≡ moved_node a p n d → m ≡ d
  node_apart m d below below' same =
      let places : node_place n m ≡ node_place n d = moved_place-apart a p (node_place n m) (node_place n d) (sym (node_placed m below) ∙ ap (λ (t : ℕ). node_place (cut_counts a n) t) same ∙ node_placed d below') in
      sym (node_number_of_place n m) ∙ ap (λ (q : Place). node_number n q) places ∙ node_number_of_place n d

  pub node_all : (d : ℕ) → p < n a → d < node_count (cut_counts a n) → (index_along a (node_place (cut_counts a n) d) ≡ p + 1) ⊎ ((m : ℕ) × (m < node_count n) × (moved_node a p n m ≡ d))
  node_all d within below = by_place (old_place a p (node_place (cut_counts a n) d))
    where
      old : (o : OldPlace a p (node_place (cut_counts a n) d)) → (m : ℕ) × (m < node_count n) × (moved_node a p n m ≡ d)
      old o = let q = o.old in let is = o.node n within (node_place_within (cut_counts a n) d below) in (
        node_number n q,
        node_number_below n q is,
        ap (λ (r : Place). let u = moved_place a p r in node_number (cut_counts a n) u) (node_place_of_number n q is)
            ∙ ap (λ (r : Place). node_number (cut_counts a n) r) o.is ∙ node_number_of_place (cut_counts a n) d,
      )

      by_place : (index_along a (node_place (cut_counts a n) d) ≡ p + 1) ⊎ OldPlace a p (node_place (cut_counts a n) d) → (index_along a (node_place (cut_counts a n) d) ≡ p + 1) ⊎ ((m : ℕ) × (m < node_count n) × (moved_node a p n m ≡ d))
      by_place (inl e) = inl e
      by_place (inr o) = inr (old o)

  -- Edges --

  at_edge : (b : AxisName) (e : ℕ) → e < edge_count n b → let q = moved_place a p (edge_place n b e) in IsEdge (cut_counts a n) b q
  at_edge b e below = moved_is_edge a p n b (edge_place n b e) (edge_place_within n b e below)

  pub edge_within : (b : AxisName) (e : ℕ) → e < edge_count n b → moved_edge a p n b e < edge_count (cut_counts a n) b
  edge_within b e below = let q = moved_place a p (edge_place n b e) in edge_number_below (cut_counts a n) b q (at_edge b e below)

  pub edge_placed : (b : AxisName) (e : ℕ) → e < edge_count n b → edge_place (cut_counts a n) b (moved_edge a p n b e) ≡ moved_place a p (edge_place n b e)
  edge_placed b e below = let q = moved_place a p (edge_place n b e) in edge_place_of_number (cut_counts a n) b q (at_edge b e below)

  pub edge_apart : (b : AxisName) (e d : ℕ) → e < edge_count n b → d < edge_count n b → moved_edge a p n b e ≡ moved_edge a p n b d → e ≡ d
  edge_apart b e d below below' same =
      let places : edge_place n b e ≡ edge_place n b d = moved_place-apart a p (edge_place n b e) (edge_place n b d) (sym (edge_placed b e below) ∙ ap (λ (t : ℕ). edge_place (cut_counts a n) b t) same ∙ edge_placed b d below') in
      sym (edge_number_of_place n b e) ∙ ap (λ (q : Place). edge_number n b q) places ∙ edge_number_of_place n b d

  pub edge_all : (b : AxisName) (d : ℕ) → p < n a → d < edge_count (cut_counts a n) b → (index_along a (edge_place (cut_counts a n) b d) ≡ p + 1) ⊎ ((e : ℕ) × (e < edge_count n b) × (moved_edge a p n b e ≡ d))
  edge_all b d within below = by_place (old_place a p (edge_place (cut_counts a n) b d))
    where
      old : (o : OldPlace a p (edge_place (cut_counts a n) b d)) → (e : ℕ) × (e < edge_count n b) × (moved_edge a p n b e ≡ d)
      old o = let q = o.old in let is = o.edge n b within (edge_place_within (cut_counts a n) b d below) in (
        edge_number n b q,
        edge_number_below n b q is,
        ap (λ (r : Place). let u = moved_place a p r in edge_number (cut_counts a n) b u) (edge_place_of_number n b q is)
            ∙ ap (λ (r : Place). edge_number (cut_counts a n) b r) o.is ∙ edge_number_of_place (cut_counts a n) b d,
      )

      by_place : (index_along a (edge_place (cut_counts a n) b d) ≡ p + 1) ⊎ OldPlace a p (edge_place (cut_counts a n) b d) → (index_along a (edge_place (cut_counts a n) b d) ≡ p + 1) ⊎ ((e : ℕ) × (e < edge_count n b) × (moved_edge a p n b e ≡ d))
      by_place (inl e) = inl e
      by_place (inr o) = inr (old o)

  -- Faces --

  at_face : (f : ℕ) → f < face_count n → let t = face_place n f in let q = moved_place a p t.place in IsFace (cut_counts a n) t.axis q
  at_face f below = let t = face_place n f in moved_is_face a p n t.axis t.place (face_place_within n f below)

  pub face_within : (f : ℕ) → f < face_count n → moved_face a p n f < face_count (cut_counts a n)
  face_within f below = let t = face_place n f in let q = moved_place a p t.place in face_number_below (cut_counts a n) t.axis q (at_face f below)

  pub face_placed : (f : ℕ) → f < face_count n → face_place (cut_counts a n) (moved_face a p n f) ≡ record { axis = (face_place n f).axis; place = moved_place a p (face_place n f).place }
  face_placed f below = let t = face_place n f in let q = moved_place a p t.place in face_place_of_number (cut_counts a n) (record { axis = t.axis; place = q }) (at_face f below)

  pub face_apart : (f g : ℕ) → f < face_count n → g < face_count n → moved_face a p n f ≡ moved_face a p n g → f ≡ g
  face_apart f g below below' e =
      let t = face_place n f in let u = face_place n g in
      let same : record { axis = t.axis; place = moved_place a p t.place } ≡ record { axis = u.axis; place = moved_place a p u.place } = sym (face_placed f below) ∙ ap (λ (h : ℕ). face_place (cut_counts a n) h) e ∙ face_placed g below' in
      let places : t.place ≡ u.place = moved_place-apart a p t.place u.place (ap (λ (v : FacePlace). v.place) same) in
      let axes : t.axis ≡ u.axis = ap (λ (v : FacePlace). v.axis) same in
      sym (face_number_of_place n f below) ∙ (λ h. face_number n (axes h) (places h)) ∙ face_number_of_place n g below'

  pub face_all : (d : ℕ) → p < n a → d < face_count (cut_counts a n) → (index_along a (face_place (cut_counts a n) d).place ≡ p + 1) ⊎ ((f : ℕ) × (f < face_count n) × (moved_face a p n f ≡ d))
  face_all d within below = by_place (old_place a p (face_place (cut_counts a n) d).place)
    where
      old : (o : OldPlace a p (face_place (cut_counts a n) d).place) → (f : ℕ) × (f < face_count n) × (moved_face a p n f ≡ d)
      old o = let b = (face_place (cut_counts a n) d).axis in let q = o.old in let is = o.face n b within (face_place_within (cut_counts a n) d below) in (
        face_number n b q,
        face_number_below n b q is,
        ap (λ (t : FacePlace). let u = moved_place a p t.place in face_number (cut_counts a n) t.axis u) (face_place_of_number n (record { axis = b; place = q }) is)
            ∙ ap (λ (r : Place). face_number (cut_counts a n) b r) o.is ∙ face_number_of_place (cut_counts a n) d below,
      )

      by_place : (index_along a (face_place (cut_counts a n) d).place ≡ p + 1) ⊎ OldPlace a p (face_place (cut_counts a n) d).place → (index_along a (face_place (cut_counts a n) d).place ≡ p + 1) ⊎ ((f : ℕ) × (f < face_count n) × (moved_face a p n f ≡ d))
      by_place (inl e) = inl e
      by_place (inr o) = inr (old o)

  -- Cells and their faces --

  -- the first part of a cell that is cut
  part_placed : (c : ℕ) → c < cell_count n → index_along a (cell_place n c) ≡ p → cell_place (cut_counts a n) (moved_cell a p n c) ≡ cell_place n c
  part_placed c below here = cell_placed c below ∙ first_part a p (cell_place n c) here

  part_before : (c : ℕ) → c < cell_count n → index_along a (cell_place n c) ≡ p → index_along a (cell_place (cut_counts a n) (moved_cell a p n c)) + 1 < cut_counts a n a
  part_before c below here = subst (λ (q : Place). index_along a q + 1 < cut_counts a n a) (sym (part_placed c below here)) (second_within a n (cell_place n c) (cell_place_within n c below))

  pub second_placed : (c : ℕ) → c < cell_count n → index_along a (cell_place n c) ≡ p → cell_place (cut_counts a n) (moved_cell a p n c + cell_stride (cut_counts a n) a) ≡ ahead a 1 (cell_place n c)
  second_placed c below here = next_place (cut_counts a n) a (moved_cell a p n c) (cell_within c below) (part_before c below here) ∙ ap (λ (q : Place). ahead a 1 q) (part_placed c below here)

  face_moved : (b : AxisName) (q : Place) → IsFace n b q → face_number (cut_counts a n) b (moved_place a p q) ≡ moved_face a p n (face_number n b q)
  face_moved b q is = sym (ap (λ (t : FacePlace). face_number (cut_counts a n) t.axis (moved_place a p t.place)) (face_place_of_number n (record { axis = b; place = q }) is))

  pub low_moved : (b : AxisName) (c : ℕ) → c < cell_count n → low_face_of (cut_counts a n) b (moved_cell a p n c) ≡ moved_face a p n (low_face_of n b c)
  low_moved b c below = let q = cell_place n c in ap (λ (r : Place). face_number (cut_counts a n) b r) (cell_placed c below) ∙ face_moved b q (low_face_of_cell n b q (cell_place_within n c below))

  high_moved : (b : AxisName) (c : ℕ) → c < cell_count n → ahead b 1 (moved_place a p (cell_place n c)) ≡ moved_place a p (ahead b 1 (cell_place n c)) → high_face_of (cut_counts a n) b (moved_cell a p n c) ≡ moved_face a p n (high_face_of n b c)
  high_moved b c below same = ap (λ (r : Place). face_number (cut_counts a n) b (ahead b 1 r)) (cell_placed c below) ∙ ap (λ (r : Place). face_number (cut_counts a n) b r) same
      ∙ face_moved b (ahead b 1 (cell_place n c)) (high_is_face n b (cell_place n c) (cell_place_within n c below))

  pub high_along : (b : AxisName) (c : ℕ) → c < cell_count n → b ≢ a → high_face_of (cut_counts a n) b (moved_cell a p n c) ≡ moved_face a p n (high_face_of n b c)
  high_along b c below other = high_moved b c below (ahead_along a b p (cell_place n c) other)

  pub high_across : (c : ℕ) → c < cell_count n → index_along a (cell_place n c) ≢ p → high_face_of (cut_counts a n) a (moved_cell a p n c) ≡ moved_face a p n (high_face_of n a c)
  high_across c below other = high_moved a c below (ahead_across a p (cell_place n c) other)

  pub second_high : (c : ℕ) → c < cell_count n → index_along a (cell_place n c) ≡ p → high_face_of (cut_counts a n) a (moved_cell a p n c + cell_stride (cut_counts a n) a) ≡ moved_face a p n (high_face_of n a c)
  second_high c below here = ap (λ (r : Place). face_number (cut_counts a n) a (ahead a 1 r)) (second_placed c below here)
      ∙ ap (λ (r : Place). face_number (cut_counts a n) a r) (behind_both a p (cell_place n c) here)
      ∙ face_moved a (ahead a 1 (cell_place n c)) (high_is_face n a (cell_place n c) (cell_place_within n c below))

  pub between_parts : (c : ℕ) → c < cell_count n → index_along a (cell_place n c) ≡ p → high_face_of (cut_counts a n) a (moved_cell a p n c) ≡ low_face_of (cut_counts a n) a (moved_cell a p n c + cell_stride (cut_counts a n) a)
  between_parts c below here = shared_face (cut_counts a n) a (moved_cell a p n c) (cell_within c below) (part_before c below here)
