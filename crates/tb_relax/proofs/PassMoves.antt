-- The moves of a pass are those of all nodes and of all edges inside the hull.
use Rattle.std.proofs.Common.{◌≡◌, refl, sym, ap, ◌∙◌, subst, arith, ℕ, zero, suc, ◌+◌, ◌-◌, ◌<◌, ◌≤◌, ⊎_elim, List, [], ◌∷◌, ◌++◌, length, map}
use Rattle.std.specs.Prelude.{slice_index_or}
use Rattle.std.specs.List.{All, Contains}
use Rattle.std.proofs.Math.Nat.{eq-or-lt_of_le}
use Rattle.std.proofs.lemmas.List.{get_or-map, length-map}
use Rattle.std.proofs.lemmas.List.Elements.{All-append, All-cons, All-contains, All-map, All-nil, Contains-append_left, Contains-append_right, Contains-get_or}
use Rattle.tb_places.specs.declared.AxisName.{AxisName}
use Rattle.tb_places.specs.declared.AxisName.TheVariants.{X, Y, Z}
use Rattle.tb_places.specs.declared.Place.{Place}
use Rattle.tb_places.specs.Places.{Counts, IsNode, place_at}
use Rattle.tb_weighted.specs.Moves.{IsInnerEdge, Move, all_lines, counting, for_each, inner_edges, inner_lines, intervals, loop_moves, nodes, pass_moves, places}
use Rattle.tb_weighted.specs.Moves.Move.{Loop, Node}

-- ---- what counting gives
within : (from n : ℕ) → All (λ x. (from ≤ x) × (x < from + n)) (counting from n)
within from zero = All-nil (λ x. (from ≤ x) × (x < from + 0))
within from (suc n) = All-cons (λ x. (from ≤ x) × (x < from + suc n)) from (counting (suc from) n) (omega arith, omega arith)
    (λ k d h. let w = within (suc from) n k d h in (omega (arith, w), omega (arith, w)))

-- a first one, and those behind
first_in : {A : Type 0} (x : A) (xs : List A) → Contains (x ∷ xs) x
first_in x xs = (0, omega arith, refl)

next_in : {A : Type 0} (y : A) (xs : List A) (x : A) → Contains xs x → Contains (y ∷ xs) x
next_in y xs x h = (suc h.0, omega (arith, h.1), h.2)

counted : (from n x : ℕ) → from ≤ x → x < from + n → Contains (counting from n) x
counted from zero x h k = absurd (omega (arith, h, k))
counted from (suc n) x h k = ⊎_elim
    (λ (e : from ≡ x). subst (λ (z : ℕ). Contains (counting from (suc n)) z) e (first_in from (counting (suc from) n)))
    (λ (l : from < x). next_in from (counting (suc from) n) x (counted (suc from) n x (omega (arith, l)) (omega (arith, k))))
    (eq-or-lt_of_le h)

mapped : {A B : Type 0} (f : A → B) (xs : List A) (x : A) → Contains xs x → Contains (map f xs) (f x)
mapped f xs x h = (h.0, subst (λ (n : ℕ). h.0 < n) (sym (length-map xs f)) h.1, get_or-map f xs h.0 x (f x) h.1 ∙ ap f h.2)

-- lists for each of some numbers
module _ {A : Type 0} (f : ℕ → List A) where
  each_all : (P : A → Type 0) (ns : List ℕ) → ((n : ℕ) → Contains ns n → All P (f n)) → All P (for_each ns f)
  each_all P [] h = All-nil P
  each_all P (n ∷ ns) h = All-append P (f n) (for_each ns f) (h n (first_in n ns)) (each_all P ns (λ k c. h k (next_in n ns k c)))

  each_in : (ns : List ℕ) (n : ℕ) (x : A) (k : ℕ) → k < length ns → slice_index_or ns k n ≡ n → Contains (f n) x → Contains (for_each ns f) x
  each_in [] n x k h e c = absurd (omega (arith, h))
  each_in (m ∷ ns) n x zero h e c = Contains-append_left (f m) (for_each ns f) x (subst (λ (z : ℕ). Contains (f z) x) (sym e) c)
  each_in (m ∷ ns) n x (suc k) h e c = Contains-append_right (f m) (for_each ns f) x (each_in ns n x k (omega (arith, h)) e c)

-- ---- places
module _ (is js ks : List ℕ) where
  places_all : (P : Place → Type 0) → ((i j k : ℕ) → Contains is i → Contains js j → Contains ks k → P (place_at i j k)) → All P (places is js ks)
  places_all P h = each_all (λ k. for_each js (λ j. map (λ i. place_at i j k) is)) P ks (λ k c.
      each_all (λ j. map (λ i. place_at i j k) is) P js (λ j b.
      All-map P (λ i. place_at i j k) is (λ n d l. h (slice_index_or is n d) j k (Contains-get_or is n d l) b c)))

  places_in : (i j k : ℕ) → Contains is i → Contains js j → Contains ks k → Contains (places is js ks) (place_at i j k)
  places_in i j k a b c = each_in (λ k. for_each js (λ j. map (λ i. place_at i j k) is)) ks k (place_at i j k) c.0 c.1 c.2
      (each_in (λ j. map (λ i. place_at i j k) is) js j (place_at i j k) b.0 b.1 b.2 (mapped (λ i. place_at i j k) is i a))

counts_to : (from n x : ℕ) → Contains (counting from n) x → (from ≤ x) × (x < from + n)
counts_to from n x c = All-contains (λ x. (from ≤ x) × (x < from + n)) (counting from n) x (within from n) c

line : (n x : ℕ) → Contains (all_lines n) x → x ≤ n
line n x c = let h = counts_to 0 (suc n) x c in omega (arith, h.1)

interval : (n x : ℕ) → Contains (intervals n) x → x < n
interval n x c = let h = counts_to 0 n x c in omega (arith, h.1)

inner : (n x : ℕ) → Contains (inner_lines n) x → (0 < x) × (x < n)
inner n x c = let h = counts_to 1 (n - 1) x c in (omega (arith, h.0), omega (arith, h.0, h.1))

to_line : (n x : ℕ) → x ≤ n → Contains (all_lines n) x
to_line n x h = counted 0 (suc n) x (omega arith) (omega (arith, h))

to_interval : (n x : ℕ) → x < n → Contains (intervals n) x
to_interval n x h = counted 0 n x (omega arith) (omega (arith, h))

to_inner : (n x : ℕ) → 0 < x → x < n → Contains (inner_lines n) x
to_inner n x g h = counted 1 (n - 1) x (omega (arith, g)) (omega (arith, g, h))

-- ---- the moves of a pass
abbrev pub IsMoveOn : Counts → Move → Type 0
IsMoveOn n (Node p) = IsNode n p
IsMoveOn n (Loop a e) = IsInnerEdge n a e

nodes_are : (n : Counts) → All (IsNode n) (nodes n)
nodes_are n = places_all (all_lines (n X)) (all_lines (n Y)) (all_lines (n Z)) (IsNode n) (λ i j k a b c. (line (n X) i a, line (n Y) j b, line (n Z) k c))

edges_are : (n : Counts) (a : AxisName) → All (IsInnerEdge n a) (inner_edges n a)
edges_are n X = places_all (intervals (n X)) (inner_lines (n Y)) (inner_lines (n Z)) (IsInnerEdge n X) (λ i j k a b c. let y = inner (n Y) j b in let z = inner (n Z) k c in (interval (n X) i a, y.0, y.1, z.0, z.1))
edges_are n Y = places_all (inner_lines (n X)) (intervals (n Y)) (inner_lines (n Z)) (IsInnerEdge n Y) (λ i j k a b c. let x = inner (n X) i a in let z = inner (n Z) k c in (x.0, x.1, interval (n Y) j b, z.0, z.1))
edges_are n Z = places_all (inner_lines (n X)) (inner_lines (n Y)) (intervals (n Z)) (IsInnerEdge n Z) (λ i j k a b c. let x = inner (n X) i a in let y = inner (n Y) j b in (x.0, x.1, y.0, y.1, interval (n Z) k c))

pub moves_are : (n : Counts) (move : Move) → Contains (pass_moves n) move → IsMoveOn n move
moves_are n move c = All-contains (IsMoveOn n) (pass_moves n) move
    (All-append (IsMoveOn n) (map Node (nodes n)) (loop_moves n) (All-map (IsMoveOn n) Node (nodes n) (nodes_are n))
    (All-append (IsMoveOn n) (map (Loop X) (inner_edges n X)) (map (Loop Y) (inner_edges n Y) ++ map (Loop Z) (inner_edges n Z)) (All-map (IsMoveOn n) (Loop X) (inner_edges n X) (edges_are n X))
    (All-append (IsMoveOn n) (map (Loop Y) (inner_edges n Y)) (map (Loop Z) (inner_edges n Z)) (All-map (IsMoveOn n) (Loop Y) (inner_edges n Y) (edges_are n Y)) (All-map (IsMoveOn n) (Loop Z) (inner_edges n Z) (edges_are n Z))))) c

edge_in : (n : Counts) (a : AxisName) (e : Place) → IsInnerEdge n a e → Contains (inner_edges n a) e
edge_in n X e (x, y, y', z, z') = places_in (intervals (n X)) (inner_lines (n Y)) (inner_lines (n Z)) e.i e.j e.k (to_interval (n X) e.i x) (to_inner (n Y) e.j y y') (to_inner (n Z) e.k z z')
edge_in n Y e (x, x', y, z, z') = places_in (inner_lines (n X)) (intervals (n Y)) (inner_lines (n Z)) e.i e.j e.k (to_inner (n X) e.i x x') (to_interval (n Y) e.j y) (to_inner (n Z) e.k z z')
edge_in n Z e (x, x', y, y', z) = places_in (inner_lines (n X)) (inner_lines (n Y)) (intervals (n Z)) e.i e.j e.k (to_inner (n X) e.i x x') (to_inner (n Y) e.j y y') (to_interval (n Z) e.k z)

pub node_in_pass : (n : Counts) (p : Place) → IsNode n p → Contains (pass_moves n) (Node p)
node_in_pass n p (x, y, z) = Contains-append_left (map Node (nodes n)) (loop_moves n) (Node p)
    (mapped Node (nodes n) p (places_in (all_lines (n X)) (all_lines (n Y)) (all_lines (n Z)) p.i p.j p.k (to_line (n X) p.i x) (to_line (n Y) p.j y) (to_line (n Z) p.k z)))

pub loop_in_pass : (n : Counts) (a : AxisName) (e : Place) → IsInnerEdge n a e → Contains (pass_moves n) (Loop a e)
loop_in_pass n a e h = Contains-append_right (map Node (nodes n)) (loop_moves n) (Loop a e) (by_axis a h)
  where
    by_axis : (a : AxisName) → IsInnerEdge n a e → Contains (loop_moves n) (Loop a e)
    by_axis X h = Contains-append_left (map (Loop X) (inner_edges n X)) (map (Loop Y) (inner_edges n Y) ++ map (Loop Z) (inner_edges n Z)) (Loop X e) (mapped (Loop X) (inner_edges n X) e (edge_in n X e h))
    by_axis Y h = Contains-append_right (map (Loop X) (inner_edges n X)) (map (Loop Y) (inner_edges n Y) ++ map (Loop Z) (inner_edges n Z)) (Loop Y e)
        (Contains-append_left (map (Loop Y) (inner_edges n Y)) (map (Loop Z) (inner_edges n Z)) (Loop Y e) (mapped (Loop Y) (inner_edges n Y) e (edge_in n Y e h)))
    by_axis Z h = Contains-append_right (map (Loop X) (inner_edges n X)) (map (Loop Y) (inner_edges n Y) ++ map (Loop Z) (inner_edges n Z)) (Loop Z e)
        (Contains-append_right (map (Loop Y) (inner_edges n Y)) (map (Loop Z) (inner_edges n Z)) (Loop Z e) (mapped (Loop Z) (inner_edges n Z) e (edge_in n Z e h)))
