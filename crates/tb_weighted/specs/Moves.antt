-- Moves of a field and a flux, lists of moves, the plain pass, and what settled means.
--
-- A move of a node sets its value, a move of a loop adds a multiple of what goes round an edge: each to the least of
-- the weighted energy within the limits, and the nearest to what it was.
use Rattle.std.specs.Prelude.{◌≡◌, ℕ, zero, suc, ◌-◌, ◌^◌, ◌<◌, Bool, List, [], ◌∷◌, ◌++◌, map, Contains, length, slice_set, slice_index_or, ℤ, pos, ◌+ℤ◌, ◌-ℤ◌, ◌*ℤ◌}
use Rattle.tb_math.specs.Rational.{int}
use Rattle.tb_places.specs.declared.AxisName.{AxisName}
use Rattle.tb_places.specs.declared.AxisName.TheVariants.{X, Y, Z}
use Rattle.tb_places.specs.declared.Place.{Place}
use Rattle.tb_places.specs.Places.{Counts, face_number, node_number, place_at, IsFace}
use Rattle.tb_model.specs.Mesh.{Mesh, kind_at}
use Rattle.tb_model.specs.Energy.{Case, Flux}
use Rattle.tb_model.specs.Values.{field_of}
use Rattle.tb_model.specs.declared.FaceKind.{FaceKind}
use Rattle.tb_model.specs.declared.FaceKind.TheVariants.{Idle}
use Rattle.tb_weighted.specs.Forms.{only_at}
use Rattle.tb_weighted.specs.Least.{IsNearestLeast, IsNearestLeastOf}
use Rattle.tb_weighted.specs.Limits.{InFlow}
use Rattle.tb_weighted.specs.Sequences.{AreMade}
use Rattle.tb_weighted.specs.Weighted.{weighted_field, weighted_flux}

abbrev pub value_at : List ℤ → ℕ → ℤ
value_at values n = slice_index_or values n (pos 0)

-- Nodes --

-- the value with this number changes to the least of the weighted energy, and all others stay
pub record IsNodeMove (m : Mesh) (inside : Case) (node : ℕ) (old new : List ℤ) : Type 0 where
  pub value : ℤ
  pub least : IsNearestLeast (λ x. weighted_field m inside (field_of m.cells (slice_set old node x))) (pos 0) (pos (10 ^ 8)) (value_at old node) value
  pub rest : new ≡ slice_set old node value

-- Loops --

-- whole flows through faces
abbrev pub Flows : Type 0
Flows = AxisName → ℕ → ℕ → ℕ → ℤ

-- What goes round the edge along an axis at the place e, through the four faces that meet there: for the edge along x
-- by 1 through the y-face in the layer below it and the z-face in the row above it, and by -1 through the two others.
-- The loops of the other axes follow by turning x to y to z to x.
abbrev pub round_edge : AxisName → Place → Flows
round_edge X e Y i j k = only_at e.i e.j (e.k - 1) i j k -ℤ only_at e.i e.j e.k i j k
round_edge X e Z i j k = only_at e.i e.j e.k i j k -ℤ only_at e.i (e.j - 1) e.k i j k
round_edge Y e Z i j k = only_at (e.i - 1) e.j e.k i j k -ℤ only_at e.i e.j e.k i j k
round_edge Y e X i j k = only_at e.i e.j e.k i j k -ℤ only_at e.i e.j (e.k - 1) i j k
round_edge Z e X i j k = only_at e.i (e.j - 1) e.k i j k -ℤ only_at e.i e.j e.k i j k
round_edge Z e Y i j k = only_at e.i e.j e.k i j k -ℤ only_at (e.i - 1) e.j e.k i j k
round_edge _ e _ i j k = pos 0

-- an edge that has a cell on each of its four sides
abbrev pub IsInnerEdge : Counts → AxisName → Place → Type 0
IsInnerEdge n X e = (e.i < n X) × (0 < e.j) × (e.j < n Y) × (0 < e.k) × (e.k < n Z)
IsInnerEdge n Y e = (0 < e.i) × (e.i < n X) × (e.j < n Y) × (0 < e.k) × (e.k < n Z)
IsInnerEdge n Z e = (0 < e.i) × (e.i < n X) × (0 < e.j) × (e.j < n Y) × (e.k < n Z)

abbrev pub unless_idle : FaceKind → ℤ → ℤ
unless_idle Idle x = pos 0
unless_idle _ x = x

-- the loop of an edge: faces that are idle are left out
abbrev pub loop_of : Mesh → AxisName → Place → Flows
loop_of m axis e a i j k = unless_idle (kind_at m a (place_at i j k)) (round_edge axis e a i j k)

-- flows with a multiple of others added
abbrev pub with_multiple : Counts → List ℤ → Flows → ℤ → Flows
with_multiple n flux change t a i j k = value_at flux (face_number n a (place_at i j k)) +ℤ t *ℤ change a i j k

-- every face of a grid keeps within the limits
abbrev pub KeepsLimits : Counts → Flows → Type 0
KeepsLimits n q = (a : AxisName) (i j k : ℕ) → IsFace n a (place_at i j k) → InFlow (q a i j k)

-- the flux of whole flows
abbrev pub whole_flux : Flows → Flux
whole_flux q a i j k = int (q a i j k)

-- a multiple of what goes round an edge is added: of the multiples within the limits that make the weighted energy
-- least, the one nearest to 0
pub record IsLoopMove (m : Mesh) (inside : Case) (axis : AxisName) (e : Place) (old new : List ℤ) : Type 0 where
  pub multiple : ℤ
  pub least : IsNearestLeastOf (λ t. weighted_flux m inside (whole_flux (with_multiple m.cells old (loop_of m axis e) t))) (λ t. KeepsLimits m.cells (with_multiple m.cells old (loop_of m axis e) t)) (pos 0) multiple
  pub faces : length new ≡ length old
  pub added : (a : AxisName) (i j k : ℕ) → IsFace m.cells a (place_at i j k) → value_at new (face_number m.cells a (place_at i j k)) ≡ with_multiple m.cells old (loop_of m axis e) multiple a i j k

-- Lists of moves --

-- the node values of a field, and the face values of a flux
pub record State : Type 0 where
  pub field : List ℤ
  pub flux : List ℤ

-- of the node at a place, and of the edge along an axis at a place
pub data Move : Type 0 where
  Node : Place → Move
  Loop : AxisName → Place → Move

abbrev pub IsMove : Mesh → Case → Move → State → State → Type 0
IsMove m inside (Node p) old new = IsNodeMove m inside (node_number m.cells p) old.field new.field × (new.flux ≡ old.flux)
IsMove m inside (Loop a p) old new = IsLoopMove m inside a p old.flux new.flux × (new.field ≡ old.field)

-- the moves of a list in order; `told` says that one of them changed the state
abbrev pub AreMoves : Mesh → Case → List Move → State → State → Bool → Type 0
AreMoves m inside moves old new told = AreMade State Move (IsMove m inside) moves old new told

-- The plain pass --

-- so many numbers, from a first one on
abbrev pub counting : ℕ → ℕ → List ℕ
counting from zero = []
counting from (suc n) = from ∷ counting (suc from) n

abbrev pub for_each : {A : Type 0} → List ℕ → (ℕ → List A) → List A
for_each [] f = []
for_each (n ∷ ns) f = f n ++ for_each ns f

-- the places with these indexes, i fastest, then j, then k
abbrev pub places : List ℕ → List ℕ → List ℕ → List Place
places is js ks = for_each ks (λ k. for_each js (λ j. map (λ i. place_at i j k) is))

-- the intervals of an axis of n cells, its lines, and its lines but the first and the last
abbrev pub intervals : ℕ → List ℕ
intervals n = counting 0 n

abbrev pub all_lines : ℕ → List ℕ
all_lines n = counting 0 (suc n)

abbrev pub inner_lines : ℕ → List ℕ
inner_lines n = counting 1 (n - 1)

abbrev pub nodes : Counts → List Place
nodes n = places (all_lines (n X)) (all_lines (n Y)) (all_lines (n Z))

-- the edges along an axis that have a cell on each of their four sides
abbrev pub inner_edges : Counts → AxisName → List Place
inner_edges n X = places (intervals (n X)) (inner_lines (n Y)) (inner_lines (n Z))
inner_edges n Y = places (inner_lines (n X)) (intervals (n Y)) (inner_lines (n Z))
inner_edges n Z = places (inner_lines (n X)) (inner_lines (n Y)) (intervals (n Z))

-- all edges inside the hull, those along x first, along z last
abbrev pub loop_moves : Counts → List Move
loop_moves n = map (Loop X) (inner_edges n X) ++ (map (Loop Y) (inner_edges n Y) ++ map (Loop Z) (inner_edges n Z))

-- all nodes, then all edges inside the hull
abbrev pub pass_moves : Counts → List Move
pass_moves n = map Node (nodes n) ++ loop_moves n

abbrev pub IsPass : Mesh → Case → State → State → Bool → Type 0
IsPass m inside old new told = AreMoves m inside (pass_moves m.cells) old new told

-- no move changes the state
abbrev pub IsSettled : Mesh → Case → State → Type 0
IsSettled m inside s = (move : Move) → Contains (pass_moves m.cells) move → (new : State) → IsMove m inside move s new → new ≡ s
