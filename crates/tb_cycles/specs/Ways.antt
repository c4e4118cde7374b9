-- The way of outlets from a cell to the root of its linked set, and sums along it.
use Rattle.std.specs.Prelude.{◌≡◌, ◌⊎◌, ℕ, ◌*◌, ◌<◌, ◌≤◌, ◌^◌, List, [], ◌∷◌, length, replicate, slice_set, ℤ, pos, ◌+ℤ◌, ◌*ℤ◌}
use Rattle.tb_math.specs.Sums.{total_ℤ}
use Rattle.tb_places.specs.Inverse.{cell_place}
use Rattle.tb_places.specs.Places.{Counts, cell_count, face_count}
use Rattle.tb_model.specs.Mesh.{Mesh}
use Rattle.tb_outlets.specs.declared.marks.Mark.{Mark}
use Rattle.tb_outlets.specs.declared.side.Side.{Side}
use Rattle.tb_outlets.specs.Balancing.{flow, side_at}
use Rattle.tb_outlets.specs.Cycles.{IsOutward, out}
use Rattle.tb_outlets.specs.Flows.{Sides}
use Rattle.tb_outlets.specs.Outlets.{AreDistances, AreOutlets, IsSolidAt}
use Rattle.tb_outlets.specs.Searching.{distance_at}
use Rattle.tb_outlets.specs.Sides.{IsBeyond, face_of}

-- the most that is told of a face
abbrev pub most_pull : ℕ
most_pull = 3 * 2 ^ 107

-- what is told of each face, times the flow through it, over all faces
abbrev pub sum_over : Counts → List ℤ → (ℕ → ℤ) → ℤ
sum_over n flows pull = total_ℤ (face_count n) (λ f. flow flows f *ℤ pull f)

-- the same over the outlets on the way from a cell through those after it, where 1 leaves each cell
abbrev pub way_sum : Sides → (ℕ → Side) → (ℕ → ℤ) → ℕ → List ℕ → ℤ
way_sum face outlet pull c [] = out (outlet c) *ℤ pull (face c (outlet c))
way_sum face outlet pull c (e ∷ es) = out (outlet c) *ℤ pull (face c (outlet c)) +ℤ way_sum face outlet pull e es

-- distances and outlets of the solid cells of a mesh, in lists
pub record LeadOut (m : Mesh) (marks : List Mark) (sides : List Side) : Type 0 where
  pub count : length sides ≡ cell_count m.cells
  pub marked : length marks ≡ cell_count m.cells
  pub distances : AreDistances m (distance_at marks)
  pub found : (c : ℕ) → 0 < distance_at marks c → IsSolidAt m c
  pub near : (c : ℕ) → distance_at marks c ≤ cell_count m.cells
  pub outlets : AreOutlets m (side_at sides)

-- they are those of a mesh with these counts of cells
pub record LeadOutOn (n : Counts) (marks : List Mark) (sides : List Side) : Type 0 where
  pub mesh : Mesh
  pub counts : n ≡ mesh.cells
  pub leads : LeadOut mesh marks sides

-- cell d lies beyond the outlet of cell c
pub record IsNext (n : Counts) (marks : List Mark) (sides : List Side) (c d : ℕ) : Type 0 where
  pub further : 1 < distance_at marks c
  pub in_grid : d < cell_count n
  pub beyond : IsBeyond (side_at sides c) (cell_place n c) (cell_place n d)

-- none does, or the outlet is the root
abbrev pub IsLast : Counts → List Mark → List Side → ℕ → Type 0
IsLast n marks sides c = (distance_at marks c ≤ 1) ⊎ ((d : ℕ) → d < cell_count n → ¬ IsBeyond (side_at sides c) (cell_place n c) (cell_place n d))

-- What is left of a way at cell c, where so much was summed: the rest adds up with it to the sum of the whole way.
pub record IsLeft (m : Mesh) (outlet : ℕ → Side) (pull : ℕ → ℤ) (start : ℕ) (whole : List ℕ) (c : ℕ) (total : ℤ) : Type 0 where
  pub rest : List ℕ
  pub outward : IsOutward (face_of m.cells) (IsSolidAt m) outlet c rest
  pub adds : total +ℤ way_sum (face_of m.cells) outlet pull c rest ≡ way_sum (face_of m.cells) outlet pull start whole

-- A function of flows is additive, with what it tells of each face: it is 0 where nothing flows, and one flow more adds the
-- flow times that.
pub record IsAdditive (n : ℕ) (S : List ℤ → ℤ) (pull : ℕ → ℤ) : Type 0 where
  pub none : S (replicate n (pos 0)) ≡ pos 0
  pub more : (flows : List ℤ) (f : ℕ) (x : ℤ) → length flows ≡ n → f < n → flow flows f ≡ pos 0 →
      S (slice_set flows f x) ≡ S flows +ℤ x *ℤ pull f
