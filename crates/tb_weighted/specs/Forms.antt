-- A quadratic form over a grid: weights of cells and of faces, and what it gives for whole values at the nodes.
--
-- Each sum is written for one axis, with the index along it first (`turned`), and taken for all three.
use Rattle.std.specs.Prelude.{◌≡◌, ℕ, zero, suc, ◌^◌, ℤ, pos, ◌+ℤ◌, ◌-ℤ◌, ◌*ℤ◌, cond, eqb, ltb, List, slice_index_or, slice_set}
use Rattle.tb_math.specs.Sums.{total_ℤ}
use Rattle.tb_places.specs.declared.AxisName.{AxisName}
use Rattle.tb_places.specs.declared.AxisName.TheVariants.{X, Y, Z}
use Rattle.tb_places.specs.Places.{Counts, second, third, along, node_number, place_at}
use Rattle.tb_weighted.specs.Least.{IsNearestLeast}

-- M of four differences, and its bilinear form (the change of M is that, to first order)
abbrev pub form : ℤ → ℤ → ℤ → ℤ → ℤ
form a b c d = pos 4 *ℤ (a *ℤ a +ℤ b *ℤ b +ℤ c *ℤ c +ℤ d *ℤ d) +ℤ pos 4 *ℤ (a *ℤ b +ℤ a *ℤ c +ℤ b *ℤ d +ℤ c *ℤ d) +ℤ pos 2 *ℤ (a *ℤ d +ℤ b *ℤ c)

abbrev pub cross : ℤ → ℤ → ℤ → ℤ → ℤ → ℤ → ℤ → ℤ → ℤ
cross a b c d a' b' c' d' =
    a' *ℤ (pos 8 *ℤ a +ℤ pos 4 *ℤ b +ℤ pos 4 *ℤ c +ℤ pos 2 *ℤ d)
    +ℤ b' *ℤ (pos 4 *ℤ a +ℤ pos 8 *ℤ b +ℤ pos 2 *ℤ c +ℤ pos 4 *ℤ d)
    +ℤ c' *ℤ (pos 4 *ℤ a +ℤ pos 2 *ℤ b +ℤ pos 8 *ℤ c +ℤ pos 4 *ℤ d)
    +ℤ d' *ℤ (pos 2 *ℤ a +ℤ pos 4 *ℤ b +ℤ pos 4 *ℤ c +ℤ pos 8 *ℤ d)

-- over the four corners of a face
abbrev pub form_at : (ℕ → ℕ → ℤ) → ℕ → ℕ → ℤ
form_at f j k = form (f j k) (f (suc j) k) (f j (suc k)) (f (suc j) (suc k))

abbrev pub cross_at : (ℕ → ℕ → ℤ) → (ℕ → ℕ → ℤ) → ℕ → ℕ → ℤ
cross_at f u j k = cross (f j k) (f (suc j) k) (f j (suc k)) (f (suc j) (suc k)) (u j k) (u (suc j) k) (u j (suc k)) (u (suc j) (suc k))

-- numbers at places
abbrev pub Spread3 : Type 0
Spread3 = ℕ → ℕ → ℕ → ℤ

-- ---- one axis: n cells along it, m and p along the two others; w and s the weights of cells and faces, l the
-- level that a face's values are taken from, g the values at the nodes, u their change
abbrev pub rise : Spread3 → ℕ → ℕ → ℕ → ℤ
rise g i q r = g (suc i) q r -ℤ g i q r

abbrev pub cell_part : Spread3 → Spread3 → Spread3
cell_part w g i j k = w i j k *ℤ form_at (rise g i) j k

abbrev pub face_part : Spread3 → Spread3 → Spread3 → Spread3
face_part s l g i j k = s i j k *ℤ form_at (λ q r. g i q r -ℤ l i j k) j k

abbrev pub cell_slope : Spread3 → Spread3 → Spread3 → Spread3
cell_slope w g u i j k = w i j k *ℤ cross_at (rise g i) (rise u i) j k

abbrev pub face_slope : Spread3 → Spread3 → Spread3 → Spread3 → Spread3
face_slope s l g u i j k = s i j k *ℤ cross_at (λ q r. g i q r -ℤ l i j k) (u i) j k

abbrev pub face_rate : Spread3 → Spread3 → Spread3
face_rate s u i j k = s i j k *ℤ form_at (u i) j k

-- the sum over a line of cells and its faces, and over all lines
abbrev pub line_sum : ℕ → Spread3 → Spread3 → ℕ → ℕ → ℤ
line_sum n cell face j k = total_ℤ n (λ i. cell i j k) +ℤ total_ℤ (suc n) (λ i. face i j k)

unfoldable pub axis_sum : ℕ → ℕ → ℕ → Spread3 → Spread3 → ℤ
axis_sum n m p cell face = total_ℤ p (λ k. total_ℤ m (λ j. line_sum n cell face j k))

-- ---- three axes
pub record Forms : Type 0 where
  pub cells : Counts
  pub cell : AxisName → ℕ → ℕ → ℕ → ℤ
  pub face : AxisName → ℕ → ℕ → ℕ → ℤ
  pub level : AxisName → ℕ → ℕ → ℕ → ℤ

abbrev pub over_axis : Forms → AxisName → Spread3 → Spread3 → ℤ
over_axis f a cell face = axis_sum (f.cells a) (f.cells (second a)) (f.cells (third a)) cell face

abbrev pub over_axes : (AxisName → ℤ) → ℤ
over_axes t = t X +ℤ t Y +ℤ t Z

abbrev pub axis_energy : Forms → Spread3 → AxisName → ℤ
axis_energy f g a = over_axis f a (cell_part (f.cell a) (along a g)) (face_part (f.face a) (f.level a) (along a g))

abbrev pub axis_rate : Forms → Spread3 → AxisName → ℤ
axis_rate f u a = over_axis f a (cell_part (f.cell a) (along a u)) (face_rate (f.face a) (along a u))

abbrev pub axis_slope : Forms → Spread3 → Spread3 → AxisName → ℤ
axis_slope f g u a = over_axis f a (cell_slope (f.cell a) (along a g) (along a u)) (face_slope (f.face a) (f.level a) (along a g) (along a u))

-- the energy of values, and of a change of them by t * u: rate * t² + slope * t + the energy before
unfoldable pub form_energy : Forms → Spread3 → ℤ
form_energy f g = over_axes (axis_energy f g)

unfoldable pub form_rate : Forms → Spread3 → ℤ
form_rate f u = over_axes (axis_rate f u)

unfoldable pub form_slope : Forms → Spread3 → Spread3 → ℤ
form_slope f g u = over_axes (axis_slope f g u)

-- the values of a list at the nodes
abbrev pub values_of : Counts → List ℤ → Spread3
values_of n values i j k = slice_index_or values (node_number n (place_at i j k)) (pos 0)

-- one node's value changes to the least of the form that is nearest to where it was; all else stays
pub record IsFormMove (f : Forms) (node : ℕ) (old new : List ℤ) : Type 0 where
  pub value : ℤ
  pub least : IsNearestLeast (λ x. form_energy f (values_of f.cells (slice_set old node x))) (pos 0) (pos (10 ^ 8)) (slice_index_or old node (pos 0)) value
  pub rest : new ≡ slice_set old node value

-- ---- one node
-- 1 where the numbers are equal, else 0
unfoldable pub bit : ℕ → ℕ → ℤ
bit i j = cond (eqb i j) (pos 1) (pos 0)

-- 1 at a place, else 0
abbrev pub only_at : ℕ → ℕ → ℕ → Spread3
only_at p q r i j k = bit i p *ℤ (bit j q *ℤ bit k r)

-- the cells before and behind a line of a row of n
abbrev pub before : (ℕ → ℤ) → ℕ → ℤ
before f zero = pos 0
before f (suc i) = f i

abbrev pub behind : (ℕ → ℤ) → ℕ → ℕ → ℤ
behind f n j = cond (ltb j n) (f j) (pos 0)

abbrev pub near : ℕ → ℕ → (ℕ → ℤ) → ℤ
near n j f = before f j +ℤ behind f n j

-- what remains of an axis' sum round a node: at most four lines, of each at most two cells and one face
abbrev pub line_near : ℕ → Spread3 → Spread3 → ℕ → ℕ → ℕ → ℤ
line_near n cell face i j k = near n i (λ h. cell h j k) +ℤ face i j k

abbrev pub layer_near : ℕ → ℕ → Spread3 → Spread3 → ℕ → ℕ → ℕ → ℤ
layer_near n m cell face i j k = near m j (λ h. line_near n cell face i h k)

abbrev pub axis_near : ℕ → ℕ → ℕ → Spread3 → Spread3 → ℕ → ℕ → ℕ → ℤ
axis_near n m p cell face i j k = near p k (λ h. layer_near n m cell face i j h)

-- the values at the four corners round a node's line, weighted: own line (q, r), the lines q' and r' beside it
abbrev pub stencil : Spread3 → ℕ → ℕ → ℕ → ℕ → ℕ → ℤ
stencil g i q r q' r' = pos 8 *ℤ g i q r +ℤ pos 4 *ℤ g i q' r +ℤ pos 4 *ℤ g i q r' +ℤ pos 2 *ℤ g i q' r'

-- an interval and the other of its two lines, seen from a line that bounds it
pub data Beside : ℕ → ℕ → ℕ → Type 0 where
  from_low : (q : ℕ) → Beside q q (suc q)
  from_high : (j : ℕ) → Beside (suc j) j j
