-- The energy of a temperature field and the bound of a heat flux on a mesh, and the two ends of an interval.
--
-- Dirichlet's principle: the energy of every conforming field is at least the heat flow. Thomson's principle:
-- the bound of every balanced flux is at most the heat flow. Node values are in 10⁻⁸ of the temperature
-- difference, face values in nW per unit difference, energy and bound in fW/K.
use Rattle.std.specs.Prelude.{◌≡◌, ℕ, suc, ◌+◌, ◌*◌, ◌^◌, ◌<◌, ◌≤◌, Option, Some, Bool, if◌then◌else◌, pos, ◌+ℤ◌, ◌-ℤ◌, ℤ}
use Rattle.tb_math.specs.Division.{◌/ℚ◌}
use Rattle.tb_math.specs.Rational.{ℚ, int, one_over, ◌+ℚ◌, ◌-ℚ◌, ◌*ℚ◌, neg_ℚ}
use Rattle.tb_math.specs.Ceiling.{ceiling, floor}
use Rattle.tb_math.specs.Sums.{sum_to}
use Rattle.tb_places.specs.declared.AxisName.{AxisName}
use Rattle.tb_places.specs.declared.AxisName.TheVariants.{X, Y, Z}
use Rattle.tb_places.specs.Places.{second, third, along}
use Rattle.tb_detail.specs.declared.Content.{Content}
use Rattle.tb_detail.specs.declared.Content.TheVariants.{Solid}
use Rattle.tb_model.specs.declared.FaceKind.{FaceKind}
use Rattle.tb_model.specs.declared.FaceKind.TheVariants.{Surface, Shut}
use Rattle.tb_model.specs.Mesh.{Mesh, kind, cross_section}

-- the temperature at each node of a mesh; between the nodes of a cell it is trilinear
abbrev pub Field : Type 0
Field = ℕ → ℕ → ℕ → ℚ

-- the flow through each face across an axis, positive in the direction of the axis; it is constant on a face,
-- and across a cell linear from one face to the opposite one
abbrev pub Flux : Type 0
Flux = AxisName → ℕ → ℕ → ℕ → ℚ

-- a case: the environments that are at 1, while the others are at 0
abbrev pub Case : Type 0
Case = ℕ → Bool

-- Sums over a mesh --

-- What is summed: one number for each axis of a solid cell, given the cell's conductivity along it, and one for
-- each surface face, given its environment, its resistance and whether the air lies below. The index along the
-- axis comes first.
pub record Terms : Type 0 where
  pub cell : AxisName → ℕ → ℕ → ℕ → ℚ → ℚ
  pub surface : AxisName → ℕ → ℕ → ℕ → ℕ → ℕ → Bool → ℚ

abbrev pub of_solid : {A : Type 0} → A → (ℕ → A) → Option Content → A
of_solid none f (Some (Solid material)) = f material
of_solid none f _ = none

abbrev pub at_surface : {A : Type 0} → A → (ℕ → ℕ → Bool → A) → FaceKind → A
at_surface none f (Surface environment rs low_is_air) = f environment rs low_is_air
at_surface none f _ = none

-- each term is read, and the readings are added up: along a line of cells, over the lines of an axis, over the axes
abbrev pub line_sum : {A : Type 0} → A → (A → A → A) → (ℚ → A) → Mesh → Terms → AxisName → ℕ → ℕ → A
line_sum none plus read m t a j k =
    plus
    (sum_to none plus (m.cells a) (λ i. of_solid none (λ n. read (t.cell a i j k (m.conductivity n a))) (along a m.occupant i j k)))
    (sum_to none plus (suc (m.cells a)) (λ i. at_surface none (λ e rs low. read (t.surface a i j k e rs low)) (kind m a i j k)))

abbrev pub axis_sum : {A : Type 0} → A → (A → A → A) → (ℚ → A) → Mesh → Terms → AxisName → A
axis_sum none plus read m t a = sum_to none plus (m.cells (third a)) (λ k. sum_to none plus (m.cells (second a)) (λ j. line_sum none plus read m t a j k))

abbrev pub mesh_sum : {A : Type 0} → A → (A → A → A) → (ℚ → A) → Mesh → Terms → A
mesh_sum none plus read m t = plus (plus (axis_sum none plus read m t X) (axis_sum none plus read m t Y)) (axis_sum none plus read m t Z)

-- the sum of the terms, the sum of the terms each rounded up, and the number of the terms
unfoldable pub exact : Mesh → Terms → ℚ
exact m t = mesh_sum (int (pos 0)) ◌+ℚ◌ (λ x. x) m t

unfoldable pub rounded_up : Mesh → Terms → ℤ
rounded_up m t = mesh_sum (pos 0) ◌+ℤ◌ ceiling m t

unfoldable pub number_of_terms : Mesh → Terms → ℕ
number_of_terms m t = mesh_sum 0 ◌+◌ (λ _. 1) m t

-- The energy of a field --

-- 36 times the mean square, over a rectangle, of the bilinear function with these corner values. The corners
-- (0,0), (1,0), (0,1), (1,1) stand in this order, here and below, the earlier axis first.
unfoldable pub spread : ℚ → ℚ → ℚ → ℚ → ℚ
spread d00 d10 d01 d11 =
    int (pos 4) *ℚ (d00 *ℚ d00 +ℚ d10 *ℚ d10 +ℚ d01 *ℚ d01 +ℚ d11 *ℚ d11)
    +ℚ int (pos 4) *ℚ (d00 *ℚ d10 +ℚ d00 *ℚ d01 +ℚ d10 *ℚ d11 +ℚ d01 *ℚ d11)
    +ℚ int (pos 2) *ℚ (d00 *ℚ d11 +ℚ d10 *ℚ d01)

-- the spread of a function of places over the four corners of the face across an axis
abbrev pub spread_at : (ℕ → ℕ → ℚ) → ℕ → ℕ → ℚ
spread_at f j k = spread (f j k) (f (suc j) k) (f j (suc k)) (f (suc j) (suc k))

-- the temperature of an environment: 1 where it is in the case, else 0
abbrev pub boundary : Case → ℕ → ℚ
boundary inside e = if inside e then int (pos (10 ^ 8)) else int (pos 0)

-- One axis of a cell: λ · bc/a · M/36, with the spread M of the four differences along the axis.
abbrev pub cell_energy : (conductivity width section M : ℚ) → ℚ
cell_energy conductivity width section M = conductivity *ℚ section /ℚ width *ℚ M *ℚ one_over (36 * 10 ^ 9)

-- A surface face: bc/Rs · M/36, with the spread M of the four corner values less that of the environment.
abbrev pub surface_energy : (rs : ℕ) (section M : ℚ) → ℚ
surface_energy rs section M = section *ℚ one_over rs *ℚ M *ℚ one_over (36 * 10 ^ 5)

abbrev pub field_terms : Mesh → Case → Field → Terms
field_terms m inside T = record {
  cell = λ a i j k conductivity. cell_energy conductivity (m.width a i) (cross_section m a j k) (spread_at (λ q r. along a T (suc i) q r -ℚ along a T i q r) j k);
  surface = λ a i j k environment rs low_is_air. surface_energy rs (cross_section m a j k) (spread_at (λ q r. along a T i q r -ℚ boundary inside environment) j k);
}

-- the energy of a field
unfoldable pub energy : Mesh → Case → Field → ℚ
energy m inside T = exact m (field_terms m inside T)

-- the upper end of an interval: the terms of the energy, each rounded up
unfoldable pub upper_end : Mesh → Case → Field → ℤ
upper_end m inside T = rounded_up m (field_terms m inside T)

-- The bound of a flux --

-- 3 times the mean square, over an interval, of the linear function with these end values
unfoldable pub passage : ℚ → ℚ → ℚ
passage low high = low *ℚ low +ℚ low *ℚ high +ℚ high *ℚ high

-- One axis of a cell: a · (F0² + F0·F1 + F1²)/(3·bc·λ), with the passage P of the flows through its two faces.
abbrev pub cell_loss : (conductivity width section P : ℚ) → ℚ
cell_loss conductivity width section P = width *ℚ P *ℚ int (pos (10 ^ 5)) /ℚ (int (pos 3) *ℚ section *ℚ conductivity)

-- A surface face: Rs · F²/bc.
abbrev pub surface_loss : (rs : ℕ) (section flow : ℚ) → ℚ
surface_loss rs section flow = int (pos (10 * rs)) *ℚ (flow *ℚ flow) /ℚ section

abbrev pub flux_terms : Mesh → Flux → Terms
flux_terms m q = record {
  cell = λ a i j k conductivity. cell_loss conductivity (m.width a i) (cross_section m a j k) (passage (along a (q a) i j k) (along a (q a) (suc i) j k));
  surface = λ a i j k environment rs low_is_air. surface_loss rs (cross_section m a j k) (along a (q a) i j k);
}

-- the flow that enters the body through the surfaces of the environments of the case
abbrev pub entering_terms : Case → Flux → Terms
entering_terms inside q = record {
  cell = λ a i j k conductivity. int (pos 0);
  surface = λ a i j k environment rs low_is_air. if inside environment then (if low_is_air then along a (q a) i j k else neg_ℚ (along a (q a) i j k)) else int (pos 0);
}

-- twice that flow times the temperature 1
unfoldable pub source : Mesh → Case → Flux → ℚ
source m inside q = int (pos (2 * 10 ^ 6)) *ℚ exact m (entering_terms inside q)

-- the bound of a flux: the source less the loss
unfoldable pub bound : Mesh → Case → Flux → ℚ
bound m inside q = source m inside q -ℚ exact m (flux_terms m q)

-- the lower end of an interval: the source, rounded down, less the terms of the loss, each rounded up
unfoldable pub lower_end : Mesh → Case → Flux → ℤ
lower_end m inside q = floor (source m inside q) -ℤ rounded_up m (flux_terms m q)

-- Balance --

-- what leaves a cell through its six faces
abbrev pub outflow : Flux → ℕ → ℕ → ℕ → ℚ
outflow q i j k =
    (q X (suc i) j k -ℚ q X i j k)
    +ℚ (q Y i (suc j) k -ℚ q Y i j k)
    +ℚ (q Z i j (suc k) -ℚ q Z i j k)

-- nothing is lost in a solid cell, and nothing passes an adiabatic face
pub record IsBalanced (m : Mesh) (q : Flux) : Type 0 where
  pub cells : (i j k material : ℕ) → i < m.cells X → j < m.cells Y → k < m.cells Z → m.occupant i j k ≡ Some (Solid material) → outflow q i j k ≡ int (pos 0)
  pub shut : (a : AxisName) (i j k : ℕ) → i ≤ m.cells a → j < m.cells (second a) → k < m.cells (third a) → kind m a i j k ≡ Shut → along a (q a) i j k ≡ int (pos 0)
