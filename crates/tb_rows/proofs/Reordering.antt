-- A sum over a mesh, axis by axis and line by line, is one over its solid cells in the order of their numbers.
use mathlib.Core.Path.{◌≡◌, refl, sym, ap, ◌∙◌}
use Rattle.std.specs.Prelude.{ℕ, suc, ◌<◌, nat_lt, Option, Some, None, Bool, true, false, if◌then◌else◌}
use Rattle.std.proofs.Common.{arith}
use Rattle.std.proofs.lemmas.Bool.Decides.{nat_tests}
use Rattle.tb_math.specs.Rational.{ℚ}
use Rattle.tb_math.specs.Sums.{sum_to}
use Rattle.tb_math.proofs.SumLaws.{Adds, sum-cong, sum-plus, sum-front, sum-swap, sum-turn}
use Rattle.tb_places.specs.declared.AxisName.{AxisName}
use Rattle.tb_places.specs.declared.AxisName.TheVariants.{X, Y, Z}
use Rattle.tb_places.specs.Places.{along, second, third}
use Rattle.tb_detail.specs.declared.Content.{Content}
use Rattle.tb_detail.specs.declared.Content.TheVariants.{Solid, Air}
use Rattle.tb_model.specs.Mesh.{Mesh, above, below, kind_between}
use Rattle.tb_model.specs.Energy.{Terms, of_solid, at_surface, line_sum, axis_sum, mesh_sum}
use Rattle.tb_rows.specs.Cells.{at_air, solid_sum, cell_sum, cells_sum}

within : (i n : ℕ) → i < n → nat_lt i n ≡ true
within i n l = grind (arith, nat_tests)

at_end : (n : ℕ) → nat_lt n n ≡ false
at_end n = grind (arith, nat_tests)

pub above_within : (n i : ℕ) (f : ℕ → Option Content) → i < n → above n f i ≡ f i
above_within n i f l = ap (λ (b : Bool). if b then f i else None) (within i n l)

pub above_end : (n : ℕ) (f : ℕ → Option Content) → above n f n ≡ None
above_end n f = ap (λ (b : Bool). if b then f n else None) (at_end n)

module _ {A : Type 0} (k : Adds A) where
  open k use {none, plus, plus-assoc, plus-comm, plus-none}

  abbrev sum : ℕ → (ℕ → A) → A
  sum n f = sum_to none plus n f

  none-plus : (x : A) → plus none x ≡ x
  none-plus x = plus-comm none x ∙ plus-none x

  -- a surface belongs to the solid on its one side
  split : (s : ℕ → ℕ → Bool → A) (b a : Option Content) → at_surface none s (kind_between b a)
      ≡ plus (of_solid none (λ (n : ℕ). at_air none (λ e rs. s e rs true) b) a) (of_solid none (λ (n : ℕ). at_air none (λ e rs. s e rs false) a) b)
  split s (Some (Solid m)) (Some (Solid n)) = sym (plus-none none)
  split s (Some (Solid m)) (Some (Air e rs)) = sym (none-plus (s e rs false))
  split s (Some (Solid m)) None = sym (plus-none none)
  split s (Some (Air e rs)) (Some (Solid n)) = sym (plus-none (s e rs true))
  split s (Some (Air e rs)) (Some (Air f rt)) = sym (plus-none none)
  split s (Some (Air e rs)) None = sym (plus-none none)
  split s None (Some (Solid n)) = sym (plus-none none)
  split s None (Some (Air e rs)) = sym (plus-none none)
  split s None None = sym (plus-none none)

  -- three sums over a solid are one
  gather : (c l h : ℕ → A) (o : Option Content) → plus (of_solid none c o) (plus (of_solid none l o) (of_solid none h o)) ≡ of_solid none (λ (n : ℕ). plus (c n) (plus (l n) (h n))) o
  gather c l h (Some (Solid n)) = refl
  gather c l h (Some (Air e rs)) = none-plus (plus none none) ∙ plus-none none
  gather c l h None = none-plus (plus none none) ∙ plus-none none

  -- of a line of n cells, filled as f says, the cells and the faces
  module _ (n : ℕ) (f : ℕ → Option Content) (c : ℕ → ℕ → A) (s : ℕ → ℕ → ℕ → Bool → A) where
    cell : ℕ → A
    cell i = of_solid none (c i) (f i)

    abbrev face : ℕ → A
    face i = at_surface none (s i) (kind_between (below f i) (above n f i))

    abbrev low : ℕ → A
    low i = of_solid none (λ (m : ℕ). at_air none (λ e rs. s i e rs true) (below f i)) (above n f i)

    abbrev high : ℕ → A
    high i = of_solid none (λ (m : ℕ). at_air none (λ e rs. s i e rs false) (above n f i)) (below f i)

    abbrev low_side : ℕ → A
    low_side i = of_solid none (λ (m : ℕ). at_air none (λ e rs. s i e rs true) (below f i)) (f i)

    abbrev high_side : ℕ → A
    high_side i = of_solid none (λ (m : ℕ). at_air none (λ e rs. s (suc i) e rs false) (above n f (suc i))) (f i)

    abbrev whole : ℕ → A
    whole i = of_solid none (λ (m : ℕ). plus (c i m) (plus (at_air none (λ e rs. s i e rs true) (below f i)) (at_air none (λ e rs. s (suc i) e rs false) (above n f (suc i))))) (f i)

    lows : sum (suc n) low ≡ sum n low_side
    lows = ap (λ (o : Option Content). plus (sum n low) (of_solid none (λ (m : ℕ). at_air none (λ e rs. s n e rs true) (below f n)) o)) (above_end n f)
        ∙ plus-none (sum n low)
        ∙ sum-cong k n low low_side (λ i l. ap (λ (o : Option Content). of_solid none (λ (m : ℕ). at_air none (λ e rs. s i e rs true) (below f i)) o) (above_within n i f l))

    highs : sum (suc n) high ≡ sum n high_side
    highs = sum-front k n high ∙ none-plus (sum n high_side)

    faces : sum (suc n) face ≡ plus (sum n low_side) (sum n high_side)
    faces = sum-cong k (suc n) face (λ i. plus (low i) (high i)) (λ i l. split (s i) (below f i) (above n f i))
        ∙ sum-plus k (suc n) low high
        ∙ ap (λ (x : A). plus x (sum (suc n) high)) lows ∙ ap (λ (x : A). plus (sum n low_side) x) highs

    pub line_is : plus (sum n (λ i. of_solid none (c i) (f i))) (sum (suc n) face) ≡ sum n whole
    line_is = ap (λ (x : A). plus (sum n (λ i. of_solid none (c i) (f i))) x) (faces ∙ sym (sum-plus k n low_side high_side))
        ∙ sym (sum-plus k n (λ i. of_solid none (c i) (f i)) (λ i. plus (low_side i) (high_side i)))
        ∙ sum-cong k n (λ i. plus (of_solid none (c i) (f i)) (plus (low_side i) (high_side i))) whole
        (λ i l. gather (c i) (λ (m : ℕ). at_air none (λ e rs. s i e rs true) (below f i)) (λ (m : ℕ). at_air none (λ e rs. s (suc i) e rs false) (above n f (suc i))) (f i))

  -- ---- a mesh
  module _ (read : ℚ → A) (m : Mesh) (t : Terms) where
    -- what a cell has along an axis, its index along that axis first
    abbrev share : AxisName → ℕ → ℕ → ℕ → A
    share a i j h = of_solid none (λ n. solid_sum none plus read m t a n i j h) (along a m.occupant i j h)

    line_of : (a : AxisName) (j h : ℕ) → line_sum none plus read m t a j h ≡ sum (m.cells a) (λ i. share a i j h)
    line_of a j h = line_is (m.cells a) (λ i. along a m.occupant i j h) (λ i n. read (t.cell a i j h (m.conductivity n a))) (λ i e rs low. read (t.surface a i j h e rs low))

    axis_of : (a : AxisName) → axis_sum none plus read m t a ≡ sum (m.cells (third a)) (λ h. sum (m.cells (second a)) (λ j. sum (m.cells a) (λ i. share a i j h)))
    axis_of a = sum-cong k (m.cells (third a)) _ _ (λ h l. sum-cong k (m.cells (second a)) _ _ (λ j r. line_of a j h))

    -- over layers, rows and cells
    abbrev over : (ℕ → ℕ → ℕ → A) → A
    over f = sum (m.cells Z) (λ h. sum (m.cells Y) (λ j. sum (m.cells X) (λ i. f i j h)))

    along_y : axis_sum none plus read m t Y ≡ over (λ i j h. share Y j i h)
    along_y = axis_of Y ∙ sum-cong k (m.cells Z) _ _ (λ h l. sum-swap k (m.cells X) (m.cells Y) (λ i j. share Y j i h))

    along_z : axis_sum none plus read m t Z ≡ over (λ i j h. share Z h i j)
    along_z = axis_of Z ∙ sym (sum-turn k (m.cells Z) (m.cells Y) (m.cells X) (λ h j i. share Z h i j))

    over-plus : (f g : ℕ → ℕ → ℕ → A) → plus (over f) (over g) ≡ over (λ i j h. plus (f i j h) (g i j h))
    over-plus f g = sym (sum-plus k (m.cells Z) _ _) ∙ sum-cong k (m.cells Z) _ _ (λ h l. sym (sum-plus k (m.cells Y) _ _)
        ∙ sum-cong k (m.cells Y) _ _ (λ j r. sym (sum-plus k (m.cells X) (λ i. f i j h) (λ i. g i j h))))

    over-cong : (f g : ℕ → ℕ → ℕ → A) → ((i j h : ℕ) → f i j h ≡ g i j h) → over f ≡ over g
    over-cong f g e = sum-cong k (m.cells Z) _ _ (λ h l. sum-cong k (m.cells Y) _ _ (λ j r. sum-cong k (m.cells X) (λ i. f i j h) (λ i. g i j h) (λ i q. e i j h)))

    three : (x y z : ℕ → A) (o : Option Content) → plus (plus (of_solid none x o) (of_solid none y o)) (of_solid none z o) ≡ of_solid none (λ (n : ℕ). plus (plus (x n) (y n)) (z n)) o
    three x y z (Some (Solid n)) = refl
    three x y z (Some (Air e rs)) = plus-none (plus none none) ∙ plus-none none
    three x y z None = plus-none (plus none none) ∙ plus-none none

    pub mesh_by_cells : mesh_sum none plus read m t ≡ cells_sum none plus read m t
    mesh_by_cells =
        ap (λ (x : A). plus (plus x (axis_sum none plus read m t Y)) (axis_sum none plus read m t Z)) (axis_of X)
        ∙ ap (λ (x : A). plus (plus (over (share X)) x) (axis_sum none plus read m t Z)) along_y
        ∙ ap (λ (x : A). plus (plus (over (share X)) (over (λ i j h. share Y j i h))) x) along_z
        ∙ ap (λ (x : A). plus x (over (λ i j h. share Z h i j))) (over-plus (share X) (λ i j h. share Y j i h))
        ∙ over-plus (λ i j h. plus (share X i j h) (share Y j i h)) (λ i j h. share Z h i j)
        ∙ over-cong _ (cell_sum none plus read m t)
        (λ i j h. three (λ n. solid_sum none plus read m t X n i j h) (λ n. solid_sum none plus read m t Y n j i h) (λ n. solid_sum none plus read m t Z n h i j) (m.occupant i j h))
