-- Sums over a mesh: a relation between the terms of several families that adds up holds of their sums.
--
-- Equations, inequalities and linear combinations of sums are such relations, and that a sum of ceilings is near.
use mathlib.Core.Path.{◌≡◌, refl}
use Prim.Native.Nat.{ℕ, zero, suc, ◌<◌, ◌≤◌}
use native.Mathlib.Omega.{arith}
use lib.IntN.{pos}
use Rattle.std.specs.Prelude.{Option, Some, None, Bool}
use Rattle.tb_math.specs.Rational.{ℚ, int, ◌+ℚ◌}
use Rattle.tb_math.specs.Sums.{sum_to}
use Rattle.tb_places.specs.declared.AxisName.{AxisName}
use Rattle.tb_places.specs.declared.AxisName.TheVariants.{X, Y, Z}
use Rattle.tb_places.specs.Places.{second, third, along}
use Rattle.tb_detail.specs.declared.Content.{Content}
use Rattle.tb_detail.specs.declared.Content.TheVariants.{Solid, Air}
use Rattle.tb_model.specs.declared.FaceKind.{FaceKind}
use Rattle.tb_model.specs.declared.FaceKind.TheVariants.{Inner, Surface, Shut, Idle}
use Rattle.tb_model.specs.Mesh.{Mesh, kind}
use Rattle.tb_model.specs.Energy.{Terms, of_solid, at_surface, line_sum, axis_sum, mesh_sum, exact}

-- how each of the families is read and added up
pub record Readings (I : Type 0) : Type 1 where
  pub Sum : I → Type 0
  pub none : (p : I) → Sum p
  pub plus : (p : I) → Sum p → Sum p → Sum p
  pub read : (p : I) → ℚ → Sum p

-- all of them as they are
abbrev pub exactly : (I : Type 0) → Readings I
exactly I = record { Sum = λ _. ℚ; none = λ _. int (pos 0); plus = λ _. ◌+ℚ◌; read = λ _ x. x }

module _ {I : Type 0} (s : Readings I) (R : ((p : I) → s.Sum p) → Type 0) (nothing : R s.none) (adds : (f g : (p : I) → s.Sum p) → R f → R g → R (λ p. s.plus p (f p) (g p))) where
  pub range_related : (n : ℕ) (f : (p : I) → ℕ → s.Sum p) → ((i : ℕ) → i < n → R (λ p. f p i)) → R (λ p. sum_to (s.none p) (s.plus p) n (f p))
  range_related zero f h = nothing
  range_related (suc n) f h = adds (λ p. sum_to (s.none p) (s.plus p) n (f p)) (λ p. f p n) (range_related n f (λ i l. h i (omega arith))) (h n (omega arith))

  pub solid_related : (c : Option Content) (f : (p : I) → ℕ → s.Sum p) → ((n : ℕ) → c ≡ Some (Solid n) → R (λ p. f p n)) → R (λ p. of_solid (s.none p) (f p) c)
  solid_related (Some (Solid n)) f h = h n refl
  solid_related (Some (Air e rs)) f h = nothing
  solid_related None f h = nothing

  pub surface_related : (c : FaceKind) (f : (p : I) → ℕ → ℕ → Bool → s.Sum p) → ((e rs : ℕ) (low : Bool) → c ≡ Surface e rs low → R (λ p. f p e rs low)) → R (λ p. at_surface (s.none p) (f p) c)
  surface_related (Surface e rs low) f h = h e rs low refl
  surface_related Inner f h = nothing
  surface_related Shut f h = nothing
  surface_related Idle f h = nothing

  -- all terms of a mesh are related
  pub record AllRelated (m : Mesh) (t : I → Terms) : Type 0 where
    pub cells : (a : AxisName) (i j k n : ℕ) → i < m.cells a → j < m.cells (second a) → k < m.cells (third a) → along a m.occupant i j k ≡ Some (Solid n) → R (λ p. s.read p ((t p).cell a i j k (m.conductivity n a)))
    pub surfaces : (a : AxisName) (i j k e rs : ℕ) (low : Bool) → i ≤ m.cells a → j < m.cells (second a) → k < m.cells (third a) → kind m a i j k ≡ Surface e rs low → R (λ p. s.read p ((t p).surface a i j k e rs low))

  abbrev line_of : Mesh → (I → Terms) → AxisName → ℕ → ℕ → (p : I) → s.Sum p
  line_of m t a j k p = line_sum (s.none p) (s.plus p) (s.read p) m (t p) a j k

  pub line_related : (m : Mesh) (t : I → Terms) → AllRelated m t → (a : AxisName) (j k : ℕ) → j < m.cells (second a) → k < m.cells (third a) → R (line_of m t a j k)
  line_related m t h a j k hj hk =
      adds (λ p. sum_to (s.none p) (s.plus p) (m.cells a) (cells p)) (λ p. sum_to (s.none p) (s.plus p) (suc (m.cells a)) (faces p))
      (range_related (m.cells a) cells (λ i hi. solid_related (along a m.occupant i j k) (λ p n. s.read p ((t p).cell a i j k (m.conductivity n a))) (λ n e. h.cells a i j k n hi hj hk e)))
      (range_related (suc (m.cells a)) faces (λ i hi. surface_related (kind m a i j k) (λ p e rs low. s.read p ((t p).surface a i j k e rs low)) (λ e rs low is. h.surfaces a i j k e rs low (omega arith) hj hk is)))
    where
      cells : (p : I) → ℕ → s.Sum p
      cells p i = of_solid (s.none p) (λ n. s.read p ((t p).cell a i j k (m.conductivity n a))) (along a m.occupant i j k)

      faces : (p : I) → ℕ → s.Sum p
      faces p i = at_surface (s.none p) (λ e rs low. s.read p ((t p).surface a i j k e rs low)) (kind m a i j k)

  abbrev axis_of : Mesh → (I → Terms) → AxisName → (p : I) → s.Sum p
  axis_of m t a p = axis_sum (s.none p) (s.plus p) (s.read p) m (t p) a

  pub axis_related : (m : Mesh) (t : I → Terms) → AllRelated m t → (a : AxisName) → R (axis_of m t a)
  axis_related m t h a =
      range_related (m.cells (third a)) (λ p k. sum_to (s.none p) (s.plus p) (m.cells (second a)) (λ j. line_of m t a j k p))
      (λ k hk. range_related (m.cells (second a)) (λ p j. line_of m t a j k p) (λ j hj. line_related m t h a j k hj hk))

  pub mesh_related : (m : Mesh) (t : I → Terms) → AllRelated m t → R (λ p. mesh_sum (s.none p) (s.plus p) (s.read p) m (t p))
  mesh_related m t h =
      adds (λ p. s.plus p (axis_of m t X p) (axis_of m t Y p)) (axis_of m t Z)
      (adds (axis_of m t X) (axis_of m t Y) (axis_related m t h X) (axis_related m t h Y))
      (axis_related m t h Z)

-- the same of exact sums
pub exact_related : {I : Type 0} (R : (I → ℚ) → Type 0) (nothing : R (λ _. int (pos 0))) (adds : (f g : I → ℚ) → R f → R g → R (λ p. f p +ℚ g p)) (m : Mesh) (t : I → Terms) → AllRelated (exactly I) R nothing adds m t → R (λ p. exact m (t p))
unfolding exact
exact_related {I} R nothing adds m t h = mesh_related (exactly I) R nothing adds m t h
