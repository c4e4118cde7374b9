-- The environment and the resistance of a surface are those of the air in a cell beside it: what holds of the air of
-- each cell holds of each surface.
use mathlib.Core.Path.{◌≡◌, refl, subst}
use Prim.Native.Nat.{ℕ, zero, suc}
use native.Mathlib.Omega.{arith}
use Rattle.std.specs.Prelude.{Option, Some, None, Bool, true, false, nat_lt, if◌then◌else◌}
use Rattle.tb_places.specs.declared.AxisName.{AxisName}
use Rattle.tb_places.specs.declared.AxisName.TheVariants.{X, Y, Z}
use Rattle.tb_places.specs.Places.{along}
use Rattle.tb_detail.specs.declared.Content.{Content}
use Rattle.tb_detail.specs.declared.Content.TheVariants.{Solid, Air}
use Rattle.tb_model.specs.declared.FaceKind.TheVariants.{Surface}
use Rattle.tb_model.specs.Mesh.{Mesh, kind, kind_between, below, above}

module _ (P : (environment rs : ℕ) → Type 0) where
  -- what may lie on a side of a face
  abbrev OfAir : Option Content → Type 0
  OfAir c = (e rs : ℕ) → c ≡ Some (Air e rs) → P e rs

  nothing : OfAir None
  nothing e rs is = absurd (grind arith)

  the_same : {f g e rs : ℕ} → f ≡ e → g ≡ rs → P f g → P e rs
  the_same {f} {g} {e} {rs} same_e same_rs h = subst (λ (t : ℕ). P e t) same_rs (subst (λ (t : ℕ). P t g) same_e h)

  between : (u v : Option Content) → OfAir u → OfAir v → (e rs : ℕ) (low : Bool) → kind_between u v ≡ Surface e rs low → P e rs
  between (Some (Solid m)) (Some (Solid n)) h k e rs low is = absurd (grind arith)
  between (Some (Solid m)) (Some (Air f rt)) h k e rs low is = the_same (grind arith) (grind arith) (k f rt refl)
  between (Some (Solid m)) None h k e rs low is = absurd (grind arith)
  between (Some (Air f rt)) (Some (Solid n)) h k e rs low is = the_same (grind arith) (grind arith) (h f rt refl)
  between (Some (Air f rt)) (Some (Air g ru)) h k e rs low is = absurd (grind arith)
  between (Some (Air f rt)) None h k e rs low is = absurd (grind arith)
  between None (Some (Solid n)) h k e rs low is = absurd (grind arith)
  between None (Some (Air f rt)) h k e rs low is = absurd (grind arith)
  between None None h k e rs low is = absurd (grind arith)

  of_below : (occupant : ℕ → Option Content) → ((i : ℕ) → OfAir (occupant i)) → (i : ℕ) → OfAir (below occupant i)
  of_below occupant h zero = nothing
  of_below occupant h (suc i) = h i

  of_above : (n : ℕ) (occupant : ℕ → Option Content) → ((i : ℕ) → OfAir (occupant i)) → (i : ℕ) → OfAir (above n occupant i)
  of_above n occupant h i = by_test (nat_lt i n)
    where
      by_test : (b : Bool) → OfAir (if b then occupant i else None)
      by_test true = h i
      by_test false = nothing

  pub surfaces_are_of_airs : (m : Mesh) → ((i j k e rs : ℕ) → m.occupant i j k ≡ Some (Air e rs) → P e rs) → (a : AxisName) (i j k e rs : ℕ) (low : Bool) → kind m a i j k ≡ Surface e rs low → P e rs
  surfaces_are_of_airs m h a i j k = between (below (λ n. along a m.occupant n j k) i) (above (m.cells a) (λ n. along a m.occupant n j k) i)
      (of_below (λ n. along a m.occupant n j k) (line a j k) i) (of_above (m.cells a) (λ n. along a m.occupant n j k) (line a j k) i)
    where
      line : (a : AxisName) (j k n : ℕ) → OfAir (along a m.occupant n j k)
      line X j k n = h n j k
      line Y j k n = h j n k
      line Z j k n = h j k n
