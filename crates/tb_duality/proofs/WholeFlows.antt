-- The source of a flux of whole numbers is a whole number.
use mathlib.Core.Path.{◌≡◌, refl, sym, ap, ◌∙◌}
use Prim.Native.Nat.{ℕ, ◌*◌, ◌^◌}
use lib.IntN.{ℤ, pos, ◌+ℤ◌, ◌*ℤ◌, neg_ℤ}
use Rattle.std.specs.Prelude.{Bool, true, false, if◌then◌else◌}
use Rattle.tb_math.specs.Rational.{ℚ, int, ◌+ℚ◌, ◌*ℚ◌, neg_ℚ}
use Rattle.tb_math.proofs.RationalLaws.{int-neg, int-add, int-mul}
use Rattle.tb_places.specs.declared.AxisName.{AxisName}
use Rattle.tb_places.specs.declared.AxisName.TheVariants.{X, Y, Z}
use Rattle.tb_places.specs.Places.{along}
use Rattle.tb_model.specs.Energy.{Case, Flux, entering_terms, exact, source}
use Rattle.tb_model.specs.Mesh.{Mesh}
use Rattle.tb_model.specs.Whole.{IsWhole}
use Rattle.tb_duality.proofs.MeshSums.{exact_related}

data One : Type 0 where
  one : One

abbrev Whole : ℚ → Type 0
Whole x = (z : ℤ) × (x ≡ int z)

abbrev IsWholeSum : (One → ℚ) → Type 0
IsWholeSum f = Whole (f one)

none_whole : IsWholeSum (λ _. int (pos 0))
none_whole = (pos 0, refl)

whole_adds : (f g : One → ℚ) → IsWholeSum f → IsWholeSum g → IsWholeSum (λ p. f p +ℚ g p)
whole_adds f g (a, e) (b, h) = (a +ℤ b, (λ t. e t +ℚ h t) ∙ sym (int-add a b))

negated : (x : ℚ) → Whole x → Whole (neg_ℚ x)
negated x (z, e) = (neg_ℤ z, ap neg_ℚ e ∙ sym (int-neg z))

along_whole : (q : Flux) → IsWhole q → (a : AxisName) (i j k : ℕ) → Whole (along a (q a) i j k)
along_whole q whole X i j k = whole X i j k
along_whole q whole Y i j k = whole Y j i k
along_whole q whole Z i j k = whole Z j k i

enters_whole : (inside low : Bool) (x : ℚ) → Whole x → Whole (if inside then (if low then x else neg_ℚ x) else int (pos 0))
enters_whole true true x h = h
enters_whole true false x h = negated x h
enters_whole false low x h = (pos 0, refl)

pub source_whole : (m : Mesh) (inside : Case) (q : Flux) → IsWhole q → Whole (source m inside q)
unfolding source
source_whole m inside q whole = doubled (exact m (entering_terms inside q)) (exact_related IsWholeSum none_whole whole_adds m (λ _. entering_terms inside q) (record {
  cells = λ a i j k n hi hj hk is. (pos 0, refl);
  surfaces = λ a i j k e rs low hi hj hk is. enters_whole (inside e) low (along a (q a) i j k) (along_whole q whole a i j k);
}))
  where
    doubled : (x : ℚ) → Whole x → Whole (int (pos (2 * 10 ^ 6)) *ℚ x)
    doubled x (z, e) = (pos (2 * 10 ^ 6) *ℤ z, ap (λ (t : ℚ). int (pos (2 * 10 ^ 6)) *ℚ t) e ∙ sym (int-mul (pos (2 * 10 ^ 6)) z))
