-- Every refinement of a body whose boxes are positive has a mesh that is physical.
use mathlib.Core.Path.{◌≡◌, refl, subst}
use mathlib.Core.List.{List, [], ◌∷◌}
use Prim.Native.Nat.{ℕ, suc, ◌+◌, ◌-◌, ◌<◌}
use native.Mathlib.Omega.{arith}
use native.Mathlib.Numerals.{add-one}
use Rattle.std.proofs.lemmas.Int.{ints}
use lib.IntN.{pos}
use lib.ListN.{length}
use lib.Signed.{◌≤ℤ◌}
use Rattle.std.specs.Prelude.{Option, Some, None, Bool, true, false, cond}
use Rattle.std.specs.Option.{option_map}
use Rattle.std.specs.List.{find, All}
use Rattle.tb_math.specs.Rational.{ℚ, int, one_over, ◌*ℚ◌, ◌≤ℚ◌, ◌<ℚ◌}
use Rattle.tb_math.specs.Integers.{pos-nonneg}
use Rattle.tb_math.proofs.RationalLaws.{one_over_cancel}
use Rattle.tb_math.proofs.RationalOrder.{≤ℚ-int}
use Rattle.tb_math.proofs.RationalProducts.{≤ℚ-mul}
use Rattle.tb_math.proofs.ReadRationals.{by_reading, reading}
use Rattle.tb_math.proofs.StrictOrder.{int-≤, <ℚ-int}
use Rattle.tb_math.proofs.DivisionLaws.{product-is_positive}
use Rattle.tb_places.specs.declared.AxisName.{AxisName}
use Rattle.tb_detail.specs.declared.Content.{Content}
use Rattle.tb_detail.specs.declared.Content.TheVariants.{Solid, Air}
use Rattle.tb_detail.specs.declared.SpaceBox.{SpaceBox}
use Rattle.tb_model.specs.Refinement.{Scene, Refinement, Refines, line, holds_middle, occupant, mesh}
use Rattle.tb_model.specs.Positive.{IsPhysical, IsPositive, HasPositiveBoxes}
use Rattle.tb_duality.proofs.Surfaces.{surfaces_are_of_airs}

-- what holds of each element holds of the one that is found
found : {A : Type 0} (P : A → Type 0) (test : A → Bool) (xs : List A) → All P xs → (x : A) → find test xs ≡ Some x → P x
found P test [] all x is = absurd (grind arith)
found P test (y ∷ ys) all x is = by_test (test y) is (found P test ys (λ k d h. all (suc k) d (omega arith)) x)
  where
    by_test : (b : Bool) → cond b (Some y) (find test ys) ≡ Some x → (find test ys ≡ Some x → P x) → P x
    by_test true e ih = let same : y ≡ x = grind arith in subst P same (all 0 y (omega arith))
    by_test false e ih = ih e

-- what holds of the content of each box holds of the content of each cell
pub content_of_box : (s : Scene) (r : Refinement) (P : Content → Type 0) → All (λ b. P b.content) s.boxes → (i j k : ℕ) (c : Content) → occupant s r i j k ≡ Some c → P c
content_of_box s r P boxes i j k c is = from_box (find (holds_middle r i j k) s.boxes) refl is
  where
    from_box : (b : Option SpaceBox) → find (holds_middle r i j k) s.boxes ≡ b → option_map (λ b. b.content) b ≡ Some c → P c
    from_box None at e = absurd (grind arith)
    from_box (Some b) at e = let same : b.content ≡ c = grind arith in subst P same (found (λ b. P b.content) (holds_middle r i j k) s.boxes boxes b at)

one_over-positive : (n : ℕ) → 0 < n → int (pos 0) <ℚ one_over n
one_over-positive n h = record { not_above = λ l. none (int-≤ (pos 1) (pos 0) (subst (λ (t : ℚ). t ≤ℚ int (pos 0)) (one_over_cancel n h) (subst (λ (t : ℚ). int (pos n) *ℚ one_over n ≤ℚ t) (vanishes (int (pos n))) (≤ℚ-mul (int (pos n)) (one_over n) (int (pos 0)) (≤ℚ-int (pos 0) (pos n) (pos-nonneg n)) l)))) }
  where
    vanishes : (p : ℚ) → p *ℚ int (pos 0) ≡ int (pos 0)
    vanishes p = by_reading {atoms = p ∷ []} (search reading) (search reading) refl

    none : pos 1 ≤ℤ pos 0 → ⊥
    none l = omega (arith, ints, l)

gap-positive : (p q : ℕ) → p < q → int (pos 0) <ℚ int (pos (q - p))
gap-positive p q h = let g : 0 < q - p = omega arith in <ℚ-int (pos 0) (pos (q - p)) (omega (arith, ints, g))

pub mesh_physical : (s : Scene) (r : Refinement) → Refines s r → HasPositiveBoxes s → IsPhysical (mesh s r)
mesh_physical s r refines boxes = record {
  widths = λ a i h. product-is_positive (int (pos (line r a (suc i) - line r a i))) (one_over r.scale) (rising a i h) (one_over-positive r.scale refines.scaled);
  conductivities = λ a i j k material cell is. content_of_box s r (IsPositive s) boxes i j k (Solid material) is a;
  resistances = λ a i j k e rs low hi hj hk is. surfaces_are_of_airs (λ e rs. 0 < rs) (mesh s r) (λ i j k e rs. content_of_box s r (IsPositive s) boxes i j k (Air e rs)) a i j k e rs low is;
}
  where
    rising : (a : AxisName) (i : ℕ) → i < length (r.lines a) - 1 → int (pos 0) <ℚ int (pos (line r a (suc i) - line r a i))
    rising a i h = let inside : i + 1 < length (r.lines a) = omega arith in
        gap-positive (line r a i) (line r a (suc i)) (subst (λ (n : ℕ). line r a i < line r a n) (add-one i) (refines.rising a i inside))
