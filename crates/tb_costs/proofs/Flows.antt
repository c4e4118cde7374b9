-- Flows of a list within limits: each is a whole number of at most 10¹² nW, and so are their forms bounded.
use Rattle.std.proofs.Common.{◌≡◌, refl, ap, ◌∙◌, ℕ, zero, suc, ◌*◌, ◌^◌, List, [], ◌∷◌, get_or, All, arith}
use Rattle.std.proofs.lemmas.Int.{ints}
use lib.IntN.{ℤ, pos, ◌+ℤ◌, ◌*ℤ◌}
use lib.Signed.{◌≤ℤ◌}
use Rattle.tb_math.specs.Integers.{square-nonneg}
use Rattle.tb_math.specs.Rational.{ℚ, int, ◌*ℚ◌}
use Rattle.tb_math.proofs.ReadIntegers.{by_reading, reading}
use Rattle.tb_math.proofs.ReadRationals.{by_reading as by_reading_ℚ, reading as reading_ℚ}
use Rattle.tb_places.specs.declared.AxisName.{AxisName}
use Rattle.tb_places.specs.declared.AxisName.TheVariants.{X, Y, Z}
use Rattle.tb_places.specs.Places.{Counts, along, face_number, place_at}
use Rattle.tb_model.specs.Energy.{passage}
use Rattle.tb_model.specs.Values.{flux_of}
use Rattle.tb_terms.proofs.Spread.{square-at_most, sum-size}
use Rattle.tb_weighted.specs.Limits.{InFlow}

-- ---- a flow
pub record IsFlow (F : ℚ) : Type 0 where
  pub value : ℤ
  pub is : F ≡ int value
  pub small : InFlow value

in_list : (flows : List ℤ) → All InFlow flows → (n : ℕ) → InFlow (get_or flows n (pos 0))
in_list [] h n = omega arith
in_list (f ∷ fs) h zero = h 0 (pos 0) (omega arith)
in_list (f ∷ fs) h (suc n) = in_list fs (λ k d l. h (suc k) d (omega (arith, l))) n

pub flow_along : (n : Counts) (flows : List ℤ) → All InFlow flows → (a : AxisName) (i j k : ℕ) → IsFlow (along a (flux_of n flows a) i j k)
flow_along n flows h X i j k = record { value = get_or flows (face_number n X (place_at i j k)) (pos 0); is = refl; small = in_list flows h (face_number n X (place_at i j k)) }
flow_along n flows h Y i j k = record { value = get_or flows (face_number n Y (place_at j i k)) (pos 0); is = refl; small = in_list flows h (face_number n Y (place_at j i k)) }
flow_along n flows h Z i j k = record { value = get_or flows (face_number n Z (place_at j k i)) (pos 0); is = refl; small = in_list flows h (face_number n Z (place_at j k i)) }

-- ---- its forms
abbrev pub most_form : ℕ
most_form = 3 * 10 ^ 24

-- a form of flows is this whole number
pub record IsForm (P : ℚ) (form : ℤ) : Type 0 where
  pub is : P ≡ int form
  pub not_below_zero : pos 0 ≤ℤ form
  pub at_most : form ≤ℤ pos most_form

abbrev pub whole_passage : ℤ → ℤ → ℤ
whole_passage a b = a *ℤ a +ℤ a *ℤ b +ℤ b *ℤ b

-- twice it is the sum of three squares
twice_passage : (a b : ℤ) → pos 2 *ℤ whole_passage a b ≡ a *ℤ a +ℤ b *ℤ b +ℤ (a +ℤ b) *ℤ (a +ℤ b)
twice_passage a b = by_reading {atoms = a ∷ b ∷ []} (search reading depth 40 fits 20000) (search reading depth 40 fits 20000) refl

half_from : (p x y z : ℤ) → pos 2 *ℤ p ≡ x +ℤ y +ℤ z → pos 0 ≤ℤ x → pos 0 ≤ℤ y → pos 0 ≤ℤ z → pos 0 ≤ℤ p
half_from p x y z e hx hy hz = omega (arith, ints)

half_to : (p x y z : ℤ) → pos 2 *ℤ p ≡ x +ℤ y +ℤ z → x ≤ℤ pos (10 ^ 24) → y ≤ℤ pos (10 ^ 24) → z ≤ℤ pos (4 * 10 ^ 24) → p ≤ℤ pos most_form
half_to p x y z e hx hy hz = omega (arith, ints)

whole : (a b : ℤ) → passage (int a) (int b) ≡ int (whole_passage a b)
unfolding passage
whole a b = by_reading_ℚ {atoms = int a ∷ int b ∷ []} (search reading_ℚ depth 40 fits 20000) (search reading_ℚ depth 40 fits 20000) refl

same_passage : (F G : ℚ) (a b : ℤ) → F ≡ int a → G ≡ int b → passage F G ≡ int (whole_passage a b)
same_passage F G a b e f = ap (λ (t : ℚ). passage t G) e ∙ ap (λ (t : ℚ). passage (int a) t) f ∙ whole a b

pub passage_form : (F G : ℚ) (f : IsFlow F) (g : IsFlow G) → IsForm (passage F G) (whole_passage f.value g.value)
passage_form F G f g = record {
  is = same_passage F G f.value g.value f.is g.is;
  not_below_zero = half_from (whole_passage f.value g.value) (f.value *ℤ f.value) (g.value *ℤ g.value) ((f.value +ℤ g.value) *ℤ (f.value +ℤ g.value)) (twice_passage f.value g.value)
      (square-nonneg f.value) (square-nonneg g.value) (square-nonneg (f.value +ℤ g.value));
  at_most = half_to (whole_passage f.value g.value) (f.value *ℤ f.value) (g.value *ℤ g.value) ((f.value +ℤ g.value) *ℤ (f.value +ℤ g.value)) (twice_passage f.value g.value)
      (square-at_most f.value (10 ^ 12) f.small) (square-at_most g.value (10 ^ 12) g.small)
      (square-at_most (f.value +ℤ g.value) (2 * 10 ^ 12) (sum-size f.value g.value (10 ^ 12) (10 ^ 12) f.small g.small));
}

pub square_form : (F : ℚ) (f : IsFlow F) → IsForm (F *ℚ F) (f.value *ℤ f.value)
square_form F f = record {
  is = ap (λ (t : ℚ). t *ℚ t) f.is ∙ whole f.value;
  not_below_zero = square-nonneg f.value;
  at_most = few (f.value *ℤ f.value) (square-at_most f.value (10 ^ 12) f.small);
}
  where
    whole : (a : ℤ) → int a *ℚ int a ≡ int (a *ℤ a)
    whole a = by_reading_ℚ {atoms = int a ∷ []} (search reading_ℚ) (search reading_ℚ) refl

    few : (x : ℤ) → x ≤ℤ pos (10 ^ 24) → x ≤ℤ pos most_form
    few x h = omega (arith, ints)
