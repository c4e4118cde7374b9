-- The terms of a field as quotients, and how large they are.
use mathlib.Core.Path.{◌≡◌, refl, sym, ap, ◌∙◌}
use mathlib.Core.List.{[], ◌∷◌}
use Prim.Native.Nat.{ℕ, ◌*◌, ◌^◌, ◌<◌}
use native.Mathlib.Omega.{arith}
use Rattle.std.proofs.Math.Nat.{mul-le-mul}
use Rattle.std.proofs.lemmas.Int.{ints}
use lib.IntN.{ℤ, pos, ◌*ℤ◌}
use lib.Signed.{◌≤ℤ◌}
use Rattle.tb_math.specs.Integers.{mul-nonneg, pos-nonneg}
use Rattle.tb_math.specs.Rational.{ℚ, int, one_over, ◌*ℚ◌, neg_ℚ, ◌≤ℚ◌}
use Rattle.tb_math.proofs.RationalLaws.{one_over_cancel}
use Rattle.tb_math.proofs.DivisionLaws.{inverse-int}
use Rattle.tb_math.proofs.ReadRationals.{by_reading, by_given, reading, none, given}
use Rattle.tb_model.specs.Energy.{cell_energy, surface_energy}
use Rattle.tb_terms.specs.declared.field.FieldCell.{FieldCell}
use Rattle.tb_terms.specs.declared.field.FieldFace.{FieldFace}
use Rattle.tb_terms.specs.Terms.{area_of, FitsFieldCell, FitsFieldFace, field_cell_term, field_face_term}
use Rattle.tb_terms.proofs.Quotients.{IsQuotient, quotient-not_below_zero, quotient-at_most, scaled-at_most}
use Rattle.tb_terms.proofs.Spread.{whole_spread, whole_spread-is, whole_spread-not_below_zero, whole_spread-at_most}

-- x · m is n parts of x/n · m/36, in 36 · n parts
over_both : (x m : ℚ) (k n : ℕ) → 0 < k → 0 < n → x *ℚ m ≡ int (pos (k * n)) *ℚ (x *ℚ one_over n *ℚ m *ℚ one_over k)
over_both x m k n h l = by_given {atoms = x ∷ m ∷ int (pos k) ∷ int (pos n) ∷ one_over k ∷ one_over n ∷ []} (search reading depth 20) (search reading depth 20)
    (given (neg_ℚ (x *ℚ m)) (int (pos n) *ℚ one_over n) (int (pos 1)) (search reading depth 20) (search reading) (search reading) (one_over_cancel n l)
    (given (neg_ℚ (x *ℚ m *ℚ int (pos n) *ℚ one_over n)) (int (pos k) *ℚ one_over k) (int (pos 1)) (search reading depth 20) (search reading) (search reading) (one_over_cancel k h) none)) refl

-- the numerator and the whole number of the spread
cell_product : (l b c : ℕ) (z : ℤ) → int (pos (l * (b * c)) *ℤ z) ≡ int (pos l) *ℚ area_of b c *ℚ int z
cell_product l b c z = by_reading {atoms = int (pos l) ∷ int (pos b) ∷ int (pos c) ∷ int z ∷ []} (search reading depth 20) (search reading depth 20) refl

face_product : (b c : ℕ) (z : ℤ) → int (pos (b * c) *ℤ z) ≡ area_of b c *ℚ int z
face_product b c z = by_reading {atoms = int (pos b) ∷ int (pos c) ∷ int z ∷ []} (search reading depth 20) (search reading depth 20) refl

pub field_cell-quotient : (l a b c : ℕ) (z : ℤ) (m : ℚ) → 0 < a → int z ≡ m → IsQuotient (cell_energy (int (pos l)) (int (pos a)) (area_of b c) m) (pos (l * (b * c)) *ℤ z) (36 * 10 ^ 9 * a)
field_cell-quotient l a b c z m h e = record {
  positive = omega arith;
  value = cell_product l b c z ∙ ap (λ (q : ℚ). int (pos l) *ℚ area_of b c *ℚ q) e
      ∙ over_both (int (pos l) *ℚ area_of b c) m (36 * 10 ^ 9) a (omega arith) h
      ∙ ap (λ (q : ℚ). int (pos (36 * 10 ^ 9 * a)) *ℚ (int (pos l) *ℚ area_of b c *ℚ q *ℚ m *ℚ one_over (36 * 10 ^ 9))) (sym (inverse-int a));
}

pub field_face-quotient : (rs b c : ℕ) (z : ℤ) (m : ℚ) → 0 < rs → int z ≡ m → IsQuotient (surface_energy rs (area_of b c) m) (pos (b * c) *ℤ z) (36 * 10 ^ 5 * rs)
field_face-quotient rs b c z m h e = record {
  positive = omega arith;
  value = face_product b c z ∙ ap (λ (q : ℚ). area_of b c *ℚ q) e ∙ over_both (area_of b c) m (36 * 10 ^ 5) rs (omega arith) h;
}

-- How large a term is --

pub field_cell-is : (x : FieldCell) → FitsFieldCell x → IsQuotient (field_cell_term x) (pos (x.lambda * (x.b * x.c)) *ℤ whole_spread x.d) (36 * 10 ^ 9 * x.a)
field_cell-is x h = field_cell-quotient x.lambda x.a x.b x.c (whole_spread x.d) _ h.a.above_zero (whole_spread-is x.d)

pub field_face-is : (x : FieldFace) → FitsFieldFace x → IsQuotient (field_face_term x) (pos (x.b * x.c) *ℤ whole_spread x.t) (36 * 10 ^ 5 * x.rs)
field_face-is x h = field_face-quotient x.rs x.b x.c (whole_spread x.t) _ h.resistance.above_zero (whole_spread-is x.t)

pub field_cell-divides : (x : FieldCell) → FitsFieldCell x → 0 < 36 * 10 ^ 9 * x.a
field_cell-divides x h = (field_cell-is x h).positive

pub field_cell-not_below_zero : (x : FieldCell) → FitsFieldCell x → int (pos 0) ≤ℚ field_cell_term x
field_cell-not_below_zero x h = quotient-not_below_zero _ _ _ (field_cell-is x h) (mul-nonneg (pos (x.lambda * (x.b * x.c))) (whole_spread x.d) (pos-nonneg (x.lambda * (x.b * x.c))) (whole_spread-not_below_zero x.d))

pub field_cell-bounded : (x : FieldCell) → FitsFieldCell x → field_cell_term x ≤ℚ int (pos (125 * 10 ^ 23))
field_cell-bounded x h = quotient-at_most _ _ _ (125 * 10 ^ 23) (field_cell-is x h) (largest x.a _ (scaled-at_most (x.lambda * (x.b * x.c)) (whole_spread x.d) (36 * 10 ^ 16) (125 * 10 ^ 16)
    (mul-le-mul h.conductivity.at_most (mul-le-mul h.b.at_most h.c.at_most)) (whole_spread-at_most x.d h.differences)) h.a.above_zero)
  where
    largest : (a : ℕ) (z : ℤ) → z ≤ℤ pos (45 * 10 ^ 34) → 0 < a → z ≤ℤ pos (36 * 10 ^ 9 * a * (125 * 10 ^ 23))
    largest a z l h = omega (arith, ints)

pub field_face-divides : (x : FieldFace) → FitsFieldFace x → 0 < 36 * 10 ^ 5 * x.rs
field_face-divides x h = (field_face-is x h).positive

pub field_face-not_below_zero : (x : FieldFace) → FitsFieldFace x → int (pos 0) ≤ℚ field_face_term x
field_face-not_below_zero x h = quotient-not_below_zero _ _ _ (field_face-is x h) (mul-nonneg (pos (x.b * x.c)) (whole_spread x.t) (pos-nonneg (x.b * x.c)) (whole_spread-not_below_zero x.t))

pub field_face-bounded : (x : FieldFace) → FitsFieldFace x → field_face_term x ≤ℚ int (pos (25 * 10 ^ 21))
field_face-bounded x h = quotient-at_most _ _ _ (25 * 10 ^ 21) (field_face-is x h) (largest x.rs _ (scaled-at_most (x.b * x.c) (whole_spread x.t) (36 * 10 ^ 16) (25 * 10 ^ 10)
    (mul-le-mul h.b.at_most h.c.at_most) (whole_spread-at_most x.t h.differences)) h.resistance.above_zero)
  where
    largest : (rs : ℕ) (z : ℤ) → z ≤ℤ pos (9 * 10 ^ 28) → 0 < rs → z ≤ℤ pos (36 * 10 ^ 5 * rs * (25 * 10 ^ 21))
    largest rs z l h = omega (arith, ints)
