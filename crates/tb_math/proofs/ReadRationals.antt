-- Tactics for the rational numbers, as those of `ReadIntegers`: `by_reading`, `by_given` and `by_squares` with `search reading`.
-- `int a` of a sum or product of whole numbers is read apart, `one_over n` is an atom, and `int (pos n) *ℚ one_over n ≡ int (pos 1)` a given equation.
use mathlib.Core.Path.{◌≡◌, refl, sym, ap, ◌∙◌, subst}
use mathlib.Core.Bool.{true}
use mathlib.Core.List.{List}
use Prim.Native.Nat.{ℕ, ◌+◌, ◌*◌}
use lib.Dec.{eqb}
use lib.IntN.{ℤ, pos, negsuc, ◌+ℤ◌, ◌*ℤ◌}
use Rattle.tb_math.specs.Rational.{ℚ, ◌+ℚ◌, ◌*ℚ◌, neg_ℚ, int, ◌≤ℚ◌}
use Rattle.tb_math.proofs.Polynomials.{Expression, var, con, ◌⊕◌, ◌⊖◌, ◌⊗◌, neg, norm, all_zero}
use Rattle.tb_math.proofs.Atoms.{Atom, an_atom}
use Rattle.tb_math.proofs.RationalLaws.{int-add, int-mul}
use Rattle.tb_math.proofs.RationalRing.{ring_ℚ, ordered_ℚ}
use Rattle.tb_math.proofs.Rings.{ring_over, value}
use Rattle.tb_math.proofs.Rings as R

-- an expression whose value is z
pub record Read (atoms : List ℚ) (z : ℚ) : Type 0 where
  pub text : Expression
  pub is : value ring_ℚ atoms text ≡ z

abbrev pub read_sum : {atoms : List ℚ} {a b : ℚ} → Read atoms a → Read atoms b → Read atoms (a +ℚ b)
read_sum {atoms} {a} {b} x y = record {
  text = x.text ⊕ y.text;
  is = ap (λ (z : ℚ). z +ℚ value ring_ℚ atoms y.text) x.is
      ∙ ap (λ (z : ℚ). a +ℚ z) y.is;
}

abbrev pub read_product : {atoms : List ℚ} {a b : ℚ} → Read atoms a → Read atoms b → Read atoms (a *ℚ b)
read_product {atoms} {a} {b} x y = record {
  text = x.text ⊗ y.text;
  is = ap (λ (z : ℚ). z *ℚ value ring_ℚ atoms y.text) x.is
      ∙ ap (λ (z : ℚ). a *ℚ z) y.is;
}

abbrev pub read_neg : {atoms : List ℚ} {a : ℚ} → Read atoms a → Read atoms (neg_ℚ a)
read_neg x = record { text = neg x.text; is = ap neg_ℚ x.is }

abbrev pub read_int_sum : {atoms : List ℚ} (a b : ℤ) → Read atoms (int a) → Read atoms (int b) → Read atoms (int (a +ℤ b))
read_int_sum {atoms} a b x y = record {
  text = x.text ⊕ y.text;
  is = ap (λ (z : ℚ). z +ℚ value ring_ℚ atoms y.text) x.is
      ∙ ap (λ (z : ℚ). int a +ℚ z) y.is ∙ sym (int-add a b);
}

abbrev pub read_int_product : {atoms : List ℚ} (a b : ℤ) → Read atoms (int a) → Read atoms (int b) → Read atoms (int (a *ℤ b))
read_int_product {atoms} a b x y = record {
  text = x.text ⊗ y.text;
  is = ap (λ (z : ℚ). z *ℚ value ring_ℚ atoms y.text) x.is
      ∙ ap (λ (z : ℚ). int a *ℚ z) y.is ∙ sym (int-mul a b);
}

abbrev pub read_pos_sum : {atoms : List ℚ} (m n : ℕ) → Read atoms (int (pos m)) → Read atoms (int (pos n)) → Read atoms (int (pos (m + n)))
read_pos_sum {atoms} m n x y = record {
  text = x.text ⊕ y.text;
  is = ap (λ (z : ℚ). z +ℚ value ring_ℚ atoms y.text) x.is
      ∙ ap (λ (z : ℚ). int (pos m) +ℚ z) y.is ∙ sym (int-add (pos m) (pos n));
}

abbrev pub read_pos_product : {atoms : List ℚ} (m n : ℕ) → Read atoms (int (pos m)) → Read atoms (int (pos n)) → Read atoms (int (pos (m * n)))
read_pos_product {atoms} m n x y = record {
  text = x.text ⊗ y.text;
  is = ap (λ (z : ℚ). z *ℚ value ring_ℚ atoms y.text) x.is
      ∙ ap (λ (z : ℚ). int (pos m) *ℚ z) y.is ∙ sym (int-mul (pos m) (pos n));
}

abbrev pub read_lit : {atoms : List ℚ} (n : ℕ) → eqb n n ≡ true → Read atoms (int (pos n))
read_lit n h = record { text = con (pos n); is = refl }

abbrev pub read_negative : {atoms : List ℚ} (n : ℕ) → eqb n n ≡ true → Read atoms (int (negsuc n))
read_negative n h = record { text = con (negsuc n); is = refl }

-- one of the atoms
abbrev pub read_atom : {atoms : List ℚ} {z : ℚ} → Atom (int (pos 0)) atoms z → Read atoms z
read_atom x = record { text = var x.place; is = x.is }

pub ruleset reading = (read_atom, an_atom, read_sum, read_product, read_neg, read_int_sum, read_int_product, read_pos_sum, read_pos_product, read_lit, read_negative)

-- equations that are given, each with the factor that it is taken by
pub data Given (atoms : List ℚ) : Type 0 where
  none : Given atoms
  given : (q l r : ℚ) → Read atoms q → Read atoms l → Read atoms r → l ≡ r → Given atoms → Given atoms

abbrev pub back : {atoms : List ℚ} → Given atoms → R.Given ring_ℚ atoms
back none = R.none
back (given q l r x y z e g) = R.given x.text y.text z.text (y.is ∙ e ∙ sym z.is) (back g)

-- a sum of products m * e * e, with a proof that each m is at least 0
pub data Squares (atoms : List ℚ) : Type 0 where
  nil : Squares atoms
  square : (m e : ℚ) → Read atoms m → Read atoms e → int (pos 0) ≤ℚ m → Squares atoms → Squares atoms

abbrev pub back_squares : {atoms : List ℚ} → Squares atoms → R.Squares ring_ℚ ordered_ℚ atoms
back_squares nil = R.nil
back_squares (square m e x y h c) = R.term x.text y.text (subst (λ (z : ℚ). int (pos 0) ≤ℚ z) (sym x.is) h) (back_squares c)

-- a ≡ b, by the normal forms
pub by_reading : {atoms : List ℚ} {a b : ℚ} (x : Read atoms a) (y : Read atoms b) → all_zero (norm (x.text ⊖ y.text)) ≡ true → a ≡ b
by_reading {atoms} x y e = sym x.is ∙ ring_over ring_ℚ atoms x.text y.text e ∙ y.is

-- a ≡ b, where a - b is a combination of given equations
pub by_given : {atoms : List ℚ} {a b : ℚ} (x : Read atoms a) (y : Read atoms b) (g : Given atoms) →
    all_zero (norm (x.text ⊖ y.text ⊖ R.combined ring_ℚ atoms (back g))) ≡ true → a ≡ b
by_given {atoms} x y g e = sym x.is ∙ R.ring_given ring_ℚ atoms x.text y.text (back g) e ∙ y.is

-- a ≤ b, where b - a is a sum of squares and a combination of given equations
pub by_squares : {atoms : List ℚ} {a b : ℚ} (x : Read atoms a) (y : Read atoms b) (c : Squares atoms) (g : Given atoms) →
    all_zero (norm (y.text ⊖ x.text ⊖ R.total ring_ℚ ordered_ℚ atoms (back_squares c) ⊖ R.combined ring_ℚ atoms (back g))) ≡ true → a ≤ℚ b
by_squares {atoms} {a} {b} x y c g e =
    subst (λ (z : ℚ). z ≤ℚ b) x.is (subst (λ (z : ℚ). value ring_ℚ atoms x.text ≤ℚ z) y.is (R.le_given ring_ℚ ordered_ℚ atoms x.text y.text (back_squares c) (back g) e))
