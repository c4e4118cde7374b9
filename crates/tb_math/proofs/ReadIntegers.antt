-- Tactics for the whole numbers. `search reading` finds the expression whose value is the given number, so the two sides of an identity
-- are never written again:
--   `by_reading` proves a ≡ b by the normal forms, `by_given` from equations that are given, `by_squares` proves a ≤ b by a sum of squares.
-- A call names its atoms: `by_reading {atoms = x ∷ y ∷ []} (search reading) (search reading) refl`, deeper terms with `depth 60 fits 100000`.
use mathlib.Core.Path.{◌≡◌, refl, sym, ap, ◌∙◌, subst}
use mathlib.Core.Bool.{true}
use mathlib.Core.List.{List, [], ◌∷◌}
use Prim.Native.Nat.{ℕ, ◌+◌, ◌*◌, ◌<◌}
use native.Mathlib.Omega.{arith}
use Rattle.std.proofs.lemmas.Int.{ints}
use lib.Dec.{eqb}
use lib.IntN.{ℤ, pos, negsuc, ◌+ℤ◌, ◌-ℤ◌, ◌*ℤ◌, neg_ℤ}
use lib.Signed.{◌≤ℤ◌}
use Rattle.tb_math.specs.Integers.{mul-nonneg, square-nonneg, pos-nonneg, cancel_le}
use Rattle.tb_math.proofs.Polynomials.{Expression, var, con, ◌⊕◌, ◌⊖◌, ◌⊗◌, neg, norm, all_zero}
use Rattle.tb_math.proofs.Rings.{value}
use Rattle.tb_math.proofs.Atoms.{Atom, an_atom}
use Rattle.tb_math.proofs.IntegerRing.{ring_ℤ, ring}

-- an expression whose value is z
pub record Read (atoms : List ℤ) (z : ℤ) : Type 0 where
  pub text : Expression
  pub is : value ring_ℤ atoms text ≡ z

abbrev pub read_sum : {atoms : List ℤ} {a b : ℤ} → Read atoms a → Read atoms b → Read atoms (a +ℤ b)
read_sum {atoms} {a} {b} x y = record {
  text = x.text ⊕ y.text;
  is = ap (λ (z : ℤ). z +ℤ value ring_ℤ atoms y.text) x.is
      ∙ ap (λ (z : ℤ). a +ℤ z) y.is;
}

abbrev pub read_product : {atoms : List ℤ} {a b : ℤ} → Read atoms a → Read atoms b → Read atoms (a *ℤ b)
read_product {atoms} {a} {b} x y = record {
  text = x.text ⊗ y.text;
  is = ap (λ (z : ℤ). z *ℤ value ring_ℤ atoms y.text) x.is
      ∙ ap (λ (z : ℤ). a *ℤ z) y.is;
}

abbrev pub read_neg : {atoms : List ℤ} {a : ℤ} → Read atoms a → Read atoms (neg_ℤ a)
read_neg x = record { text = neg x.text; is = ap neg_ℤ x.is }

-- a product and a sum of naturals
abbrev pub read_pos_product : {atoms : List ℤ} {m n : ℕ} → Read atoms (pos m) → Read atoms (pos n) → Read atoms (pos (m * n))
read_pos_product {atoms} {m} {n} x y = record {
  text = x.text ⊗ y.text;
  is = ap (λ (z : ℤ). z *ℤ value ring_ℤ atoms y.text) x.is
      ∙ ap (λ (z : ℤ). pos m *ℤ z) y.is;
}

abbrev pub read_pos_sum : {atoms : List ℤ} {m n : ℕ} → Read atoms (pos m) → Read atoms (pos n) → Read atoms (pos (m + n))
read_pos_sum {atoms} {m} {n} x y = record {
  text = x.text ⊕ y.text;
  is = ap (λ (z : ℤ). z +ℤ value ring_ℤ atoms y.text) x.is
      ∙ ap (λ (z : ℤ). pos m +ℤ z) y.is;
}

-- a numeral: on no other number does the test compute
abbrev pub read_lit : {atoms : List ℤ} (n : ℕ) → eqb n n ≡ true → Read atoms (pos n)
read_lit n h = record { text = con (pos n); is = refl }

abbrev pub read_negative : {atoms : List ℤ} (n : ℕ) → eqb n n ≡ true → Read atoms (negsuc n)
read_negative n h = record { text = con (negsuc n); is = refl }

-- one of the atoms
abbrev pub read_atom : {atoms : List ℤ} {z : ℤ} → Atom (pos 0) atoms z → Read atoms z
read_atom x = record { text = var x.place; is = x.is }

pub ruleset reading = (read_atom, an_atom, read_sum, read_product, read_neg, read_pos_product, read_pos_sum, read_lit, read_negative)

-- equations that are given, each with the factor that it is taken by
pub data Given (atoms : List ℤ) : Type 0 where
  none : Given atoms
  given : (q l r : ℤ) → Read atoms q → Read atoms l → Read atoms r → l ≡ r → Given atoms → Given atoms

abbrev pub combined : {atoms : List ℤ} → Given atoms → Expression
combined none = con (pos 0)
combined (given q l r x y z e g) = x.text ⊗ (y.text ⊖ z.text) ⊕ combined g

zero_times : (q z : ℤ) → z ≡ pos 0 → q *ℤ z ≡ pos 0
zero_times q z e = ap (λ (t : ℤ). q *ℤ t) e ∙ ring (q ∷ []) (var 0 ⊗ con (pos 0)) (con (pos 0)) refl

difference : (l r : ℤ) → l ≡ r → l -ℤ r ≡ pos 0
difference l r e = omega (arith, ints)

combined_is : (atoms : List ℤ) (g : Given atoms) → value ring_ℤ atoms (combined g) ≡ pos 0
combined_is atoms none = refl
combined_is atoms (given q l r x y z e g) =
    ap (λ (t : ℤ). t +ℤ value ring_ℤ atoms (combined g))
    (zero_times (value ring_ℤ atoms x.text) (value ring_ℤ atoms y.text -ℤ value ring_ℤ atoms z.text)
    (difference (value ring_ℤ atoms y.text) (value ring_ℤ atoms z.text) (y.is ∙ e ∙ sym z.is))) ∙ ap (λ (t : ℤ). pos 0 +ℤ t) (combined_is atoms g)

add_nonneg : (a b : ℤ) → pos 0 ≤ℤ a → pos 0 ≤ℤ b → pos 0 ≤ℤ (a +ℤ b)
add_nonneg a b h k = omega (arith, ints)

from_nonneg : (k : ℕ) (a b s : ℤ) → 0 < k → pos k *ℤ (b -ℤ a) ≡ s → pos 0 ≤ℤ s → a ≤ℤ b
from_nonneg k a b s h e n = cancel_le k a b h (last (subst (λ (z : ℤ). pos 0 ≤ℤ z) (sym e
    ∙ ring (pos k ∷ a ∷ b ∷ []) (var 0 ⊗ (var 2 ⊖ var 1)) (var 0 ⊗ var 2 ⊖ var 0 ⊗ var 1) refl) n))
  where
    last : pos 0 ≤ℤ (pos k *ℤ b -ℤ pos k *ℤ a) → (pos k *ℤ a) ≤ℤ (pos k *ℤ b)
    last q = omega (arith, ints)

-- a sum of products m * e * e, with a proof that each m is at least 0
pub data Squares (atoms : List ℤ) : Type 0 where
  nil : Squares atoms
  square : (m e : ℤ) → Read atoms m → Read atoms e → pos 0 ≤ℤ m → Squares atoms → Squares atoms

abbrev pub total : {atoms : List ℤ} → Squares atoms → Expression
total nil = con (pos 0)
total (square m e x y h c) = x.text ⊗ (y.text ⊗ y.text) ⊕ total c

total_nonneg : (atoms : List ℤ) (c : Squares atoms) → pos 0 ≤ℤ value ring_ℤ atoms (total c)
total_nonneg atoms nil = pos-nonneg 0
total_nonneg atoms (square m e x y h c) =
    add_nonneg (value ring_ℤ atoms x.text *ℤ (value ring_ℤ atoms y.text *ℤ value ring_ℤ atoms y.text)) (value ring_ℤ atoms (total c))
    (mul-nonneg (value ring_ℤ atoms x.text) (value ring_ℤ atoms y.text *ℤ value ring_ℤ atoms y.text) (subst (λ (z : ℤ). pos 0 ≤ℤ z) (sym x.is) h)
    (square-nonneg (value ring_ℤ atoms y.text))) (total_nonneg atoms c)

-- a ≡ b, by the normal forms
pub by_reading : {atoms : List ℤ} {a b : ℤ} (x : Read atoms a) (y : Read atoms b) → all_zero (norm (x.text ⊖ y.text)) ≡ true → a ≡ b
by_reading {atoms} x y e = sym x.is ∙ ring atoms x.text y.text e ∙ y.is

-- a ≡ b, where a - b is a combination of given equations
pub by_given : {atoms : List ℤ} {a b : ℤ} (x : Read atoms a) (y : Read atoms b) (g : Given atoms) →
    all_zero (norm (x.text ⊖ y.text ⊖ combined g)) ≡ true → a ≡ b
by_given {atoms} {a} {b} x y g e = sym x.is
    ∙ last (value ring_ℤ atoms x.text) (value ring_ℤ atoms y.text) (ring atoms (x.text ⊖ y.text) (combined g) e ∙ combined_is atoms g) ∙ y.is
  where
    last : (s t : ℤ) → s -ℤ t ≡ pos 0 → s ≡ t
    last s t h = omega (arith, ints)

-- a ≤ b, where k * (b - a) is a sum of squares and a combination of given equations
pub by_squares : {atoms : List ℤ} {a b : ℤ} (x : Read atoms a) (y : Read atoms b) (k : ℕ) (c : Squares atoms) (g : Given atoms) → 0 < k →
    all_zero (norm (con (pos k) ⊗ (y.text ⊖ x.text) ⊖ (total c ⊕ combined g))) ≡ true → a ≤ℤ b
by_squares {atoms} {a} {b} x y k c g h e =
    subst (λ (z : ℤ). z ≤ℤ b) x.is (subst (λ (z : ℤ). value ring_ℤ atoms x.text ≤ℤ z) y.is (from_nonneg k (value ring_ℤ atoms x.text)
    (value ring_ℤ atoms y.text) (value ring_ℤ atoms (total c ⊕ combined g)) h (ring atoms (con (pos k) ⊗ (y.text ⊖ x.text)) (total c ⊕ combined g) e)
    (last (value ring_ℤ atoms (total c)) (value ring_ℤ atoms (combined g)) (combined_is atoms g) (total_nonneg atoms c))))
  where
    last : (s t : ℤ) → t ≡ pos 0 → pos 0 ≤ℤ s → pos 0 ≤ℤ (s +ℤ t)
    last s t e h = omega (arith, ints)
