-- Identities and inequalities in any commutative ring, by the normal form of polynomials:
-- two expressions with one normal form have one value; an equation that follows from given ones; an inequality from a sum of squares.
use mathlib.Core.Path.{◌≡◌, refl, sym, ap, ◌∙◌, subst}
use mathlib.Core.Bool.{Bool, true, false}
use mathlib.Core.List.{List, [], ◌∷◌}
use Prim.Native.Nat.{ℕ, zero, suc, compare, Ordering}
use native.Mathlib.Omega.{compare-eq}
use lib.IntN.{ℤ, pos, negsuc, ◌+ℤ◌, ◌*ℤ◌}
use Rattle.tb_math.proofs.Polynomials.{Expression, var, con, ◌⊕◌, ◌⊖◌, ◌⊗◌, neg, Polynomial, lit, node, add_lit, merge, add, times_var, scale, mul, norm, is_zero, all_zero}

pub record CommutativeRing (A : Type 0) : Type 1 where
  pub plus : A → A → A
  pub times : A → A → A
  pub opposite : A → A
  pub inj : ℤ → A
  pub plus-assoc : (a b c : A) → plus (plus a b) c ≡ plus a (plus b c)
  pub plus-comm : (a b : A) → plus a b ≡ plus b a
  pub plus-zero : (a : A) → plus a (inj (pos 0)) ≡ a
  pub plus-opposite : (a : A) → plus a (opposite a) ≡ inj (pos 0)
  pub times-assoc : (a b c : A) → times (times a b) c ≡ times a (times b c)
  pub times-comm : (a b : A) → times a b ≡ times b a
  pub times-one : (a : A) → times (inj (pos 1)) a ≡ a
  pub times-plus : (a b c : A) → times a (plus b c) ≡ plus (times a b) (times a c)
  pub inj-plus : (a b : ℤ) → inj (a +ℤ b) ≡ plus (inj a) (inj b)
  pub inj-times : (a b : ℤ) → inj (a *ℤ b) ≡ times (inj a) (inj b)

abbrev pub pick : {A : Type 0} → A → List A → ℕ → A
pick d [] i = d
pick d (x ∷ xs) zero = x
pick d (x ∷ xs) (suc i) = pick d xs i

module _ {A : Type 0} (k : CommutativeRing A) where
  open k use {plus, times, opposite, inj, plus-assoc, plus-comm, plus-zero, plus-opposite, times-assoc, times-comm, times-one, times-plus, inj-plus, inj-times}

  abbrev pub value : List A → Expression → A
  value r (var i) = pick (inj (pos 0)) r i
  value r (con c) = inj c
  value r (a ⊕ b) = plus (value r a) (value r b)
  value r (a ⊖ b) = plus (value r a) (opposite (value r b))
  value r (a ⊗ b) = times (value r a) (value r b)
  value r (neg a) = opposite (value r a)

  abbrev at : List A → ℕ → A
  at r i = pick (inj (pos 0)) r i

  abbrev sem : List A → Polynomial → A
  sem r (lit a) = inj a
  sem r (node v p q) = plus (times (at r v) (sem r p)) (sem r q)

  add_left : (a b c : A) → plus a (plus b c) ≡ plus b (plus a c)
  add_left a b c = sym (plus-assoc a b c) ∙ ap (λ (z : A). plus z c) (plus-comm a b) ∙ plus-assoc b a c

  swap4 : (a b c d : A) → plus (plus a b) (plus c d) ≡ plus (plus a c) (plus b d)
  swap4 a b c d = plus-assoc a b (plus c d) ∙ ap (λ (z : A). plus a z) (add_left b c d) ∙ sym (plus-assoc a c (plus b d))

  pull : (x y z : A) → times x (times y z) ≡ times y (times x z)
  pull x y z = sym (times-assoc x y z) ∙ ap (λ (t : A). times t z) (times-comm x y) ∙ times-assoc y x z

  plus-times : (a b c : A) → times (plus a b) c ≡ plus (times a c) (times b c)
  plus-times a b c = times-comm (plus a b) c ∙ times-plus c a b ∙ ap (λ (z : A). plus z (times c b)) (times-comm c a)
      ∙ ap (λ (z : A). plus (times a c) z) (times-comm c b)

  cancel : (a b : A) → plus a b ≡ a → b ≡ inj (pos 0)
  cancel a b e = sym (plus-zero b) ∙ ap (λ (z : A). plus b z) (sym (plus-opposite a)) ∙ sym (plus-assoc b a (opposite a))
      ∙ ap (λ (z : A). plus z (opposite a)) (plus-comm b a ∙ e) ∙ plus-opposite a

  times-zero : (a : A) → times a (inj (pos 0)) ≡ inj (pos 0)
  times-zero a = cancel (times a (inj (pos 0))) (times a (inj (pos 0))) (sym (times-plus a (inj (pos 0)) (inj (pos 0)))
      ∙ ap (λ (z : A). times a z) (plus-zero (inj (pos 0))))

  unique : (a b : A) → plus a b ≡ inj (pos 0) → b ≡ opposite a
  unique a b e = sym (plus-zero b) ∙ ap (λ (z : A). plus b z) (sym (plus-opposite a)) ∙ sym (plus-assoc b a (opposite a))
      ∙ ap (λ (z : A). plus z (opposite a)) (plus-comm b a ∙ e) ∙ plus-comm (inj (pos 0)) (opposite a) ∙ plus-zero (opposite a)

  minus_one : (a : A) → times (inj (negsuc 0)) a ≡ opposite a
  minus_one a = unique a (times (inj (negsuc 0)) a) (ap (λ (z : A). plus z (times (inj (negsuc 0)) a)) (sym (times-one a))
      ∙ sym (plus-times (inj (pos 1)) (inj (negsuc 0)) a) ∙ ap (λ (z : A). times z a) (sym (inj-plus (pos 1) (negsuc 0)))
      ∙ times-comm (inj (pos 0)) a ∙ times-zero a)

  add_lit_is : (r : List A) (a : ℤ) (y : Polynomial) → sem r (add_lit a y) ≡ plus (inj a) (sem r y)
  add_lit_is r a (lit b) = inj-plus a b
  add_lit_is r a (node v p q) = ap (λ (z : A). plus (times (at r v) (sem r p)) z) (add_lit_is r a q)
      ∙ add_left (times (at r v) (sem r p)) (inj a) (sem r q)

  merge_is : (atoms : List A) (f g : Polynomial → Polynomial) (v : ℕ) (p q : Polynomial) →
      ((y : Polynomial) → sem atoms (f y) ≡ plus (sem atoms p) (sem atoms y)) →
      ((y : Polynomial) → sem atoms (g y) ≡ plus (sem atoms q) (sem atoms y)) → (y : Polynomial) →
      sem atoms (merge f g v p q y) ≡ plus (plus (times (at atoms v) (sem atoms p)) (sem atoms q)) (sem atoms y)
  merge_is atoms f g v p q hf hg (lit b) = ap (λ (z : A). plus (times (at atoms v) (sem atoms p)) z) (hg (lit b))
      ∙ sym (plus-assoc (times (at atoms v) (sem atoms p)) (sem atoms q) (inj b))
  merge_is atoms f g v p q hf hg (node w r s) = go (compare v w) refl (merge_is atoms f g v p q hf hg s)
    where
      go : (o : Ordering) → compare v w ≡ o →
          sem atoms (merge f g v p q s) ≡ plus (plus (times (at atoms v) (sem atoms p)) (sem atoms q)) (sem atoms s) →
          sem atoms (elim o as (λ _. Polynomial) [
            | Ordering.lt ↦ node v p (g (node w r s))
            | Ordering.eq ↦ node v (f r) (g s)
            | Ordering.gt ↦ node w r (merge f g v p q s)
          ]) ≡
          plus (plus (times (at atoms v) (sem atoms p)) (sem atoms q)) (plus (times (at atoms w) (sem atoms r)) (sem atoms s))
      go Ordering.lt e ih = ap (λ (z : A). plus (times (at atoms v) (sem atoms p)) z) (hg (node w r s))
          ∙ sym (plus-assoc (times (at atoms v) (sem atoms p)) (sem atoms q) (plus (times (at atoms w) (sem atoms r)) (sem atoms s)))
      go Ordering.eq e ih = ap (λ (z : A). plus (times (at atoms v) z) (sem atoms (g s))) (hf r)
          ∙ ap (λ (z : A). plus (times (at atoms v) (plus (sem atoms p) (sem atoms r))) z) (hg s)
          ∙ ap (λ (z : A). plus z (plus (sem atoms q) (sem atoms s))) (times-plus (at atoms v) (sem atoms p) (sem atoms r))
          ∙ swap4 (times (at atoms v) (sem atoms p)) (times (at atoms v) (sem atoms r)) (sem atoms q) (sem atoms s)
          ∙ ap (λ (t : ℕ). plus (plus (times (at atoms v) (sem atoms p)) (sem atoms q)) (plus (times (at atoms t) (sem atoms r)) (sem atoms s)))
          (compare-eq v w e)
      go Ordering.gt e ih = ap (λ (z : A). plus (times (at atoms w) (sem atoms r)) z) ih
          ∙ add_left (times (at atoms w) (sem atoms r)) (plus (times (at atoms v) (sem atoms p)) (sem atoms q)) (sem atoms s)

  add_is : (atoms : List A) (x y : Polynomial) → sem atoms (add x y) ≡ plus (sem atoms x) (sem atoms y)
  add_is atoms (lit a) y = add_lit_is atoms a y
  add_is atoms (node v p q) y = merge_is atoms (add p) (add q) v p q (add_is atoms p) (add_is atoms q) y

  times_var_is : (atoms : List A) (v : ℕ) (y : Polynomial) → sem atoms (times_var v y) ≡ times (at atoms v) (sem atoms y)
  times_var_is atoms v (lit a) = plus-zero (times (at atoms v) (inj a))
  times_var_is atoms v (node w r s) = go (compare v w) (times_var_is atoms v r) (times_var_is atoms v s)
    where
      go : (o : Ordering) → sem atoms (times_var v r) ≡ times (at atoms v) (sem atoms r) →
          sem atoms (times_var v s) ≡ times (at atoms v) (sem atoms s) →
          sem atoms (elim o as (λ _. Polynomial) [
            | Ordering.lt ↦ node v (node w r s) (lit (pos 0))
            | Ordering.eq ↦ node v (node w r s) (lit (pos 0))
            | Ordering.gt ↦ node w (times_var v r) (times_var v s)
          ]) ≡ times (at atoms v) (plus (times (at atoms w) (sem atoms r)) (sem atoms s))
      go Ordering.lt h t = plus-zero (times (at atoms v) (plus (times (at atoms w) (sem atoms r)) (sem atoms s)))
      go Ordering.eq h t = plus-zero (times (at atoms v) (plus (times (at atoms w) (sem atoms r)) (sem atoms s)))
      go Ordering.gt h t = ap (λ (z : A). plus (times (at atoms w) z) (sem atoms (times_var v s))) h
          ∙ ap (λ (z : A). plus (times (at atoms w) (times (at atoms v) (sem atoms r))) z) t
          ∙ ap (λ (z : A). plus z (times (at atoms v) (sem atoms s))) (pull (at atoms w) (at atoms v) (sem atoms r))
          ∙ sym (times-plus (at atoms v) (times (at atoms w) (sem atoms r)) (sem atoms s))

  scale_is : (atoms : List A) (a : ℤ) (y : Polynomial) → sem atoms (scale a y) ≡ times (inj a) (sem atoms y)
  scale_is atoms a (lit b) = inj-times a b
  scale_is atoms a (node v p q) = ap (λ (z : A). plus (times (at atoms v) z) (sem atoms (scale a q))) (scale_is atoms a p)
      ∙ ap (λ (z : A). plus (times (at atoms v) (times (inj a) (sem atoms p))) z) (scale_is atoms a q)
      ∙ ap (λ (z : A). plus z (times (inj a) (sem atoms q))) (pull (at atoms v) (inj a) (sem atoms p))
      ∙ sym (times-plus (inj a) (times (at atoms v) (sem atoms p)) (sem atoms q))

  mul_is : (atoms : List A) (x y : Polynomial) → sem atoms (mul x y) ≡ times (sem atoms x) (sem atoms y)
  mul_is atoms (lit a) y = scale_is atoms a y
  mul_is atoms (node v p q) y = add_is atoms (times_var v (mul p y)) (mul q y)
      ∙ ap (λ (z : A). plus z (sem atoms (mul q y))) (times_var_is atoms v (mul p y))
      ∙ ap (λ (z : A). plus (times (at atoms v) z) (sem atoms (mul q y))) (mul_is atoms p y)
      ∙ ap (λ (z : A). plus (times (at atoms v) (times (sem atoms p) (sem atoms y))) z) (mul_is atoms q y)
      ∙ ap (λ (z : A). plus z (times (sem atoms q) (sem atoms y))) (sym (times-assoc (at atoms v) (sem atoms p) (sem atoms y)))
      ∙ sym (plus-times (times (at atoms v) (sem atoms p)) (sem atoms q) (sem atoms y))

  norm_is : (atoms : List A) (e : Expression) → sem atoms (norm e) ≡ value atoms e
  norm_is atoms (var i) = plus-zero (times (at atoms i) (inj (pos 1))) ∙ times-comm (at atoms i) (inj (pos 1)) ∙ times-one (at atoms i)
  norm_is atoms (con c) = refl
  norm_is atoms (a ⊕ b) = add_is atoms (norm a) (norm b) ∙ ap (λ (z : A). plus z (sem atoms (norm b))) (norm_is atoms a)
      ∙ ap (λ (z : A). plus (value atoms a) z) (norm_is atoms b)
  norm_is atoms (a ⊖ b) = add_is atoms (norm a) (scale (negsuc 0) (norm b))
      ∙ ap (λ (z : A). plus z (sem atoms (scale (negsuc 0) (norm b)))) (norm_is atoms a)
      ∙ ap (λ (z : A). plus (value atoms a) z) (scale_is atoms (negsuc 0) (norm b) ∙ minus_one (sem atoms (norm b)) ∙ ap opposite (norm_is atoms b))
  norm_is atoms (a ⊗ b) = mul_is atoms (norm a) (norm b) ∙ ap (λ (z : A). times z (sem atoms (norm b))) (norm_is atoms a)
      ∙ ap (λ (z : A). times (value atoms a) z) (norm_is atoms b)
  norm_is atoms (neg a) = scale_is atoms (negsuc 0) (norm a) ∙ minus_one (sem atoms (norm a)) ∙ ap opposite (norm_is atoms a)

  false-true : {B : Type 0} → false ≡ true → B
  false-true e = cc

  is_zero_is : (a : ℤ) → is_zero a ≡ true → a ≡ pos 0
  is_zero_is (pos zero) e = refl
  is_zero_is (pos (suc n)) e = false-true e
  is_zero_is (negsuc n) e = false-true e

  all_zero_is : (atoms : List A) (y : Polynomial) → all_zero y ≡ true → sem atoms y ≡ inj (pos 0)
  all_zero_is atoms (lit a) e = ap inj (is_zero_is a e)
  all_zero_is atoms (node v p q) e = go (all_zero p) refl e (all_zero_is atoms p) (all_zero_is atoms q)
    where
      go : (b : Bool) → all_zero p ≡ b → elim b as (λ _. Bool) [ true ↦ all_zero q | false ↦ false ] ≡ true →
          (all_zero p ≡ true → sem atoms p ≡ inj (pos 0)) → (all_zero q ≡ true → sem atoms q ≡ inj (pos 0)) →
          plus (times (at atoms v) (sem atoms p)) (sem atoms q) ≡ inj (pos 0)
      go true h t hp hq = ap (λ (z : A). plus (times (at atoms v) z) (sem atoms q)) (hp h)
          ∙ ap (λ (z : A). plus (times (at atoms v) (inj (pos 0))) z) (hq t) ∙ plus-zero (times (at atoms v) (inj (pos 0))) ∙ times-zero (at atoms v)
      go false h t hp hq = false-true t

  from_difference : (a b : A) → plus a (opposite b) ≡ inj (pos 0) → a ≡ b
  from_difference a b e = sym (plus-zero a) ∙ ap (λ (z : A). plus a z) (sym (plus-opposite b) ∙ plus-comm b (opposite b))
      ∙ sym (plus-assoc a (opposite b) b) ∙ ap (λ (z : A). plus z b) e ∙ plus-comm (inj (pos 0)) b ∙ plus-zero b

  -- two expressions with one normal form have one value
  pub ring_over : (atoms : List A) (a b : Expression) → all_zero (norm (a ⊖ b)) ≡ true → value atoms a ≡ value atoms b
  ring_over atoms a b e = from_difference (value atoms a) (value atoms b) (sym (norm_is atoms (a ⊖ b)) ∙ all_zero_is atoms (norm (a ⊖ b)) e)

  -- equations that are given, each with the factor that it is taken by
  pub data Given (atoms : List A) : Type 0 where
    none : Given atoms
    given : (q l r : Expression) → value atoms l ≡ value atoms r → Given atoms → Given atoms

  abbrev pub combined : (atoms : List A) → Given atoms → Expression
  combined atoms none = con (pos 0)
  combined atoms (given q l r e g) = q ⊗ (l ⊖ r) ⊕ combined atoms g

  combined_is : (atoms : List A) (g : Given atoms) → value atoms (combined atoms g) ≡ inj (pos 0)
  combined_is atoms none = refl
  combined_is atoms (given q l r e g) =
      ap (λ (z : A). plus (times (value atoms q) (plus z (opposite (value atoms r)))) (value atoms (combined atoms g))) e
      ∙ ap (λ (z : A). plus (times (value atoms q) z) (value atoms (combined atoms g))) (plus-opposite (value atoms r))
      ∙ ap (λ (z : A). plus z (value atoms (combined atoms g))) (times-zero (value atoms q))
      ∙ ap (λ (z : A). plus (inj (pos 0)) z) (combined_is atoms g) ∙ plus-zero (inj (pos 0))

  -- a - b is a combination of equations that hold
  pub ring_given : (atoms : List A) (a b : Expression) (g : Given atoms) → all_zero (norm (a ⊖ b ⊖ combined atoms g)) ≡ true →
      value atoms a ≡ value atoms b
  ring_given atoms a b g e = from_difference (value atoms a) (value atoms b) (ring_over atoms (a ⊖ b) (combined atoms g) e ∙ combined_is atoms g)

pub record OrderedRing (A : Type 0) (k : CommutativeRing A) : Type 1 where
  pub le : A → A → Type 0
  pub nonneg-plus : (a b : A) → le (k.inj (pos 0)) a → le (k.inj (pos 0)) b → le (k.inj (pos 0)) (k.plus a b)
  pub nonneg-times : (a b : A) → le (k.inj (pos 0)) a → le (k.inj (pos 0)) b → le (k.inj (pos 0)) (k.times a b)
  pub nonneg-square : (a : A) → le (k.inj (pos 0)) (k.times a a)
  pub nonneg-zero : le (k.inj (pos 0)) (k.inj (pos 0))
  pub from_nonneg : (a b : A) → le (k.inj (pos 0)) (k.plus b (k.opposite a)) → le a b

module _ {A : Type 0} (k : CommutativeRing A) (o : OrderedRing A k) where
  -- a sum of products m * e * e, with a proof that each m is at least 0
  pub data Squares (atoms : List A) : Type 0 where
    nil : Squares atoms
    term : (m e : Expression) → o.le (k.inj (pos 0)) (value k atoms m) → Squares atoms → Squares atoms

  abbrev pub total : (atoms : List A) → Squares atoms → Expression
  total atoms nil = con (pos 0)
  total atoms (term m e h c) = m ⊗ (e ⊗ e) ⊕ total atoms c

  total_nonneg : (atoms : List A) (c : Squares atoms) → o.le (k.inj (pos 0)) (value k atoms (total atoms c))
  total_nonneg atoms nil = o.nonneg-zero
  total_nonneg atoms (term m e h c) =
      o.nonneg-plus (value k atoms (m ⊗ (e ⊗ e))) (value k atoms (total atoms c))
      (o.nonneg-times (value k atoms m) (value k atoms (e ⊗ e)) h (o.nonneg-square (value k atoms e))) (total_nonneg atoms c)

  pub le_given : (atoms : List A) (a b : Expression) (c : Squares atoms) (g : Given k atoms) →
      all_zero (norm (b ⊖ a ⊖ total atoms c ⊖ combined k atoms g)) ≡ true → o.le (value k atoms a) (value k atoms b)
  le_given atoms a b c g e = o.from_nonneg (value k atoms a) (value k atoms b)
      (subst (λ (z : A). o.le (k.inj (pos 0)) z) (sym (ring_given k atoms (b ⊖ a) (total atoms c) g e)) (total_nonneg atoms c))
