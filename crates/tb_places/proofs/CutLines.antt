-- A line of values with two in the place of one: before them, at the two, and behind them.
use mathlib.Core.Path.{◌≡◌, refl, sym, subst}
use mathlib.Core.Logic.{◌⊎◌, inl, inr}
use Prim.Native.Nat.{ℕ, zero, suc, ◌<◌, ◌≤◌}
use native.Mathlib.Omega.{arith}
use Rattle.std.proofs.Math.Nat.{eq-or-lt_of_le}
use Rattle.tb_places.specs.Cuts.{with_two, in_both}

pub two-before : {A : Type 0} (p : ℕ) (x y : A) (f : ℕ → A) (i : ℕ) → i < p → with_two p x y f i ≡ f i
two-before zero x y f i h = absurd (omega arith)
two-before (suc p) x y f zero h = refl
two-before (suc p) x y f (suc i) h = two-before p x y (λ n. f (suc n)) i (omega arith)

pub two-first : {A : Type 0} (p : ℕ) (x y : A) (f : ℕ → A) → with_two p x y f p ≡ x
two-first zero x y f = refl
two-first (suc p) x y f = two-first p x y (λ n. f (suc n))

pub two-second : {A : Type 0} (p : ℕ) (x y : A) (f : ℕ → A) → with_two p x y f (suc p) ≡ y
two-second zero x y f = refl
two-second (suc p) x y f = two-second p x y (λ n. f (suc n))

pub two-after : {A : Type 0} (p : ℕ) (x y : A) (f : ℕ → A) (i : ℕ) → p < i → with_two p x y f (suc i) ≡ f i
two-after zero x y f zero h = absurd (omega arith)
two-after zero x y f (suc i) h = refl
two-after (suc p) x y f zero h = absurd (omega arith)
two-after (suc p) x y f (suc i) h = two-after p x y (λ n. f (suc n)) i (omega arith)

pub both-up_to : {A : Type 0} (p : ℕ) (f : ℕ → A) (i : ℕ) → i ≤ p → in_both p f i ≡ f i
both-up_to p f i h = by_place (eq-or-lt_of_le h)
  where
    by_place : (i ≡ p) ⊎ (i < p) → in_both p f i ≡ f i
    by_place (inl e) = subst (λ (t : ℕ). in_both p f t ≡ f t) (sym e) (two-first p (f p) (f p) f)
    by_place (inr l) = two-before p (f p) (f p) f i l

pub both-from : {A : Type 0} (p : ℕ) (f : ℕ → A) (i : ℕ) → p ≤ i → in_both p f (suc i) ≡ f i
both-from p f i h = by_place (eq-or-lt_of_le h)
  where
    by_place : (p ≡ i) ⊎ (p < i) → in_both p f (suc i) ≡ f i
    by_place (inl e) = subst (λ (t : ℕ). in_both p f (suc t) ≡ f t) e (two-second p (f p) (f p) f)
    by_place (inr l) = two-after p (f p) (f p) f i l
