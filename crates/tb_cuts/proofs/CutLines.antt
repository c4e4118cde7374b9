-- The four regimes of a cut line, and the two additions that follow it: a term cut in two, and one put in.
use mathlib.Core.Path.{◌≡◌, refl, ◌∙◌, sym, subst}
use Prim.Native.Nat.{ℕ, zero, suc, ◌<◌, ◌≤◌}
use mathlib.Core.Path.{ap₂}
use mathlib.Core.List.{[], ◌∷◌}
use mathlib.Core.Logic.{◌⊎◌, inl, inr}
use lib.IntN.{pos}
use Rattle.std.proofs.Math.Nat.{eq-or-lt_of_le}
use Rattle.tb_math.specs.Rational.{ℚ, int, ◌+ℚ◌}
use Rattle.tb_math.specs.Sums.{total}
use Rattle.tb_math.proofs.RationalSums.{total-cut, total-insert}
use Rattle.tb_math.proofs.ReadRationals.{by_reading, reading}
use Rattle.tb_places.proofs.CutLines.{two-before, two-first, two-second, two-after}
use Rattle.tb_model.specs.Cuts.{between, bridged}

pub bridged-up_to : (p : ℕ) (s : ℚ) (f : ℕ → ℚ) (i : ℕ) → i ≤ p → bridged p s f i ≡ f i
bridged-up_to p s f i h = by_place (eq-or-lt_of_le h)
  where
    by_place : (i ≡ p) ⊎ (i < p) → bridged p s f i ≡ f i
    by_place (inl e) = subst (λ (t : ℕ). bridged p s f t ≡ f t) (sym e) (two-first p (f p) (between s (f p) (f (suc p))) f)
    by_place (inr l) = two-before p (f p) (between s (f p) (f (suc p))) f i l

pub bridged-after : (p : ℕ) (s : ℚ) (f : ℕ → ℚ) (i : ℕ) → p < i → bridged p s f (suc i) ≡ f i
bridged-after p s f i h = two-after p (f p) (between s (f p) (f (suc p))) f i h

pub bridged-middle : (p : ℕ) (s : ℚ) (f : ℕ → ℚ) → bridged p s f (suc p) ≡ between s (f p) (f (suc p))
bridged-middle p s f = two-second p (f p) (between s (f p) (f (suc p))) f

-- The terms of g are those of f, with the one at p cut in two
pub record IsCut (p : ℕ) (f g : ℕ → ℚ) : Type 0 where
  pub before : (i : ℕ) → i < p → g i ≡ f i
  pub here : g p +ℚ g (suc p) ≡ f p
  pub after : (i : ℕ) → p < i → g (suc i) ≡ f i

pub cut-total : (n p : ℕ) (f g : ℕ → ℚ) → p < n → IsCut p f g → total (suc n) g ≡ total n f
cut-total n p f g h c = total-cut n p f g h c.before c.here (λ i a b. c.after i a)

-- the terms of g are those of f, with a term that is nothing put in at p
pub record HasNothingAt (n p : ℕ) (f g : ℕ → ℚ) : Type 0 where
  pub before : (i : ℕ) → i < p → g i ≡ f i
  pub here : g p ≡ int (pos 0)
  pub after : (i : ℕ) → p ≤ i → i < n → g (suc i) ≡ f i

pub nothing-total : (n p : ℕ) (f g : ℕ → ℚ) → p ≤ n → HasNothingAt n p f g → total (suc n) g ≡ total n f
nothing-total n p f g h c = total-insert n p f g h c.before c.here c.after

-- Cut terms add up to cut terms --

medial : (a b c d : ℚ) → (a +ℚ b) +ℚ (c +ℚ d) ≡ (a +ℚ c) +ℚ (b +ℚ d)
medial a b c d = by_reading {atoms = a ∷ b ∷ c ∷ d ∷ []} (search reading) (search reading) refl

pub cut-plus : (p : ℕ) (f g f' g' : ℕ → ℚ) → IsCut p f g → IsCut p f' g' → IsCut p (λ i. f i +ℚ f' i) (λ i. g i +ℚ g' i)
cut-plus p f g f' g' c d = record {
  before = λ i h. ap₂ (λ (x y : ℚ). x +ℚ y) (c.before i h) (d.before i h);
  here = medial (g p) (g' p) (g (suc p)) (g' (suc p)) ∙ ap₂ (λ (x y : ℚ). x +ℚ y) c.here d.here;
  after = λ i h. ap₂ (λ (x y : ℚ). x +ℚ y) (c.after i h) (d.after i h);
}

nothing_added : int (pos 0) +ℚ int (pos 0) ≡ int (pos 0)
nothing_added = by_reading {atoms = []} (search reading) (search reading) refl

pub cut-none : (p : ℕ) → IsCut p (λ _. int (pos 0)) (λ _. int (pos 0))
cut-none p = record { before = λ i h. refl; here = nothing_added; after = λ i h. refl }

pub cut-sum : (p n : ℕ) (f g : ℕ → ℕ → ℚ) → ((i : ℕ) → IsCut p (f i) (g i)) → IsCut p (λ j. total n (λ i. f i j)) (λ j. total n (λ i. g i j))
cut-sum p zero f g c = cut-none p
cut-sum p (suc n) f g c = cut-plus p (λ j. total n (λ i. f i j)) (λ j. total n (λ i. g i j)) (f n) (g n) (cut-sum p n f g c) (c n)
