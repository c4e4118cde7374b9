-- Terms of an interval that are cut with it: from the form's law over plain values to the terms of a line.
use mathlib.Core.Path.{◌≡◌, ap₂, ◌∙◌, fun_ext}
use Prim.Native.Nat.{ℕ, suc, ◌<◌}
use native.Mathlib.Omega.{arith}
use lib.IntN.{pos}
use Rattle.tb_math.specs.Rational.{ℚ, int, ◌+ℚ◌, ◌-ℚ◌, ◌*ℚ◌}
use Rattle.tb_model.specs.Cuts.{between, shared, bridged}
use Rattle.tb_places.proofs.CutLines.{two-before, two-first, two-second, two-after}
use Rattle.tb_cuts.proofs.CutLines.{bridged-up_to, bridged-after, bridged-middle, IsCut}

-- the values on a plane of lines, in any two indexes
abbrev pub Plane : Type 0
Plane = ℕ → ℕ → ℚ

pub shared-before : (p : ℕ) (s : ℚ) (f : ℕ → ℚ) (i : ℕ) → i < p → shared p s f i ≡ f i
shared-before p s f i h = two-before p (s *ℚ f p) ((int (pos 1) -ℚ s) *ℚ f p) f i h

pub shared-first : (p : ℕ) (s : ℚ) (f : ℕ → ℚ) → shared p s f p ≡ s *ℚ f p
shared-first p s f = two-first p (s *ℚ f p) ((int (pos 1) -ℚ s) *ℚ f p) f

pub shared-second : (p : ℕ) (s : ℚ) (f : ℕ → ℚ) → shared p s f (suc p) ≡ (int (pos 1) -ℚ s) *ℚ f p
shared-second p s f = two-second p (s *ℚ f p) ((int (pos 1) -ℚ s) *ℚ f p) f

pub shared-after : (p : ℕ) (s : ℚ) (f : ℕ → ℚ) (i : ℕ) → p < i → shared p s f (suc i) ≡ f i
shared-after p s f i h = two-after p (s *ℚ f p) ((int (pos 1) -ℚ s) *ℚ f p) f i h

pub plane : {f g : Plane} → ((q r : ℕ) → f q r ≡ g q r) → f ≡ g
plane h = fun_ext (λ q. fun_ext (λ r. h q r))

-- a term of the width of an interval and of the values on the planes at its ends
pub bridged_cut : (p : ℕ) (s : ℚ) (w : ℕ → ℚ) (f : ℕ → ℕ → ℕ → ℚ) (F : ℚ → Plane → Plane → ℚ) →
    ((v : ℚ) (x y : Plane) → F (s *ℚ v) x (λ q r. between s (x q r) (y q r)) +ℚ F ((int (pos 1) -ℚ s) *ℚ v) (λ q r. between s (x q r) (y q r)) y ≡ F v x y) →
    IsCut p (λ i. F (w i) (f i) (f (suc i))) (λ i. F (shared p s w i) (λ q r. bridged p s (λ n. f n q r) i) (λ q r. bridged p s (λ n. f n q r) (suc i)))
bridged_cut p s w f F law = record {
  before = λ i h. all (shared-before p s w i h) (plane (λ q r. bridged-up_to p s (λ n. f n q r) i (omega arith))) (plane (λ q r. bridged-up_to p s (λ n. f n q r) (suc i) h));
  here = ap₂ (λ (x y : ℚ). x +ℚ y)
      (all (shared-first p s w) (plane (λ q r. bridged-up_to p s (λ n. f n q r) p (omega arith))) (plane (λ q r. bridged-middle p s (λ n. f n q r))))
      (all (shared-second p s w) (plane (λ q r. bridged-middle p s (λ n. f n q r))) (plane (λ q r. bridged-after p s (λ n. f n q r) (suc p) (omega arith))))
      ∙ law (w p) (f p) (f (suc p));
  after = λ i h. all (shared-after p s w i h) (plane (λ q r. bridged-after p s (λ n. f n q r) i h)) (plane (λ q r. bridged-after p s (λ n. f n q r) (suc i) (omega arith)));
}
  where
    all : {v v' : ℚ} {x x' y y' : Plane} → v ≡ v' → x ≡ x' → y ≡ y' → F v x y ≡ F v' x' y'
    all a b c = λ t. F (a t) (b t) (c t)

-- a term of the width of an interval and of values that are shared out over it
pub shared_cut : (p : ℕ) (s : ℚ) (w : ℕ → ℚ) (f : ℕ → ℕ → ℚ) (F : ℚ → (ℕ → ℚ) → ℚ) →
    ((v : ℚ) (x : ℕ → ℚ) → F (s *ℚ v) (λ q. s *ℚ x q) +ℚ F ((int (pos 1) -ℚ s) *ℚ v) (λ q. (int (pos 1) -ℚ s) *ℚ x q) ≡ F v x) →
    IsCut p (λ i. F (w i) (f i)) (λ i. F (shared p s w i) (λ q. shared p s (λ n. f n q) i))
shared_cut p s w f F law = record {
  before = λ i h. all (shared-before p s w i h) (fun_ext (λ q. shared-before p s (λ n. f n q) i h));
  here = ap₂ (λ (x y : ℚ). x +ℚ y)
      (all (shared-first p s w) (fun_ext (λ q. shared-first p s (λ n. f n q))))
      (all (shared-second p s w) (fun_ext (λ q. shared-second p s (λ n. f n q))))
      ∙ law (w p) (f p);
  after = λ i h. all (shared-after p s w i h) (fun_ext (λ q. shared-after p s (λ n. f n q) i h));
}
  where
    all : {v v' : ℚ} {x x' : ℕ → ℚ} → v ≡ v' → x ≡ x' → F v x ≡ F v' x'
    all a b = λ t. F (a t) (b t)
