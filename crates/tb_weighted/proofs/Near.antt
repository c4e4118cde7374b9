-- the cells round a node of a grid: of a triple sum only the cells next to the node's lines remain
use mathlib.Core.Path.{◌≡◌, refl, sym, ap, ◌∙◌}
use mathlib.Core.Bool.{Bool, true, false}
use Prim.Native.Nat.{ℕ, zero, suc, ◌<◌, ◌≤◌}
use native.Mathlib.Omega.{arith}
use Rattle.std.proofs.Common.{◌≢◌, cond, ltb}
use Rattle.std.proofs.lemmas.Bool.{ltb-true}
use lib.IntN.{ℤ, pos, ◌+ℤ◌}
use Rattle.tb_weighted.specs.Forms.{before, behind, near}

abbrev pub Away : ℕ → ℕ → Type 0
Away i j = (i ≢ j) × (suc i ≢ j)

same_before : (j n : ℕ) (f g : ℕ → ℤ) → j ≤ n → ((i : ℕ) → i < n → f i ≡ g i) → before f j ≡ before g j
same_before zero n f g l h = refl
same_before (suc i) n f g l h = h i (omega arith)

same_behind : (j n : ℕ) (f g : ℕ → ℤ) → ((i : ℕ) → i < n → f i ≡ g i) → behind f n j ≡ behind g n j
same_behind j n f g h = by (ltb j n) refl
  where
    by : (b : Bool) → ltb j n ≡ b → cond (ltb j n) (f j) (pos 0) ≡ cond (ltb j n) (g j) (pos 0)
    by true e = ap (λ (x : ℤ). cond (ltb j n) x (pos 0)) (h j (ltb-true j n e))
    by false e = ap (λ (b : Bool). cond b (f j) (pos 0)) e ∙ ap (λ (b : Bool). cond b (g j) (pos 0)) (sym e)

pub near_same : (j n : ℕ) (f g : ℕ → ℤ) → j ≤ n → ((i : ℕ) → i < n → f i ≡ g i) → near n j f ≡ near n j g
near_same j n f g l h = ap (λ (x : ℤ). x +ℤ behind f n j) (same_before j n f g l h) ∙ ap (λ (x : ℤ). before g j +ℤ x) (same_behind j n f g h)
