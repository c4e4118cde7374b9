-- What goes round an edge enters each cell as much as it leaves it.
use Rattle.std.proofs.Common.{◌≡◌, refl, sym, ap, ◌∙◌, arith, ℕ, suc, Bool, ◌-◌, ◌<◌, [], ◌∷◌}
use lib.IntN.{ℤ, pos, ◌+ℤ◌, ◌-ℤ◌, ◌*ℤ◌}
use Rattle.std.specs.Prelude.{cond, eqb}
use Rattle.std.proofs.Math.Dec.{eqb-suc-suc}
use Rattle.tb_math.specs.Rational.{ℚ, int, ◌+ℚ◌}
use Rattle.tb_math.proofs.RationalLaws.{int-add, int-difference}
use Rattle.tb_math.proofs.ReadIntegers.{by_reading, reading}
use Rattle.tb_places.specs.declared.AxisName.{AxisName}
use Rattle.tb_places.specs.declared.AxisName.TheVariants.{X, Y, Z}
use Rattle.tb_places.specs.declared.Place.{Place}
use Rattle.tb_places.specs.Places.{Counts}
use Rattle.tb_model.specs.Energy.{outflow}
use Rattle.tb_weighted.specs.Forms.{bit}
use Rattle.tb_weighted.specs.Flows.{Flows3}
use Rattle.tb_weighted.specs.Moves.{IsInnerEdge, round_edge, whole_flux}

-- what leaves a cell, in whole numbers
abbrev pub leaving : Flows3 → ℕ → ℕ → ℕ → ℤ
leaving q i j k = (q X (suc i) j k -ℤ q X i j k) +ℤ (q Y i (suc j) k -ℤ q Y i j k) +ℤ (q Z i j (suc k) -ℤ q Z i j k)

pub whole_leaving : (q : Flows3) (i j k : ℕ) → outflow (whole_flux q) i j k ≡ int (leaving q i j k)
whole_leaving q i j k = sym (int-add _ _ ∙ two (int-add _ _ ∙ two (int-difference _ _) (int-difference _ _)) (int-difference _ _))
  where
    two : {a b c d : ℚ} → a ≡ c → b ≡ d → a +ℚ b ≡ c +ℚ d
    two {a = a} {d = d} e f = ap (λ (z : ℚ). a +ℚ z) f ∙ ap (λ (z : ℚ). z +ℚ d) e

-- 1 at a line is 1 at the line below for the index below
shifted : (j q : ℕ) → 0 < q → bit (suc j) q ≡ bit j (q - 1)
unfolding bit
shifted j q h = ap (λ (n : ℕ). cond (eqb (suc j) n) (pos 1) (pos 0)) (up q h) ∙ ap (λ (b : Bool). cond b (pos 1) (pos 0)) (eqb-suc-suc j (q - 1))
  where
    up : (q : ℕ) → 0 < q → q ≡ suc (q - 1)
    up q h = omega (arith, h)

-- the cell's flows, with a, b, c for the indexes of the edge and a', b', c' for those before
round_x : (a b b' c c' : ℤ) → (pos 0 -ℤ pos 0) +ℤ ((a *ℤ (b' *ℤ c') -ℤ a *ℤ (b' *ℤ c)) -ℤ (a *ℤ (b *ℤ c') -ℤ a *ℤ (b *ℤ c))) +ℤ ((a *ℤ (b *ℤ c') -ℤ a *ℤ (b' *ℤ c')) -ℤ (a *ℤ (b *ℤ c) -ℤ a *ℤ (b' *ℤ c))) ≡ pos 0
round_x a b b' c c' = by_reading {atoms = a ∷ b ∷ b' ∷ c ∷ c' ∷ []} (search reading depth 60 fits 100000) (search reading depth 60 fits 100000) refl

round_y : (a a' b c c' : ℤ) → ((a' *ℤ (b *ℤ c) -ℤ a' *ℤ (b *ℤ c')) -ℤ (a *ℤ (b *ℤ c) -ℤ a *ℤ (b *ℤ c'))) +ℤ (pos 0 -ℤ pos 0) +ℤ ((a' *ℤ (b *ℤ c') -ℤ a *ℤ (b *ℤ c')) -ℤ (a' *ℤ (b *ℤ c) -ℤ a *ℤ (b *ℤ c))) ≡ pos 0
round_y a a' b c c' = by_reading {atoms = a ∷ a' ∷ b ∷ c ∷ c' ∷ []} (search reading depth 60 fits 100000) (search reading depth 60 fits 100000) refl

round_z : (a a' b b' c : ℤ) → ((a' *ℤ (b' *ℤ c) -ℤ a' *ℤ (b *ℤ c)) -ℤ (a *ℤ (b' *ℤ c) -ℤ a *ℤ (b *ℤ c))) +ℤ ((a *ℤ (b' *ℤ c) -ℤ a' *ℤ (b' *ℤ c)) -ℤ (a *ℤ (b *ℤ c) -ℤ a' *ℤ (b *ℤ c))) +ℤ (pos 0 -ℤ pos 0) ≡ pos 0
round_z a a' b b' c = by_reading {atoms = a ∷ a' ∷ b ∷ b' ∷ c ∷ []} (search reading depth 60 fits 100000) (search reading depth 60 fits 100000) refl

-- with the bits themselves
pub round_leaves_none : (n : Counts) (axis : AxisName) (e : Place) (i j k : ℕ) → IsInnerEdge n axis e → leaving (round_edge axis e) i j k ≡ pos 0
round_leaves_none n X e i j k (x, y, y', z, z') = rw (shifted j e.j y, shifted k e.k z) (round_x (bit i e.i) (bit j e.j) (bit j (e.j - 1)) (bit k e.k) (bit k (e.k - 1)))
round_leaves_none n Y e i j k (x, x', y, z, z') = rw (shifted i e.i x, shifted k e.k z) (round_y (bit i e.i) (bit i (e.i - 1)) (bit j e.j) (bit k e.k) (bit k (e.k - 1)))
round_leaves_none n Z e i j k (x, x', y, y', z) = rw (shifted i e.i x, shifted j e.j y) (round_z (bit i e.i) (bit i (e.i - 1)) (bit j e.j) (bit j (e.j - 1)) (bit k e.k))

pub round_outflow : (n : Counts) (axis : AxisName) (e : Place) (i j k : ℕ) → IsInnerEdge n axis e → outflow (whole_flux (round_edge axis e)) i j k ≡ int (pos 0)
round_outflow n axis e i j k h = whole_leaving (round_edge axis e) i j k ∙ ap int (round_leaves_none n axis e i j k h)
