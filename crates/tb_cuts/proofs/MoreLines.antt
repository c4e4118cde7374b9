-- One line more in a given interval: the mesh of the refinement is the cut of its mesh there.
use mathlib.Core.Path.{◌≡◌, refl, ap, ◌∙◌}
use mathlib.Core.Logic.{◌⊎◌, inl, inr}
use Prim.Native.Nat.{ℕ, suc, ◌-◌, ◌<◌, ◌≤◌}
use native.Mathlib.Omega.{arith}
use lib.IntN.{pos}
use lib.ListN.{get_or, length}
use mathlib.Core.List.{List}
use Rattle.std.specs.List.Sorted.{IsStrictlyIncreasing}
use Rattle.std.proofs.lemmas.List.Kept.{AllPairs-from_increasing}
use Rattle.std.proofs.Math.Nat.{eq-or-lt_of_le}
use Rattle.tb_math.specs.Rational.{ratio}
use Rattle.tb_places.specs.declared.AxisName.{AxisName}
use Rattle.tb_model.specs.Cuts.{cut}
use Rattle.tb_places.specs.Lines.{with_line}
use Rattle.tb_model.specs.Merges.{relined}
use Rattle.tb_model.specs.Refinement.{Scene, Refinement, Refines, line, mesh}
use Rattle.tb_cuts.proofs.CutMeshes.{mesh_cut, outside, parts_make}
use Rattle.tb_cuts.proofs.InsertedLines.{Gap, Located, below_or_not, located_from}

module _ (xs : List ℕ) (rising : IsStrictlyIncreasing xs) (p q : ℕ) (within : suc p < length xs) (low : get_or xs p 0 < q) (high : q < get_or xs (suc p) 0) where
  later : (i j : ℕ) → i ≤ j → j < length xs → get_or xs i 0 ≤ get_or xs j 0
  later i j h l = by_order (eq-or-lt_of_le h)
    where
      by_order : (i ≡ j) ⊎ (i < j) → get_or xs i 0 ≤ get_or xs j 0
      by_order (inl e) = let same : get_or xs i 0 ≡ get_or xs j 0 = ap (λ (t : ℕ). get_or xs t 0) e in omega arith
      by_order (inr m) = let up : get_or xs i 0 < get_or xs j 0 = AllPairs-from_increasing xs rising i j 0 m l in omega arith

  -- there is one gap
  same_gap : (ys : List ℕ) (g : Gap xs q ys) → g.p ≡ p
  same_gap ys g = by_places (below_or_not g.p p) (below_or_not p g.p)
    where
      by_places : (g.p ≤ p) ⊎ (p < g.p) → (p ≤ g.p) ⊎ (g.p < p) → g.p ≡ p
      by_places (inl h) (inl k) = omega arith
      by_places (inl h) (inr k) = let up : get_or xs (suc g.p) 0 ≤ get_or xs p 0 = later (suc g.p) p (omega arith) (omega arith) in let above : q < get_or xs (suc g.p) 0 = g.high in absurd (omega arith)
      by_places (inr h) k = let w : suc g.p < length xs = g.within in let up : get_or xs (suc p) 0 ≤ get_or xs g.p 0 = later (suc p) g.p (omega arith) (omega arith) in let below : get_or xs g.p 0 < q = g.low in absurd (omega arith)

  pub gap_at : Gap xs q (with_line q xs)
  gap_at = from_place (located_from xs q (suc p) (omega arith) (let up : get_or xs 0 0 ≤ get_or xs p 0 = later 0 p (omega arith) (omega arith) in omega arith) within (omega arith))
    where
      none : (c : ℕ) → c ≡ q → (c ≤ get_or xs p 0) ⊎ (get_or xs (suc p) 0 ≤ c) → ⊥
      none c e (inl h) = omega arith
      none c e (inr h) = omega arith

      from_place : Located xs q → Gap xs q (with_line q xs)
      from_place (inl (there, same)) = absurd (none q refl (outside xs rising p q within there))
      from_place (inr g) = g

  pub gap_place : gap_at.p ≡ p
  gap_place = same_gap (with_line q xs) gap_at

pub mesh_cut_there : (s : Scene) (r : Refinement) (a : AxisName) (p q : ℕ) → Refines s r → suc p < length (r.lines a) → line r a p < q → q < line r a (suc p) →
    mesh s (relined a (with_line q (r.lines a)) r) ≡ cut a p (ratio (pos (q - line r a p)) (line r a (suc p) - line r a p)) (mesh s r)
mesh_cut_there s r a p q refines within low high =
    mesh_cut s r refines q (with_line q (r.lines a)) a g
    ∙ ap (λ (k : ℕ). cut a g.p (ratio (pos (q - line r a g.p)) k) (mesh s r)) (parts_make (r.lines a) q (with_line q (r.lines a)) g)
    ∙ ap (λ (t : ℕ). cut a t (ratio (pos (q - line r a t)) (line r a (suc t) - line r a t)) (mesh s r)) (gap_place (r.lines a) (refines.rising a) p q within low high)
  where
    g : Gap (r.lines a) q (with_line q (r.lines a))
    g = gap_at (r.lines a) (refines.rising a) p q within low high
