-- A refinement with its scale and all its lines multiplied has the same mesh.
use mathlib.Core.Path.{◌≡◌, refl, ap, ◌∙◌, sym, subst}
use mathlib.Core.Logic.{◌⊎◌, inl, inr}
use mathlib.Core.List.{List, [], ◌∷◌, map}
use Prim.Native.Nat.{ℕ, zero, suc, ◌+◌, ◌-◌, ◌*◌, ◌<◌, ◌≤◌}
use native.Mathlib.Omega.{arith}
use lib.IntN.{pos}
use lib.ListN.{get_or, length}
use Rattle.std.specs.Prelude.{nat_le, nat_lt, ◌&&◌, Any}
use Rattle.std.specs.Option.{option_map}
use Rattle.std.specs.List.{Contains}
use Rattle.std.proofs.Math.Nat.{mul-le-mul_left, le_of_mul-le-mul_left, one-le-mul}
use Rattle.std.proofs.lemmas.Bool.{lt-ltb, le-ltb, le-leb, lt-leb}
use Rattle.std.proofs.lemmas.List.{get_or_default, length-map}
use Rattle.tb_math.specs.Rational.{ratio}
use Rattle.tb_math.proofs.Ratios.{ratio-cancel}
use Rattle.tb_places.specs.declared.AxisName.TheVariants.{X, Y, Z}
use Rattle.tb_model.specs.Refinement.{Scene, Refinement, Refines, low, high, line, holds_middle, occupant, mesh}
use Rattle.tb_model.specs.Merges.{rescaled}
use Rattle.tb_cuts.proofs.InsertedLines.{below_or_not}
use Rattle.tb_cuts.proofs.CutMeshes.{reach, find_cong}

-- Order of multiples --

lt_times : (k a b : ℕ) → 0 < k → a < b → k * a < k * b
lt_times k a b some h = by_order (below_or_not (k * b) (k * a))
  where
    by_order : (k * b ≤ k * a) ⊎ (k * a < k * b) → k * a < k * b
    by_order (inl l) = let m : b ≤ a = le_of_mul-le-mul_left l some in absurd (omega arith)
    by_order (inr l) = l

le_same : (k a b a' b' : ℕ) → 0 < k → a' ≡ k * a → b' ≡ k * b → nat_le a' b' ≡ nat_le a b
le_same k a b a' b' some e f = by_order (below_or_not a b)
  where
    by_order : (a ≤ b) ⊎ (b < a) → nat_le a' b' ≡ nat_le a b
    by_order (inl h) = let m : k * a ≤ k * b = mul-le-mul_left k h in le-leb a' b' (omega arith) ∙ sym (le-leb a b h)
    by_order (inr h) = let m : k * b < k * a = lt_times k b a some h in lt-leb a' b' (omega arith) ∙ sym (lt-leb a b h)

lt_same : (k a b a' b' : ℕ) → 0 < k → a' ≡ k * a → b' ≡ k * b → nat_lt a' b' ≡ nat_lt a b
lt_same k a b a' b' some e f = by_order (below_or_not b a)
  where
    by_order : (b ≤ a) ⊎ (a < b) → nat_lt a' b' ≡ nat_lt a b
    by_order (inl h) = let m : k * b ≤ k * a = mul-le-mul_left k h in le-ltb a' b' (omega arith) ∙ sym (le-ltb a b h)
    by_order (inr h) = let m : k * a < k * b = lt_times k a b some h in lt-ltb a' b' (omega arith) ∙ sym (lt-ltb a b h)

abbrev times : ℕ → List ℕ → List ℕ
times k xs = map (λ x. k * x) xs

times_at : (k : ℕ) (xs : List ℕ) (i : ℕ) → get_or (times k xs) i 0 ≡ k * get_or xs i 0
times_at k [] i = omega arith
times_at k (x ∷ xs) zero = refl
times_at k (x ∷ xs) (suc i) = times_at k xs i

-- The mesh --

same_width : (k n : ℕ) (xs : List ℕ) (i : ℕ) → 0 < k → ratio (pos (get_or (times k xs) (suc i) 0 - get_or (times k xs) i 0)) (k * n) ≡ ratio (pos (get_or xs (suc i) 0 - get_or xs i 0)) n
same_width k n xs i some =
    (λ t. ratio (pos (times_at k xs (suc i) t - times_at k xs i t)) (k * n))
    ∙ ap (λ (t : ℕ). ratio (pos t) (k * n)) (difference k (get_or xs (suc i) 0) (get_or xs i 0))
    ∙ ratio-cancel k (pos (get_or xs (suc i) 0 - get_or xs i 0)) n some
  where
    none : (k : ℕ) → k * 0 ≡ 0
    none k = omega arith

    difference : (k a b : ℕ) → k * a - k * b ≡ k * (a - b)
    difference k a b = by_order (below_or_not a b)
      where
        by_order : (a ≤ b) ⊎ (b < a) → k * a - k * b ≡ k * (a - b)
        by_order (inl h) = let m : k * a ≤ k * b = mul-le-mul_left k h in let e : a - b ≡ 0 = omega arith in let y : k * a - k * b ≡ 0 = omega arith in
            y ∙ sym (ap (λ (t : ℕ). k * t) e ∙ none k)
        by_order (inr h) = let e : k * a ≡ k * ((a - b) + b) = ap (λ (t : ℕ). k * t) (omega arith) in omega arith

same_reach : (k n : ℕ) (xs : List ℕ) (c h i : ℕ) → 0 < k → reach (times k xs) (k * n * c) (k * n * h) i ≡ reach xs (n * c) (n * h) i
same_reach k n xs c h i some =
    (λ t. le_same k (2 * (n * c)) (get_or xs i 0 + get_or xs (suc i) 0) (2 * (k * n * c)) (get_or (times k xs) i 0 + get_or (times k xs) (suc i) 0) some (twice k n c) middle t
    && lt_same k (get_or xs i 0 + get_or xs (suc i) 0) (2 * (n * h)) (get_or (times k xs) i 0 + get_or (times k xs) (suc i) 0) (2 * (k * n * h)) some middle (twice k n h) t)
  where
    twice : (k n c : ℕ) → 2 * (k * n * c) ≡ k * (2 * (n * c))
    twice k n c = omega arith

    added : (k a b : ℕ) → k * a + k * b ≡ k * (a + b)
    added k a b = omega arith

    middle : get_or (times k xs) i 0 + get_or (times k xs) (suc i) 0 ≡ k * (get_or xs i 0 + get_or xs (suc i) 0)
    middle = (λ t. times_at k xs i t + times_at k xs (suc i) t) ∙ added k (get_or xs i 0) (get_or xs (suc i) 0)

pub mesh_rescaled : (s : Scene) (r : Refinement) (k : ℕ) → 0 < k → mesh s (rescaled k r) ≡ mesh s r
mesh_rescaled s r k some = λ t. record {
  cells = λ b. length-map (r.lines b) (λ x. k * x) t - 1;
  width = λ b i. same_width k r.scale (r.lines b) i some t;
  occupant = λ i j k. filled i j k t;
  conductivity = s.conductivity;
}
  where
    filled : (i j l : ℕ) → occupant s (rescaled k r) i j l ≡ occupant s r i j l
    filled i j l = ap (option_map (λ b. b.content)) (find_cong (holds_middle (rescaled k r) i j l) (holds_middle r i j l) s.boxes
        (λ b there. λ t. same_reach k r.scale (r.lines X) (low X b) (high X b) i some t && same_reach k r.scale (r.lines Y) (low Y b) (high Y b) j some t && same_reach k r.scale (r.lines Z) (low Z b) (high Z b) l some t))

-- It is a refinement --

contains_times : (k : ℕ) (xs : List ℕ) (c : ℕ) → Contains xs c → Contains (times k xs) (k * c)
contains_times k xs c at = (at.0, inside, get_or_default (times k xs) at.0 (k * c) 0 inside ∙ times_at k xs at.0 ∙ ap (λ (t : ℕ). k * t) (get_or_default xs at.0 0 c at.1 ∙ at.2))
  where
    inside : at.0 < length (times k xs)
    inside = omega (arith, at.1, length-map xs (λ x. k * x))

record Multiple (k : ℕ) (xs : List ℕ) (p : ℕ) : Type 0 where
  of : ℕ
  is : p ≡ k * of
  there : Contains xs of

contains_from_times : (k : ℕ) (xs : List ℕ) (p : ℕ) → Contains (times k xs) p → Multiple k xs p
contains_from_times k xs p at = record {
  of = get_or xs at.0 0;
  is = sym (get_or_default (times k xs) at.0 0 p at.1 ∙ at.2) ∙ times_at k xs at.0;
  there = (at.0, omega (arith, at.1, length-map xs (λ x. k * x)), get_or_default xs at.0 (get_or xs at.0 0) 0 (omega (arith, at.1, length-map xs (λ x. k * x))));
}

pub refines_rescaled : (s : Scene) (r : Refinement) (k : ℕ) → 0 < k → Refines s r → Refines s (rescaled k r)
refines_rescaled s r k some refines = record {
  scaled = one-le-mul some refines.scaled;
  rising = λ a i h. let inside : i + 1 < length (r.lines a) = omega (arith, h, length-map (r.lines a) (λ x. k * x)) in
      let below : k * line r a i < k * line r a (i + 1) = lt_times k (line r a i) (line r a (i + 1)) some (refines.rising a i inside) in
      omega (arith, times_at k (r.lines a) i, times_at k (r.lines a) (i + 1));
  has_lows = λ a b there. subst (Contains (times k (r.lines a))) (turned k r.scale (low a b)) (contains_times k (r.lines a) (r.scale * low a b) (refines.has_lows a b there));
  has_highs = λ a b there. subst (Contains (times k (r.lines a))) (turned k r.scale (high a b)) (contains_times k (r.lines a) (r.scale * high a b) (refines.has_highs a b there));
  from_hull = λ a p there. let m : Multiple k (r.lines a) p = contains_from_times k (r.lines a) p there in
      let any : Any (λ b. r.scale * low a b ≤ m.of) s.boxes = refines.from_hull a m.of m.there in
      (any.0, any.1, any.2, any.3, at_most k r.scale (low a any.1) m.of p m.is any.4);
  to_hull = λ a p there. let m : Multiple k (r.lines a) p = contains_from_times k (r.lines a) p there in
      let any : Any (λ b. m.of ≤ r.scale * high a b) s.boxes = refines.to_hull a m.of m.there in
      (any.0, any.1, any.2, any.3, at_least k r.scale (high a any.1) m.of p m.is any.4);
}
  where
    turned : (k n c : ℕ) → k * (n * c) ≡ k * n * c
    turned k n c = omega arith

    at_most : (k n c o p : ℕ) → p ≡ k * o → n * c ≤ o → k * n * c ≤ p
    at_most k n c o p e h = let m : k * (n * c) ≤ k * o = mul-le-mul_left k h in omega arith

    at_least : (k n c o p : ℕ) → p ≡ k * o → o ≤ n * c → p ≤ k * n * c
    at_least k n c o p e h = let m : k * o ≤ k * (n * c) = mul-le-mul_left k h in omega arith
