-- the number of steps that the code finds, up or down, is at the least value
use mathlib.Core.Path.{◌≡◌, refl, sym, subst}
use mathlib.Core.List.{[], ◌∷◌}
use Prim.Native.Nat.{ℕ, zero, suc, ◌+◌, ◌*◌, ◌<◌, ◌≤◌}
use native.Mathlib.Omega.{arith}
use Rattle.std.specs.Prelude.{unsigned_abs}
use Rattle.std.proofs.lemmas.Int.{ints}
use lib.IntN.{ℤ, pos, negsuc, ◌+ℤ◌, ◌-ℤ◌, neg_ℤ}
use lib.Signed.{◌≤ℤ◌, ◌<ℤ◌}
use Rattle.tb_math.proofs.ReadIntegers.{by_reading, reading}
use Rattle.tb_weighted.specs.Least.{IsNearestLeast, parabola}
use Rattle.tb_weighted.proofs.Slopes.{Turns, turns_least, up_slope, down_slope}

up_at : (k n : ℕ) (b : ℤ) → up_slope (pos k) b (pos n) ≡ pos (k * (2 * n + 1)) +ℤ b
up_at k n b = by_reading {atoms = pos k ∷ pos n ∷ b ∷ []} (search reading depth 60 fits 100000) (search reading depth 60 fits 100000) refl

down_at : (k n : ℕ) (b : ℤ) → down_slope (pos k) b (pos n) ≡ pos (k * (2 * n)) -ℤ pos k +ℤ b
down_at k n b = by_reading {atoms = pos k ∷ pos n ∷ b ∷ []} (search reading depth 60 fits 100000) (search reading depth 60 fits 100000) refl

up_under : (k n : ℕ) (b : ℤ) → up_slope (pos k) b (neg_ℤ (pos n)) ≡ pos k -ℤ pos (k * (2 * n)) +ℤ b
up_under k n b = by_reading {atoms = pos k ∷ pos n ∷ b ∷ []} (search reading depth 60 fits 100000) (search reading depth 60 fits 100000) refl

down_under : (k n : ℕ) (b : ℤ) → down_slope (pos k) b (neg_ℤ (pos n)) ≡ b -ℤ pos (k * (2 * n + 1))
down_under k n b = by_reading {atoms = pos k ∷ pos n ∷ b ∷ []} (search reading depth 60 fits 100000) (search reading depth 60 fits 100000) refl

nonneg : (k : ℕ) → pos 0 ≤ℤ pos k
nonneg k = omega (arith, ints)

upward_pos : (k m h n : ℕ) (lo : ℤ) → lo ≤ℤ pos 0 → n ≤ h → (0 < n → k * (2 * n) < suc m + k) → (n < h → suc m ≤ k * (2 * n + 1)) → Turns (pos k) (negsuc m) lo (pos h) (pos n)
upward_pos k m h n lo l w worth enough = record {
  above = omega (arith, ints);
  below = omega (arith, ints);
  rise = λ r. subst (λ (z : ℤ). pos 0 ≤ℤ z) (sym (up_at k n (negsuc m))) (let r' : n < h = omega (arith, ints) in let e = enough r' in omega (arith, ints));
  fall = λ r. subst (λ (z : ℤ). z ≤ℤ pos 0) (sym (down_at k n (negsuc m))) (down n (k * (2 * n)) worth refl);
  back_up = λ r. absurd (omega (arith, ints));
  back_down = λ r. subst (λ (z : ℤ). z <ℤ pos 0) (sym (down_at k n (negsuc m))) (let r' : 0 < n = omega (arith, ints) in let e = worth r' in omega (arith, ints));
}
  where
    down : (n p : ℕ) → (0 < n → p < suc m + k) → p ≡ k * (2 * n) → (pos p -ℤ pos k +ℤ negsuc m) ≤ℤ pos 0
    down zero p f e = let e' : p ≡ 0 = omega (arith, e) in omega (arith, ints)
    down (suc n) p f e = let h = f (omega arith) in omega (arith, ints)

pub upward : (a b lo hi : ℤ) (n : ℕ) → pos 0 ≤ℤ a → b <ℤ pos 0 → lo ≤ℤ pos 0 → pos 0 ≤ℤ hi → n ≤ unsigned_abs hi
    → (0 < n → unsigned_abs a * (2 * n) < unsigned_abs b + unsigned_abs a) → (n < unsigned_abs hi → unsigned_abs b ≤ unsigned_abs a * (2 * n + 1))
    → IsNearestLeast (parabola a b) lo hi (pos 0) (pos n)
upward (pos k) (negsuc m) lo (pos h) n ha hb l u w worth enough = turns_least (pos k) (negsuc m) lo (pos h) (pos n) ha (upward_pos k m h n lo l w worth enough)
upward (negsuc k) b lo hi n ha hb l u w worth enough = absurd (omega (arith, ints))
upward (pos k) (pos m) lo hi n ha hb l u w worth enough = absurd (omega (arith, ints))
upward (pos k) (negsuc m) lo (negsuc h) n ha hb l u w worth enough = absurd (omega (arith, ints))

downward_pos : (k m n : ℕ) (lo hi : ℤ) → lo ≤ℤ pos 0 → pos 0 ≤ℤ hi → n ≤ unsigned_abs lo → (0 < n → k * (2 * n) < m + k) → (n < unsigned_abs lo → m ≤ k * (2 * n + 1)) → Turns (pos k) (pos m) lo hi (neg_ℤ (pos n))
downward_pos k m n lo hi l u w worth enough = record {
  above = omega (arith, ints);
  below = omega (arith, ints);
  rise = λ r. subst (λ (z : ℤ). pos 0 ≤ℤ z) (sym (up_under k n (pos m))) (up n (k * (2 * n)) worth refl);
  fall = λ r. subst (λ (z : ℤ). z ≤ℤ pos 0) (sym (down_under k n (pos m))) (let r' : n < unsigned_abs lo = omega (arith, ints) in let e = enough r' in omega (arith, ints));
  back_up = λ r. subst (λ (z : ℤ). pos 0 <ℤ z) (sym (up_under k n (pos m))) (let r' : 0 < n = omega (arith, ints) in let e = worth r' in omega (arith, ints));
  back_down = λ r. absurd (omega (arith, ints));
}
  where
    up : (n p : ℕ) → (0 < n → p < m + k) → p ≡ k * (2 * n) → pos 0 ≤ℤ (pos k -ℤ pos p +ℤ pos m)
    up zero p f e = let e' : p ≡ 0 = omega (arith, e) in omega (arith, ints)
    up (suc n) p f e = let h = f (omega arith) in omega (arith, ints)

pub downward : (a b lo hi : ℤ) (n : ℕ) → pos 0 ≤ℤ a → pos 0 ≤ℤ b → lo ≤ℤ pos 0 → pos 0 ≤ℤ hi → n ≤ unsigned_abs lo
    → (0 < n → unsigned_abs a * (2 * n) < unsigned_abs b + unsigned_abs a) → (n < unsigned_abs lo → unsigned_abs b ≤ unsigned_abs a * (2 * n + 1))
    → IsNearestLeast (parabola a b) lo hi (pos 0) (neg_ℤ (pos n))
downward (pos k) (pos m) lo hi n ha hb l u w worth enough = turns_least (pos k) (pos m) lo hi (neg_ℤ (pos n)) ha (downward_pos k m n lo hi l u w worth enough)
downward (negsuc k) b lo hi n ha hb l u w worth enough = absurd (omega (arith, ints))
downward (pos k) (negsuc m) lo hi n ha hb l u w worth enough = absurd (omega (arith, ints))

pub nearest_at : (q : ℤ → ℤ) (lo hi p x y : ℤ) → x ≡ y → IsNearestLeast q lo hi p x → IsNearestLeast q lo hi p y
nearest_at q lo hi p x y e k = subst (λ (z : ℤ). IsNearestLeast q lo hi p z) e k

-- the same as `upward` and `downward`, where the absolute values have names
pub upward_by : (a b lo hi : ℤ) (k m h n : ℕ) → k ≡ unsigned_abs a → m ≡ unsigned_abs b → h ≡ unsigned_abs hi → pos 0 ≤ℤ a → b <ℤ pos 0 → lo ≤ℤ pos 0 → pos 0 ≤ℤ hi → n ≤ h
    → (0 < n → k * (2 * n) < m + k) → (n < h → m ≤ k * (2 * n + 1)) → IsNearestLeast (parabola a b) lo hi (pos 0) (pos n)
upward_by a b lo hi k m h n ek em eh ha hb l u w worth enough = upward a b lo hi n ha hb l u (subst (λ (z : ℕ). n ≤ z) eh w)
    (subst (λ (z : ℕ). 0 < n → z * (2 * n) < unsigned_abs b + z) ek (subst (λ (z : ℕ). 0 < n → k * (2 * n) < z + k) em worth))
    (subst (λ (z : ℕ). n < z → unsigned_abs b ≤ unsigned_abs a * (2 * n + 1)) eh (subst (λ (z : ℕ). n < h → unsigned_abs b ≤ z * (2 * n + 1)) ek (subst (λ (z : ℕ). n < h → z ≤ k * (2 * n + 1)) em enough)))

pub downward_by : (a b lo hi : ℤ) (k m h n : ℕ) → k ≡ unsigned_abs a → m ≡ unsigned_abs b → h ≡ unsigned_abs lo → pos 0 ≤ℤ a → pos 0 ≤ℤ b → lo ≤ℤ pos 0 → pos 0 ≤ℤ hi → n ≤ h
    → (0 < n → k * (2 * n) < m + k) → (n < h → m ≤ k * (2 * n + 1)) → IsNearestLeast (parabola a b) lo hi (pos 0) (neg_ℤ (pos n))
downward_by a b lo hi k m h n ek em eh ha hb l u w worth enough = downward a b lo hi n ha hb l u (subst (λ (z : ℕ). n ≤ z) eh w)
    (subst (λ (z : ℕ). 0 < n → z * (2 * n) < unsigned_abs b + z) ek (subst (λ (z : ℕ). 0 < n → k * (2 * n) < z + k) em worth))
    (subst (λ (z : ℕ). n < z → unsigned_abs b ≤ unsigned_abs a * (2 * n + 1)) eh (subst (λ (z : ℕ). n < h → unsigned_abs b ≤ z * (2 * n + 1)) ek (subst (λ (z : ℕ). n < h → z ≤ k * (2 * n + 1)) em enough)))
