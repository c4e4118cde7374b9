-- A coupling coefficient lies in the interval of its pair.
use Rattle.std.proofs.Common.{◌≡◌, refl, sym, subst, ℕ, suc, ◌+◌, ◌*◌, ◌^◌, ◌<◌, ◌≤◌, ℤ, pos, ◌+ℤ◌, ◌-ℤ◌, ◌*ℤ◌, [], ◌∷◌, length, unsigned_abs, arith, List}
use Rattle.std.proofs.lemmas.Int.{ints}
use Rattle.std.proofs.lemmas.Nat.{pow_below}
use Rattle.std.proofs.Math.Pow.{pow_mono}
use lib.IntN.{*ℤ_comm}
use Rattle.tb_math.specs.Ceiling.{RoundsDown, RoundsUp}
use Rattle.tb_math.specs.Rational.{ℚ, int, one_over, ◌+ℚ◌, ◌-ℚ◌, ◌*ℚ◌, ◌≤ℚ◌, neg_ℚ}
use Rattle.tb_math.proofs.RationalLaws.{int-add, int-difference, int-mul, one_over_cancel}
use Rattle.tb_math.proofs.RationalOrder.{≤ℚ-add, ≤ℚ-int, ≤ℚ-trans}
use Rattle.tb_math.proofs.RationalProducts.{cancel_le_ℚ, ≤ℚ-neg}
use Rattle.tb_math.proofs.ReadRationals.{by_given, given, none, reading}
use Rattle.tb_detail.specs.declared.Detail.{Detail}
use Rattle.tb_detail.specs.Limits.{InLimits}
use Rattle.tb_model.specs.Energy.{bound, energy}
use Rattle.tb_model.specs.Refinement.{mesh, scene_of}
use Rattle.tb_numbers.specs.Quotients.{ceiling, floor}
use Rattle.tb_numbers.proofs.QuotientLaws.{ceiling_brackets, floor_brackets}
use Rattle.tb_model.specs.Soundness.{IsSound}
use Rattle.tb_terms.specs.declared.Interval.{Interval}
use Rattle.tb_conduct.specs.Coupling.{AreSound, IsSoundPair, alone, together}
use Rattle.tb_conduct.specs.Pairs.{AreWithin, highest, interval_of, lowest}
use Rattle.tb_conduct.proofs.Sets.{sets_sound}

-- ---- half of a whole number, rounded

twice_half : (x : ℚ) → int (pos 2) *ℚ (x *ℚ one_over 2) ≡ x
twice_half x = by_given {atoms = x ∷ one_over 2 ∷ []} (search reading) (search reading)
    (given x (int (pos 2) *ℚ one_over 2) (int (pos 1)) (search reading) (search reading) (search reading) (one_over_cancel 2 (omega arith)) none) refl

pub half_least : (z : ℤ) (x : ℚ) → int z ≤ℚ x → int (floor z (pos 2)) ≤ℚ x *ℚ one_over 2
half_least z x h =
    let f = floor z (pos 2) in
    let l = (floor_brackets z (pos 2) (omega (arith, ints))).at_most in
    let e = *ℤ_comm (pos 2) f in
    cancel_le_ℚ 2 (int f) (x *ℚ one_over 2) (omega arith) (subst (λ (t : ℚ). int (pos 2) *ℚ int f ≤ℚ t) (sym (twice_half x))
    (subst (λ (t : ℚ). t ≤ℚ x) (int-mul (pos 2) f) (≤ℚ-trans (int (pos 2 *ℤ f)) (int z) x (≤ℚ-int (pos 2 *ℤ f) z (omega (arith, ints, l, e))) h)))

pub half_most : (z : ℤ) (x : ℚ) → x ≤ℚ int z → x *ℚ one_over 2 ≤ℚ int (ceiling z (pos 2))
half_most z x h =
    let c = ceiling z (pos 2) in
    let l = (ceiling_brackets z (pos 2) (omega (arith, ints))).at_least in
    let e = *ℤ_comm (pos 2) c in
    cancel_le_ℚ 2 (x *ℚ one_over 2) (int c) (omega arith) (subst (λ (t : ℚ). t ≤ℚ int (pos 2) *ℚ int c) (sym (twice_half x))
    (subst (λ (t : ℚ). x ≤ℚ t) (int-mul (pos 2) c) (≤ℚ-trans x (int z) (int (pos 2 *ℤ c)) h (≤ℚ-int z (pos 2 *ℤ c) (omega (arith, ints, l, e))))))

-- half of a number of size 2·most is of size most, whichever way it is rounded
half_down_size : (most : ℕ) (n q : ℤ) → unsigned_abs n ≤ 2 * most → RoundsDown n (pos 2) q → unsigned_abs q ≤ most
half_down_size most n q h k = let l = k.at_most in let m = k.near in omega (arith, ints, h, l, m)

half_up_size : (most : ℕ) (n q : ℤ) → unsigned_abs n ≤ 2 * most → RoundsUp n (pos 2) q → unsigned_abs q ≤ most
half_up_size most n q h k = let l = k.at_least in let m = k.near in omega (arith, ints, h, l, m)

-- ---- two numbers less a third

whole : (a b c : ℤ) → int (a +ℤ b -ℤ c) ≡ int a +ℚ int b -ℚ int c
whole a b c = subst (λ (t : ℚ). int (a +ℤ b -ℤ c) ≡ t -ℚ int c) (int-add a b) (int-difference (a +ℤ b) c)

pub least : (a b c : ℤ) (p q r : ℚ) → int a ≤ℚ p → int b ≤ℚ q → r ≤ℚ int c → int (a +ℤ b -ℤ c) ≤ℚ p +ℚ q -ℚ r
least a b c p q r h k l = subst (λ (t : ℚ). t ≤ℚ p +ℚ q -ℚ r) (sym (whole a b c))
    (≤ℚ-add (int a +ℚ int b) (p +ℚ q) (neg_ℚ (int c)) (neg_ℚ r) (≤ℚ-add (int a) p (int b) q h k) (≤ℚ-neg r (int c) l))

pub most : (a b c : ℤ) (p q r : ℚ) → p ≤ℚ int a → q ≤ℚ int b → int c ≤ℚ r → p +ℚ q -ℚ r ≤ℚ int (a +ℤ b -ℤ c)
most a b c p q r h k l = subst (λ (t : ℚ). p +ℚ q -ℚ r ≤ℚ t) (sym (whole a b c))
    (≤ℚ-add (p +ℚ q) (int a +ℚ int b) (neg_ℚ r) (neg_ℚ (int c)) (≤ℚ-add p (int a) q (int b) h k) (≤ℚ-neg (int c) r l))

-- ---- the pair

pub pair_within : (most : ℕ) (first second both : Interval) → AreWithin (2 * most) first → AreWithin (2 * most) second → AreWithin (2 * most) both →
    AreWithin (3 * most) (record { lo = floor (first.lo +ℤ second.lo -ℤ both.hi) (pos 2); hi = ceiling (first.hi +ℤ second.hi -ℤ both.lo) (pos 2) })
pair_within most first second both f s b = record {
  low = half_down_size (3 * most) (first.lo +ℤ second.lo -ℤ both.hi) _ (of_three first.lo second.lo both.hi f.low s.low b.high) (floor_brackets _ (pos 2) (omega (arith, ints)));
  high = half_up_size (3 * most) (first.hi +ℤ second.hi -ℤ both.lo) _ (of_three first.hi second.hi both.lo f.high s.high b.low) (ceiling_brackets _ (pos 2) (omega (arith, ints)));
}
  where
    of_three : (x y z : ℤ) → unsigned_abs x ≤ 2 * most → unsigned_abs y ≤ 2 * most → unsigned_abs z ≤ 2 * most → unsigned_abs (x +ℤ y -ℤ z) ≤ 2 * (3 * most)
    of_three x y z h k l = omega (arith, ints, h, k, l)

use_sets : (i j n : ℕ) → i < j → j < n → (2 ^ i < 2 ^ n) × (2 ^ j < 2 ^ n) × (2 ^ i + 2 ^ j < 2 ^ n)
use_sets i j n h k =
    let a = pow_below i j h in
    let b = pow_below j n k in
    let c : 2 ^ suc j ≤ 2 ^ n = pow_mono (omega arith) in
    (omega arith, b, omega arith)

pub pair_sound : (d : Detail) (intervals : List Interval) (i j : ℕ) → InLimits d → 2 ≤ length d.environments → length d.environments ≤ 4 → AreSound d intervals → i < j → j < length d.environments →
    IsSoundPair (scene_of d) i j (lowest (length d.environments) intervals i j) (highest (length d.environments) intervals i j)
pair_sound d intervals i j limits low high sound ordered known = record {
  lower = λ r r' r'' T T' q refines refines' refines'' balanced.
      let p = energy (mesh (scene_of d) r) (alone i) T in
      let p' = energy (mesh (scene_of d) r') (alone j) T' in
      let b = bound (mesh (scene_of d) r'') (together i j) q in
      half_least (first.lo +ℤ second.lo -ℤ both.hi) (p +ℚ p' -ℚ b)
      (least first.lo second.lo both.hi p p' b ((sound_of_first r refines).fields T) ((sound_of_second r' refines').fields T') ((sound_of_both r'' refines'').fluxes q balanced));
  upper = λ r r' r'' q q' T refines refines' refines'' balanced balanced'.
      let p = bound (mesh (scene_of d) r) (alone i) q in
      let p' = bound (mesh (scene_of d) r') (alone j) q' in
      let b = energy (mesh (scene_of d) r'') (together i j) T in
      half_most (first.hi +ℤ second.hi -ℤ both.lo) (p +ℚ p' -ℚ b)
      (most first.hi second.hi both.lo p p' b ((sound_of_first r refines).fluxes q balanced) ((sound_of_second r' refines').fluxes q' balanced') ((sound_of_both r'' refines'').fields T));
}
  where
    known_sets : (2 ^ i < 2 ^ length d.environments) × (2 ^ j < 2 ^ length d.environments) × (2 ^ i + 2 ^ j < 2 ^ length d.environments)
    known_sets = use_sets i j (length d.environments) ordered known

    first : Interval
    first = interval_of (length d.environments) intervals (2 ^ i)

    second : Interval
    second = interval_of (length d.environments) intervals (2 ^ j)

    both : Interval
    both = interval_of (length d.environments) intervals (2 ^ i + 2 ^ j)

    sound_of_first : IsSound (scene_of d) (alone i) first.lo first.hi
    sound_of_first = sets_sound d intervals (2 ^ i) limits low high sound known_sets.0

    sound_of_second : IsSound (scene_of d) (alone j) second.lo second.hi
    sound_of_second = sets_sound d intervals (2 ^ j) limits low high sound known_sets.1

    sound_of_both : IsSound (scene_of d) (together i j) both.lo both.hi
    sound_of_both = sets_sound d intervals (2 ^ i + 2 ^ j) limits low high sound known_sets.2
