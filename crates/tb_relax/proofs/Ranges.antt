-- The range in which two ranges meet.
use Rattle.std.proofs.Common.{◌≡◌, ◌⊎◌, inl, inr, ◌*◌, ◌-◌, ◌^◌, arith, subst, sym}
use Rattle.std.proofs.lemmas.Int.{ints}
use mir.Syntax.{w64}
use mir.Val.{to_z, of_z}
use lib.IntN.{ℤ, pos, negsuc}
use lib.Signed.{◌≤ℤ◌}
use Rattle.tb_weighted.specs.Least.{IsNearestLeast, IsNearestLeastOf, parabola}

pub low_whole : (r x y : ℤ) → (r ≡ x) ⊎ (r ≡ y) → x ≤ℤ pos 0 → y ≤ℤ pos 0 → negsuc (4 * 10 ^ 12 - 1) ≤ℤ x → negsuc (4 * 10 ^ 12 - 1) ≤ℤ y → to_z w64 (of_z w64 r) ≡ r
low_whole r x y (inl e) a b c d = omega (arith, ints)
low_whole r x y (inr e) a b c d = omega (arith, ints)

pub high_whole : (r x y : ℤ) → (r ≡ x) ⊎ (r ≡ y) → pos 0 ≤ℤ x → pos 0 ≤ℤ y → x ≤ℤ pos (4 * 10 ^ 12) → y ≤ℤ pos (4 * 10 ^ 12) → to_z w64 (of_z w64 r) ≡ r
high_whole r x y (inl e) a b c d = omega (arith, ints)
high_whole r x y (inr e) a b c d = omega (arith, ints)

pub low_within : (r r' x y : ℤ) → r' ≡ r → (r ≡ x) ⊎ (r ≡ y) → x ≤ℤ pos 0 → y ≤ℤ pos 0 → negsuc (4 * 10 ^ 12 - 1) ≤ℤ x → negsuc (4 * 10 ^ 12 - 1) ≤ℤ y → (r' ≤ℤ pos 0) × (negsuc (4 * 10 ^ 12 - 1) ≤ℤ r')
low_within r r' x y e (inl h) a b c d = (omega (arith, ints), omega (arith, ints))
low_within r r' x y e (inr h) a b c d = (omega (arith, ints), omega (arith, ints))

pub high_within : (r r' x y : ℤ) → r' ≡ r → (r ≡ x) ⊎ (r ≡ y) → pos 0 ≤ℤ x → pos 0 ≤ℤ y → x ≤ℤ pos (4 * 10 ^ 12) → y ≤ℤ pos (4 * 10 ^ 12) → (pos 0 ≤ℤ r') × (r' ≤ℤ pos (4 * 10 ^ 12))
high_within r r' x y e (inl h) a b c d = (omega (arith, ints), omega (arith, ints))
high_within r r' x y e (inr h) a b c d = (omega (arith, ints), omega (arith, ints))

low_meets : (r x y t : ℤ) → (r ≡ x) ⊎ (r ≡ y) → x ≤ℤ t → y ≤ℤ t → r ≤ℤ t
low_meets r x y t (inl e) a b = omega (arith, ints)
low_meets r x y t (inr e) a b = omega (arith, ints)

high_meets : (r x y t : ℤ) → (r ≡ x) ⊎ (r ≡ y) → t ≤ℤ x → t ≤ℤ y → t ≤ℤ r
high_meets r x y t (inl e) a b = omega (arith, ints)
high_meets r x y t (inr e) a b = omega (arith, ints)

after : (x y z : ℤ) → x ≤ℤ y → y ≤ℤ z → x ≤ℤ z
after x y z a b = omega (arith, ints)

pub meets : (l l' h h' xl xh yl yh : ℤ) → l' ≡ l → h' ≡ h → xl ≤ℤ l → yl ≤ℤ l → (l ≡ xl) ⊎ (l ≡ yl) → h ≤ℤ xh → h ≤ℤ yh → (h ≡ xh) ⊎ (h ≡ yh) → (t : ℤ)
    → (((l' ≤ℤ t) × (t ≤ℤ h')) → ((xl ≤ℤ t) × (t ≤ℤ xh)) × ((yl ≤ℤ t) × (t ≤ℤ yh))) × ((((xl ≤ℤ t) × (t ≤ℤ xh)) × ((yl ≤ℤ t) × (t ≤ℤ yh))) → ((l' ≤ℤ t) × (t ≤ℤ h')))
meets l l' h h' xl xh yl yh el eh a b one c d other t = (forth, back)
  where
    at_low : l' ≤ℤ t → l ≤ℤ t
    at_low g = omega (arith, ints)

    at_high : t ≤ℤ h' → t ≤ℤ h
    at_high g = omega (arith, ints)

    as_low : l ≤ℤ t → l' ≤ℤ t
    as_low g = omega (arith, ints)

    as_high : t ≤ℤ h → t ≤ℤ h'
    as_high g = omega (arith, ints)

    forth : ((l' ≤ℤ t) × (t ≤ℤ h')) → ((xl ≤ℤ t) × (t ≤ℤ xh)) × ((yl ≤ℤ t) × (t ≤ℤ yh))
    forth (p, q) = ((after xl l t a (at_low p), after t h xh (at_high q) c), (after yl l t b (at_low p), after t h yh (at_high q) d))

    back : (((xl ≤ℤ t) × (t ≤ℤ xh)) × ((yl ≤ℤ t) × (t ≤ℤ yh))) → ((l' ≤ℤ t) × (t ≤ℤ h'))
    back ((p, q), (r, s)) = (as_low (low_meets l xl yl t one p r), as_high (high_meets h xh yh t other q s))

-- the least in a range is the least of what the range is
pub least_within : (a a' b b' lo lo' hi hi' t t' : ℤ) (W : ℤ → Type 0) → a' ≡ a → b' ≡ b → lo' ≡ lo → hi' ≡ hi → t' ≡ t → ((y : ℤ) → (((lo ≤ℤ y) × (y ≤ℤ hi)) → W y) × (W y → ((lo ≤ℤ y) × (y ≤ℤ hi))))
    → IsNearestLeast (parabola a' b') lo' hi' (pos 0) t → IsNearestLeastOf (parabola a b) W (pos 0) t'
least_within a a' b b' lo lo' hi hi' t t' W ea eb el eh et w h = subst (λ (z : ℤ). IsNearestLeastOf (parabola a b) W (pos 0) z) (sym et) (record {
  allowed = (w t).0 (k.above, k.below);
  least = λ y g. k.least y ((w y).1 g).0 ((w y).1 g).1;
  nearest = λ y g. k.nearest y ((w y).1 g).0 ((w y).1 g).1;
})
  where
    k : IsNearestLeast (parabola a b) lo hi (pos 0) t
    k = subst (λ (z : ℤ). IsNearestLeast (parabola z b) lo hi (pos 0) t) ea (subst (λ (z : ℤ). IsNearestLeast (parabola a' z) lo hi (pos 0) t) eb
        (subst (λ (z : ℤ). IsNearestLeast (parabola a' b') z hi (pos 0) t) el (subst (λ (z : ℤ). IsNearestLeast (parabola a' b') lo' z (pos 0) t) eh h)))
