-- Bounds of whole numbers around rational ones, through sums and quotients.
use Rattle.std.proofs.Common.{◌≡◌, refl, sym, ap, ◌∙◌, subst, ℕ, ◌<◌, ℤ, pos, ◌*ℤ◌, ◌≤ℤ◌, ◌<ℤ◌, [], ◌∷◌, arith}
use Rattle.std.proofs.lemmas.Int.{ints}
use lib.IntN.{*ℤ_comm}
use Rattle.tb_math.specs.Division.{inverse, ◌/ℚ◌}
use Rattle.tb_math.specs.Rational.{ℚ, int, one_over, ratio, ◌+ℚ◌, ◌*ℚ◌, ◌≤ℚ◌, ◌<ℚ◌}
use Rattle.tb_math.specs.Sums.{total}
use Rattle.tb_math.proofs.DivisionLaws.{inverse-int, inverse-mul, inverse-nonneg, inverse-positive}
use Rattle.tb_math.proofs.RationalLaws.{*ℚ_comm, int-add, int-mul, one_over_cancel}
use Rattle.tb_math.proofs.RationalOrder.{≤ℚ-add, ≤ℚ-int, ≤ℚ-one_over, ≤ℚ-refl, ≤ℚ-trans}
use Rattle.tb_math.proofs.RationalProducts.{≤ℚ-mul, cancel_le_ℚ}
use Rattle.tb_math.proofs.StrictOrder.{<ℚ-int, <ℚ-≤, <-≤-trans, int-≤}
use Rattle.tb_math.proofs.SumLaws.{sum-relates}
use Rattle.tb_math.proofs.ReadRationals.{by_given, by_reading, reading, none, given}
use Rattle.tb_numbers.specs.Quotients.{ceiling, floor}
use Rattle.tb_numbers.proofs.QuotientLaws.{ceiling_brackets, floor_brackets, floor_at_most_ceiling, floor_not_negative}
use Rattle.tb_planar.specs.declared.bounds.Bounds.{Bounds}
use Rattle.tb_planar.specs.Bounds as B
use Rattle.tb_planar.specs.Bounds.{Encloses, divided, exactly, over, plus, quotient, times}

-- ---- quotients

times_ratio : (n : ℤ) (d : ℕ) → 0 < d → int (pos d) *ℚ ratio n d ≡ int n
times_ratio n d h = by_given {atoms = int n ∷ int (pos d) ∷ one_over d ∷ []} (search reading) (search reading)
    (given (int n) (int (pos d) *ℚ one_over d) (int (pos 1)) (search reading) (search reading) (search reading) (one_over_cancel d h) none) refl

below_ratio : (f n : ℤ) (d : ℕ) → 0 < d → (f *ℤ pos d) ≤ℤ n → int f ≤ℚ ratio n d
below_ratio f n d h l =
    let e = *ℤ_comm (pos d) f in
    cancel_le_ℚ d (int f) (ratio n d) h (subst (λ (t : ℚ). int (pos d) *ℚ int f ≤ℚ t) (sym (times_ratio n d h))
    (subst (λ (t : ℚ). t ≤ℚ int n) (int-mul (pos d) f) (≤ℚ-int (pos d *ℤ f) n (omega (arith, ints, l, e)))))

above_ratio : (f n : ℤ) (d : ℕ) → 0 < d → n ≤ℤ (f *ℤ pos d) → ratio n d ≤ℚ int f
above_ratio f n d h l =
    let e = *ℤ_comm (pos d) f in
    cancel_le_ℚ d (ratio n d) (int f) h (subst (λ (t : ℚ). t ≤ℚ int (pos d) *ℚ int f) (sym (times_ratio n d h))
    (subst (λ (t : ℚ). int n ≤ℚ t) (int-mul (pos d) f) (≤ℚ-int n (pos d *ℤ f) (omega (arith, ints, l, e)))))

positive : (d : ℕ) → 0 < d → pos 0 <ℤ pos d
positive d h = omega (arith, ints)

pub quotient-encloses : (n : ℤ) (d : ℕ) → 0 < d → Encloses (quotient n (pos d)) (ratio n d)
quotient-encloses n d h = record {
  above_low = below_ratio (floor n (pos d)) n d h (floor_brackets n (pos d) (positive d h)).at_most;
  below_high = above_ratio (ceiling n (pos d)) n d h (ceiling_brackets n (pos d) (positive d h)).at_least;
}

-- ---- sums and multiples

pub exactly-encloses : (z : ℤ) → Encloses (exactly z) (int z)
exactly-encloses z = record { above_low = ≤ℚ-refl (int z); below_high = ≤ℚ-refl (int z) }

pub plus-encloses : (a b : Bounds) (p q : ℚ) → Encloses a p → Encloses b q → Encloses (plus a b) (p +ℚ q)
plus-encloses a b p q h k = record {
  above_low = subst (λ (t : ℚ). t ≤ℚ p +ℚ q) (sym (int-add a.low b.low)) (≤ℚ-add (int a.low) p (int b.low) q h.above_low k.above_low);
  below_high = subst (λ (t : ℚ). p +ℚ q ≤ℚ t) (sym (int-add a.high b.high)) (≤ℚ-add p (int a.high) q (int b.high) h.below_high k.below_high);
}

pub total-encloses : (n : ℕ) (f : ℕ → Bounds) (g : ℕ → ℚ) → ((i : ℕ) → i < n → Encloses (f i) (g i)) → Encloses (B.total n f) (total n g)
total-encloses n f g h = sum-relates (exactly (pos 0)) plus (int (pos 0)) ◌+ℚ◌ Encloses (exactly-encloses (pos 0)) (λ a b p q k l. plus-encloses a b p q k l) n f g h

pub times-encloses : (k : ℕ) (b : Bounds) (q : ℚ) → Encloses b q → Encloses (times k b) (int (pos k) *ℚ q)
times-encloses k b q h =
    let n : int (pos 0) ≤ℚ int (pos k) = ≤ℚ-int (pos 0) (pos k) (omega (arith, ints)) in
    record {
      above_low = subst (λ (t : ℚ). t ≤ℚ int (pos k) *ℚ q) (sym (int-mul (pos k) b.low)) (≤ℚ-mul (int (pos k)) (int b.low) q n h.above_low);
      below_high = subst (λ (t : ℚ). int (pos k) *ℚ q ≤ℚ t) (sym (int-mul (pos k) b.high)) (≤ℚ-mul (int (pos k)) q (int b.high) n h.below_high);
    }

pub divided-encloses : (b : Bounds) (n : ℕ) (q : ℚ) → 0 < n → Encloses b q → Encloses (divided b n) (q *ℚ one_over n)
divided-encloses b n q h k = record {
  above_low = ≤ℚ-trans (int (floor b.low (pos n))) (ratio b.low n) (q *ℚ one_over n)
      (below_ratio (floor b.low (pos n)) b.low n h (floor_brackets b.low (pos n) (positive n h)).at_most) (scaled (int b.low) q k.above_low);
  below_high = ≤ℚ-trans (q *ℚ one_over n) (ratio b.high n) (int (ceiling b.high (pos n))) (scaled q (int b.high) k.below_high)
      (above_ratio (ceiling b.high (pos n)) b.high n h (ceiling_brackets b.high (pos n) (positive n h)).at_least);
}
  where
    scaled : (x y : ℚ) → x ≤ℚ y → x *ℚ one_over n ≤ℚ y *ℚ one_over n
    scaled x y l = subst (λ (t : ℚ). t ≤ℚ y *ℚ one_over n) (*ℚ_comm (one_over n) x)
        (subst (λ (t : ℚ). one_over n *ℚ x ≤ℚ t) (*ℚ_comm (one_over n) y) (≤ℚ-mul (one_over n) x y (≤ℚ-one_over n) l))

-- ---- over a positive number

back : (x q : ℚ) → int (pos 0) <ℚ q → inverse q *ℚ (x *ℚ q) ≡ x
back x q h = by_given {atoms = x ∷ q ∷ inverse q ∷ []} (search reading) (search reading)
    (given x (q *ℚ inverse q) (int (pos 1)) (search reading) (search reading) (search reading) (inverse-positive q h) none) refl

below_over : (x n q : ℚ) → int (pos 0) <ℚ q → x *ℚ q ≤ℚ n → x ≤ℚ n /ℚ q
below_over x n q h l = subst (λ (t : ℚ). x ≤ℚ t) (*ℚ_comm (inverse q) n)
    (subst (λ (t : ℚ). t ≤ℚ inverse q *ℚ n) (back x q h) (≤ℚ-mul (inverse q) (x *ℚ q) n (inverse-nonneg q (<ℚ-≤ (int (pos 0)) q h)) l))

pub above_over : (x n q : ℚ) → int (pos 0) <ℚ q → n ≤ℚ x *ℚ q → n /ℚ q ≤ℚ x
above_over x n q h l = subst (λ (t : ℚ). t ≤ℚ x) (*ℚ_comm (inverse q) n)
    (subst (λ (t : ℚ). inverse q *ℚ n ≤ℚ t) (back x q h) (≤ℚ-mul (inverse q) n (x *ℚ q) (inverse-nonneg q (<ℚ-≤ (int (pos 0)) q h)) l))

pub over-encloses : (n : ℕ) (b : Bounds) (q : ℚ) → pos 0 <ℤ b.low → Encloses b q → Encloses (over (pos n) b) (int (pos n) /ℚ q)
over-encloses n b q h k = record {
  above_low = below_over (int f) (int (pos n)) q q_positive
      (≤ℚ-trans (int f *ℚ q) (int f *ℚ int b.high) (int (pos n)) (≤ℚ-mul (int f) q (int b.high) (≤ℚ-int (pos 0) f f_positive) k.below_high)
      (subst (λ (t : ℚ). t ≤ℚ int (pos n)) (int-mul f b.high) (≤ℚ-int (f *ℤ b.high) (pos n) (floor_brackets (pos n) b.high high_positive).at_most)));
  below_high = above_over (int c) (int (pos n)) q q_positive
      (≤ℚ-trans (int (pos n)) (int c *ℚ int b.low) (int c *ℚ q)
      (subst (λ (t : ℚ). int (pos n) ≤ℚ t) (int-mul c b.low) (≤ℚ-int (pos n) (c *ℤ b.low) (ceiling_brackets (pos n) b.low h).at_least))
      (≤ℚ-mul (int c) (int b.low) q (≤ℚ-int (pos 0) c c_positive) k.above_low));
}
  where
    q_positive : int (pos 0) <ℚ q
    q_positive = <-≤-trans (int (pos 0)) (int b.low) q (<ℚ-int (pos 0) b.low h) k.above_low

    high_positive : pos 0 <ℤ b.high
    high_positive = let l = int-≤ b.low b.high (≤ℚ-trans (int b.low) q (int b.high) k.above_low k.below_high) in omega (arith, ints, h, l)

    f : ℤ
    f = floor (pos n) b.high

    f_positive : pos 0 ≤ℤ f
    f_positive = floor_not_negative (pos n) b.high high_positive (omega (arith, ints))

    c : ℤ
    c = ceiling (pos n) b.low

    c_positive : pos 0 ≤ℤ c
    c_positive = omega (arith, ints, floor_not_negative (pos n) b.low h (omega (arith, ints)), floor_at_most_ceiling (pos n) b.low h)

-- n / (k q) is m / q where n / k is m
pub over_scaled : (n k m : ℕ) (q : ℚ) → int (pos n) *ℚ one_over k ≡ int (pos m) → int (pos n) /ℚ (int (pos k) *ℚ q) ≡ int (pos m) *ℚ inverse q
over_scaled n k m q e =
    ap (λ (t : ℚ). int (pos n) *ℚ t) (inverse-mul (int (pos k)) q ∙ ap (λ (t : ℚ). t *ℚ inverse q) (inverse-int k))
    ∙ regrouped (int (pos n)) (one_over k) (inverse q) ∙ ap (λ (t : ℚ). t *ℚ inverse q) e
  where
    regrouped : (x y z : ℚ) → x *ℚ (y *ℚ z) ≡ x *ℚ y *ℚ z
    regrouped x y z = by_reading {atoms = x ∷ y ∷ z ∷ []} (search reading) (search reading) refl
