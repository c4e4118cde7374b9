-- Resistances side by side: adding them layer by layer never gives more than adding them section by section.
use Rattle.std.proofs.Common.{◌≡◌, sym, ap, ◌∙◌, subst, ℕ, zero, suc, ◌<◌, pos, [], ◌∷◌, refl, arith}
use Rattle.tb_math.specs.Division.{inverse, ◌/ℚ◌}
use Rattle.tb_math.specs.Rational.{ℚ, int, neg_ℚ, ◌+ℚ◌, ◌*ℚ◌, ◌≤ℚ◌, ◌<ℚ◌}
use Rattle.tb_math.specs.Sums.{total}
use Rattle.tb_math.proofs.DivisionLaws.{inverse-inverse, inverse-is_positive, inverse-nonneg, inverse-positive, product-is_positive}
use Rattle.tb_math.proofs.RationalLaws.{+ℚ_assoc, +ℚ_comm, +ℚ_zero}
use Rattle.tb_math.proofs.RationalOrder.{≤ℚ-add, ≤ℚ-mul_nonneg, ≤ℚ-refl, ≤ℚ-trans}
use Rattle.tb_math.proofs.RationalProducts.{≤ℚ-mul}
use Rattle.tb_math.proofs.RationalSums.{total-cong, total-mono, total-nonneg, total-plus, total-times}
use Rattle.tb_math.proofs.StrictOrder.{<ℚ-≤, <-≤-trans}
use Rattle.tb_math.proofs.ReadRationals.{by_given, by_reading, by_squares, reading, none, given, nil, square}

-- ---- positive numbers

pub plus_positive : (p q : ℚ) → int (pos 0) <ℚ p → int (pos 0) ≤ℚ q → int (pos 0) <ℚ p +ℚ q
plus_positive p q h k = <-≤-trans (int (pos 0)) p (p +ℚ q) h
    (subst (λ (t : ℚ). t ≤ℚ p +ℚ q) (+ℚ_zero p) (≤ℚ-add p p (int (pos 0)) q (≤ℚ-refl p) k))

-- a sum of some positive numbers
total-positive : (n : ℕ) (f : ℕ → ℚ) → 0 < n → ((i : ℕ) → i < n → int (pos 0) <ℚ f i) → int (pos 0) <ℚ total n f
total-positive zero f h k = absurd (omega arith)
total-positive (suc n) f h k = subst (λ (t : ℚ). int (pos 0) <ℚ t) (+ℚ_comm (f n) (total n f))
    (plus_positive (f n) (total n f) (k n (omega arith))
    (total-nonneg n f (λ i b. <ℚ-≤ (int (pos 0)) (f i) (k i (omega arith)))))

-- ---- two resistances one after the other

-- (a + b)² / (r + t) is at most a² / r + b² / t; x, y and z are the inverses of r, t and r + t
split_square : (a b r t x y z : ℚ) → r *ℚ x ≡ int (pos 1) → t *ℚ y ≡ int (pos 1) → (r +ℚ t) *ℚ z ≡ int (pos 1) → int (pos 0) ≤ℚ x *ℚ y *ℚ z
    → (a +ℚ b) *ℚ (a +ℚ b) *ℚ z ≤ℚ a *ℚ a *ℚ x +ℚ b *ℚ b *ℚ y
split_square a b r t x y z e f g h =
    by_squares {atoms = a ∷ b ∷ r ∷ t ∷ x ∷ y ∷ z ∷ []} (search reading depth 40 fits 20000) (search reading depth 40 fits 20000)
    (square (x *ℚ y *ℚ z) (a *ℚ t +ℚ neg_ℚ (b *ℚ r)) (search reading depth 40 fits 20000) (search reading depth 40 fits 20000) h nil)
    (given (a *ℚ a *ℚ z +ℚ neg_ℚ (b *ℚ b *ℚ y *ℚ z *ℚ r) +ℚ int (pos 2) *ℚ a *ℚ b *ℚ z *ℚ t *ℚ y) (r *ℚ x) (int (pos 1))
    (search reading depth 40 fits 20000) (search reading depth 40 fits 20000) (search reading depth 40 fits 20000) e
    (given (neg_ℚ (a *ℚ a *ℚ x *ℚ z *ℚ t) +ℚ b *ℚ b *ℚ z +ℚ int (pos 2) *ℚ a *ℚ b *ℚ z) (t *ℚ y) (int (pos 1))
    (search reading depth 40 fits 20000) (search reading depth 40 fits 20000) (search reading depth 40 fits 20000) f
    (given (neg_ℚ (a *ℚ a *ℚ x) +ℚ neg_ℚ (b *ℚ b *ℚ y)) ((r +ℚ t) *ℚ z) (int (pos 1))
    (search reading depth 40 fits 20000) (search reading depth 40 fits 20000) (search reading depth 40 fits 20000) g none))) refl

-- the shares of sections in an area
pub record AreShares (n : ℕ) (f : ℕ → ℚ) : Type 0 where
  pub some : 0 < n
  pub positive : (s : ℕ) → s < n → int (pos 0) <ℚ f s
  pub whole : total n f ≡ int (pos 1)

module _ (n : ℕ) (f : ℕ → ℚ) (shares : AreShares n f) where
  -- 1/R of resistances side by side
  abbrev conductance : (ℕ → ℚ) → ℚ
  conductance r = total n (λ s. f s /ℚ r s)

  abbrev ArePositive : (ℕ → ℚ) → Type 0
  ArePositive r = (s : ℕ) → s < n → int (pos 0) <ℚ r s

  conductance-positive : (r : ℕ → ℚ) → ArePositive r → int (pos 0) <ℚ conductance r
  conductance-positive r h = total-positive n (λ s. f s /ℚ r s) shares.some
      (λ s b. product-is_positive (f s) (inverse (r s)) (shares.positive s b) (inverse-is_positive (r s) (h s b)))

  -- the sum of the shares of a² / r + b² / t is at least that of (a + b)² / (r + t)
  shared : (a b : ℚ) (r t : ℕ → ℚ) → ArePositive r → ArePositive t
      → (a +ℚ b) *ℚ (a +ℚ b) *ℚ conductance (λ s. r s +ℚ t s) ≤ℚ a *ℚ a *ℚ conductance r +ℚ b *ℚ b *ℚ conductance t
  shared a b r t h k = subst (λ (v : ℚ). v ≤ℚ a *ℚ a *ℚ conductance r +ℚ b *ℚ b *ℚ conductance t) left
      (subst (λ (v : ℚ). total n low ≤ℚ v) right (total-mono n low high each))
    where
      low : ℕ → ℚ
      low s = f s *ℚ ((a +ℚ b) *ℚ (a +ℚ b) *ℚ inverse (r s +ℚ t s))

      high : ℕ → ℚ
      high s = f s *ℚ (a *ℚ a *ℚ inverse (r s) +ℚ b *ℚ b *ℚ inverse (t s))

      sum_positive : (s : ℕ) → s < n → int (pos 0) <ℚ r s +ℚ t s
      sum_positive s l = plus_positive (r s) (t s) (h s l) (<ℚ-≤ (int (pos 0)) (t s) (k s l))

      weight : (s : ℕ) → s < n → int (pos 0) ≤ℚ inverse (r s) *ℚ inverse (t s) *ℚ inverse (r s +ℚ t s)
      weight s l = ≤ℚ-mul_nonneg (inverse (r s) *ℚ inverse (t s)) (inverse (r s +ℚ t s))
          (≤ℚ-mul_nonneg (inverse (r s)) (inverse (t s)) (inverse-nonneg (r s) (<ℚ-≤ (int (pos 0)) (r s) (h s l))) (inverse-nonneg (t s) (<ℚ-≤ (int (pos 0)) (t s) (k s l))))
          (inverse-nonneg (r s +ℚ t s) (<ℚ-≤ (int (pos 0)) (r s +ℚ t s) (sum_positive s l)))

      each : (s : ℕ) → s < n → low s ≤ℚ high s
      each s l = ≤ℚ-mul (f s) ((a +ℚ b) *ℚ (a +ℚ b) *ℚ inverse (r s +ℚ t s)) (a *ℚ a *ℚ inverse (r s) +ℚ b *ℚ b *ℚ inverse (t s))
          (<ℚ-≤ (int (pos 0)) (f s) (shares.positive s l))
          (split_square a b (r s) (t s) (inverse (r s)) (inverse (t s)) (inverse (r s +ℚ t s)) (inverse-positive (r s) (h s l)) (inverse-positive (t s) (k s l))
          (inverse-positive (r s +ℚ t s) (sum_positive s l)) (weight s l))

      turned : (x y z : ℚ) → x *ℚ (y *ℚ z) ≡ y *ℚ (x *ℚ z)
      turned x y z = by_reading {atoms = x ∷ y ∷ z ∷ []} (search reading) (search reading) refl

      shared_out : (x y u z v : ℚ) → x *ℚ (y *ℚ u +ℚ z *ℚ v) ≡ y *ℚ (x *ℚ u) +ℚ z *ℚ (x *ℚ v)
      shared_out x y u z v = by_reading {atoms = x ∷ y ∷ u ∷ z ∷ v ∷ []} (search reading) (search reading) refl

      left : total n low ≡ (a +ℚ b) *ℚ (a +ℚ b) *ℚ conductance (λ s. r s +ℚ t s)
      left = total-cong n low (λ s. (a +ℚ b) *ℚ (a +ℚ b) *ℚ (f s /ℚ (r s +ℚ t s))) (λ s l. turned (f s) ((a +ℚ b) *ℚ (a +ℚ b)) (inverse (r s +ℚ t s)))
          ∙ total-times ((a +ℚ b) *ℚ (a +ℚ b)) n (λ s. f s /ℚ (r s +ℚ t s))

      right : total n high ≡ a *ℚ a *ℚ conductance r +ℚ b *ℚ b *ℚ conductance t
      right = total-cong n high (λ s. a *ℚ a *ℚ (f s /ℚ r s) +ℚ b *ℚ b *ℚ (f s /ℚ t s))
          (λ s l. shared_out (f s) (a *ℚ a) (inverse (r s)) (b *ℚ b) (inverse (t s)))
          ∙ total-plus n (λ s. a *ℚ a *ℚ (f s /ℚ r s)) (λ s. b *ℚ b *ℚ (f s /ℚ t s))
          ∙ ap (λ (v : ℚ). v +ℚ total n (λ s. b *ℚ b *ℚ (f s /ℚ t s))) (total-times (a *ℚ a) n (λ s. f s /ℚ r s))
          ∙ ap (λ (v : ℚ). a *ℚ a *ℚ conductance r +ℚ v) (total-times (b *ℚ b) n (λ s. f s /ℚ t s))

  -- resistances side by side
  abbrev beside : (ℕ → ℚ) → ℚ
  beside r = inverse (conductance r)

  -- two layers by themselves resist at most as much as both together
  apart : (r t : ℕ → ℚ) → ArePositive r → ArePositive t → beside r +ℚ beside t ≤ℚ beside (λ s. r s +ℚ t s)
  apart r t h k = from_conductances (conductance r) (conductance t) (conductance (λ s. r s +ℚ t s))
      (conductance-positive r h) (conductance-positive t k)
      (conductance-positive (λ s. r s +ℚ t s) (λ s l. plus_positive (r s) (t s) (h s l) (<ℚ-≤ (int (pos 0)) (t s) (k s l))))
      (shared (conductance t) (conductance r) r t h k)
    where
      from_conductances : (p q c : ℚ) → int (pos 0) <ℚ p → int (pos 0) <ℚ q → int (pos 0) <ℚ c → (q +ℚ p) *ℚ (q +ℚ p) *ℚ c ≤ℚ q *ℚ q *ℚ p +ℚ p *ℚ p *ℚ q
          → inverse p +ℚ inverse q ≤ℚ inverse c
      from_conductances p q c hp hq hc l =
          subst (λ (v : ℚ). v ≤ℚ inverse c) (left p q c (inverse p) (inverse q) (inverse c) (inverse (q +ℚ p)) ep eq ec es)
          (subst (λ (v : ℚ). factor *ℚ ((q +ℚ p) *ℚ (q +ℚ p) *ℚ c) ≤ℚ v) (right p q (inverse p) (inverse q) (inverse c) (inverse (q +ℚ p)) ep eq es)
          (≤ℚ-mul factor ((q +ℚ p) *ℚ (q +ℚ p) *ℚ c) (q *ℚ q *ℚ p +ℚ p *ℚ p *ℚ q) positive l))
        where
          factor : ℚ
          factor = inverse p *ℚ inverse q *ℚ inverse c *ℚ inverse (q +ℚ p)

          hs : int (pos 0) <ℚ q +ℚ p
          hs = plus_positive q p hq (<ℚ-≤ (int (pos 0)) p hp)

          ep : p *ℚ inverse p ≡ int (pos 1)
          ep = inverse-positive p hp

          eq : q *ℚ inverse q ≡ int (pos 1)
          eq = inverse-positive q hq

          ec : c *ℚ inverse c ≡ int (pos 1)
          ec = inverse-positive c hc

          es : (q +ℚ p) *ℚ inverse (q +ℚ p) ≡ int (pos 1)
          es = inverse-positive (q +ℚ p) hs

          no_less : (v : ℚ) → int (pos 0) <ℚ v → int (pos 0) ≤ℚ inverse v
          no_less v h = inverse-nonneg v (<ℚ-≤ (int (pos 0)) v h)

          positive : int (pos 0) ≤ℚ factor
          positive = ≤ℚ-mul_nonneg (inverse p *ℚ inverse q *ℚ inverse c) (inverse (q +ℚ p))
              (≤ℚ-mul_nonneg (inverse p *ℚ inverse q) (inverse c) (≤ℚ-mul_nonneg (inverse p) (inverse q) (no_less p hp) (no_less q hq)) (no_less c hc)) (no_less (q +ℚ p) hs)

          left : (p q c x y z w : ℚ) → p *ℚ x ≡ int (pos 1) → q *ℚ y ≡ int (pos 1) → c *ℚ z ≡ int (pos 1) → (q +ℚ p) *ℚ w ≡ int (pos 1)
              → x *ℚ y *ℚ z *ℚ w *ℚ ((q +ℚ p) *ℚ (q +ℚ p) *ℚ c) ≡ x +ℚ y
          left p q c x y z w e f g h = by_given {atoms = p ∷ q ∷ c ∷ x ∷ y ∷ z ∷ w ∷ []} (search reading depth 40 fits 20000) (search reading depth 40 fits 20000)
              (given (x *ℚ y *ℚ (q +ℚ p) *ℚ ((q +ℚ p) *ℚ w)) (c *ℚ z) (int (pos 1)) (search reading depth 40 fits 20000) (search reading depth 40 fits 20000) (search reading depth 40 fits 20000) g
              (given (x *ℚ y *ℚ (q +ℚ p)) ((q +ℚ p) *ℚ w) (int (pos 1)) (search reading depth 40 fits 20000) (search reading depth 40 fits 20000) (search reading depth 40 fits 20000) h
              (given x (q *ℚ y) (int (pos 1)) (search reading depth 40 fits 20000) (search reading depth 40 fits 20000) (search reading depth 40 fits 20000) f
              (given y (p *ℚ x) (int (pos 1)) (search reading depth 40 fits 20000) (search reading depth 40 fits 20000) (search reading depth 40 fits 20000) e none)))) refl

          right : (p q x y z w : ℚ) → p *ℚ x ≡ int (pos 1) → q *ℚ y ≡ int (pos 1) → (q +ℚ p) *ℚ w ≡ int (pos 1)
              → x *ℚ y *ℚ z *ℚ w *ℚ (q *ℚ q *ℚ p +ℚ p *ℚ p *ℚ q) ≡ z
          right p q x y z w e f g = by_given {atoms = p ∷ q ∷ x ∷ y ∷ z ∷ w ∷ []} (search reading depth 40 fits 20000) (search reading depth 40 fits 20000)
              (given (z *ℚ (q *ℚ y) *ℚ ((q +ℚ p) *ℚ w)) (p *ℚ x) (int (pos 1)) (search reading depth 40 fits 20000) (search reading depth 40 fits 20000) (search reading depth 40 fits 20000) e
              (given (z *ℚ ((q +ℚ p) *ℚ w)) (q *ℚ y) (int (pos 1)) (search reading depth 40 fits 20000) (search reading depth 40 fits 20000) (search reading depth 40 fits 20000) f
              (given z ((q +ℚ p) *ℚ w) (int (pos 1)) (search reading depth 40 fits 20000) (search reading depth 40 fits 20000) (search reading depth 40 fits 20000) g none))) refl

  -- what resists the same in each section
  alike : (c : ℚ) → c ≤ℚ beside (λ s. c)
  alike c = subst (λ (t : ℚ). c ≤ℚ t) (sym same) (≤ℚ-refl c)
    where
      one : (x : ℚ) → x *ℚ int (pos 1) ≡ x
      one x = by_reading {atoms = x ∷ []} (search reading) (search reading) refl

      turned : (x y : ℚ) → x *ℚ y ≡ y *ℚ x
      turned x y = by_reading {atoms = x ∷ y ∷ []} (search reading) (search reading) refl

      same : beside (λ s. c) ≡ c
      same = ap inverse (total-cong n (λ s. f s /ℚ c) (λ s. inverse c *ℚ f s) (λ s l. turned (f s) (inverse c)) ∙ total-times (inverse c) n f
          ∙ ap (λ (t : ℚ). inverse c *ℚ t) shares.whole ∙ one (inverse c)) ∙ inverse-inverse c

  -- layers, each with its sections side by side, behind what resists the same in each section
  pub layers_apart : (c : ℚ) → int (pos 0) <ℚ c → (m : ℕ) (r : ℕ → ℕ → ℚ) → ((j s : ℕ) → j < m → s < n → int (pos 0) <ℚ r j s)
      → c +ℚ total m (λ j. beside (r j)) ≤ℚ beside (λ s. c +ℚ total m (λ j. r j s))
  layers_apart c h zero r k = subst (λ (t : ℚ). c +ℚ int (pos 0) ≤ℚ t) refl (alike (c +ℚ int (pos 0)))
  layers_apart c h (suc m) r k = subst (λ (t : ℚ). t ≤ℚ beside (λ s. c +ℚ total (suc m) (λ j. r j s))) (+ℚ_assoc c (total m (λ j. beside (r j))) (beside (r m)))
      (subst (λ (t : ℚ). c +ℚ total m (λ j. beside (r j)) +ℚ beside (r m) ≤ℚ t) joined
      (≤ℚ-trans (c +ℚ total m (λ j. beside (r j)) +ℚ beside (r m)) (beside before +ℚ beside (r m)) (beside (λ s. before s +ℚ r m s))
      (≤ℚ-add (c +ℚ total m (λ j. beside (r j))) (beside before) (beside (r m)) (beside (r m)) (layers_apart c h m r (λ j s b l. k j s (omega arith) l)) (≤ℚ-refl (beside (r m))))
      (apart before (r m) (λ s l. plus_positive c (total m (λ j. r j s)) h (total-nonneg m (λ j. r j s) (λ j b. <ℚ-≤ (int (pos 0)) (r j s) (k j s (omega arith) l))))
      (λ s l. k m s (omega arith) l))))
    where
      before : ℕ → ℚ
      before s = c +ℚ total m (λ j. r j s)

      joined : beside (λ s. before s +ℚ r m s) ≡ beside (λ s. c +ℚ total (suc m) (λ j. r j s))
      joined = ap inverse (total-cong n (λ s. f s /ℚ (before s +ℚ r m s)) (λ s. f s /ℚ (c +ℚ total (suc m) (λ j. r j s)))
          (λ s l. ap (λ (t : ℚ). f s /ℚ t) (+ℚ_assoc c (total m (λ j. r j s)) (r m s))))
