-- Of an axis' sum only the cells and faces next to a node remain, where a term is 0 away from the node's lines.
use mathlib.Core.Path.{◌≡◌, refl, ap, ◌∙◌}
use mathlib.Core.List.{[], ◌∷◌}
use Prim.Native.Nat.{ℕ, suc, ◌≤◌}
use native.Mathlib.Omega.{arith}
use Rattle.std.proofs.Common.{◌≢◌}
use Rattle.std.proofs.lemmas.Int.{ints}
use lib.IntN.{ℤ, pos, ◌+ℤ◌, ◌-ℤ◌, ◌*ℤ◌}
use Rattle.tb_math.specs.Sums.{total_ℤ}
use Rattle.tb_math.proofs.ReadIntegers.{by_reading, reading}
use Rattle.tb_weighted.specs.Forms.{Spread3, line_sum, axis_sum, line_near, layer_near, axis_near, near, only_at, bit, cell_part, cell_slope, face_slope, face_rate, form, cross, rise}
use Rattle.tb_weighted.proofs.Local.{total_near, total_none, total_support, bit_other}
use Rattle.tb_weighted.proofs.Near.{near_same, Away}

-- terms are 0 away from the lines of a node
pub record IsNear (p q r : ℕ) (cell face : Spread3) : Type 0 where
  pub cell_i : (i j k : ℕ) → Away i p → cell i j k ≡ pos 0
  pub cell_j : (i j k : ℕ) → Away j q → cell i j k ≡ pos 0
  pub cell_k : (i j k : ℕ) → Away k r → cell i j k ≡ pos 0
  pub face_i : (i j k : ℕ) → i ≢ p → face i j k ≡ pos 0
  pub face_j : (i j k : ℕ) → Away j q → face i j k ≡ pos 0
  pub face_k : (i j k : ℕ) → Away k r → face i j k ≡ pos 0

none_plus : (x y : ℤ) → x ≡ pos 0 → y ≡ pos 0 → x +ℤ y ≡ pos 0
none_plus x y e f = omega (arith, ints)

line_none : (n : ℕ) (cell face : Spread3) (j k : ℕ) → ((i : ℕ) → cell i j k ≡ pos 0) → ((i : ℕ) → face i j k ≡ pos 0) → line_sum n cell face j k ≡ pos 0
line_none n cell face j k h l = none_plus (total_ℤ n (λ i. cell i j k)) (total_ℤ (suc n) (λ i. face i j k)) (total_none n (λ i. cell i j k) (λ i b. h i)) (total_none (suc n) (λ i. face i j k) (λ i b. l i))

one_left : (x : ℤ) → x +ℤ pos 0 ≡ x
one_left x = omega (arith, ints)

line_around : (n p q r : ℕ) (cell face : Spread3) (j k : ℕ) → p ≤ n → IsNear p q r cell face → line_sum n cell face j k ≡ line_near n cell face p j k
line_around n p q r cell face j k h s =
    ap (λ (z : ℤ). z +ℤ total_ℤ (suc n) (λ i. face i j k)) (total_near n p (λ i. cell i j k) h (λ i l a b. s.cell_i i j k (a, b)))
    ∙ ap (λ (z : ℤ). near n p (λ i. cell i j k) +ℤ z) (total_support (suc n) (λ i. face i j k) (p ∷ []) (tt, tt) (omega arith, tt) (λ i l o. s.face_i i j k o.0) ∙ one_left (face p j k))

pub axis_around : (n m l p q r : ℕ) (cell face : Spread3) → p ≤ n → q ≤ m → r ≤ l → IsNear p q r cell face → axis_sum n m l cell face ≡ axis_near n m l cell face p q r
unfolding axis_sum
axis_around n m l p q r cell face hp hq hr s =
    total_near l r (λ k. total_ℤ m (λ j. line_sum n cell face j k)) hr
    (λ k b x y. total_none m (λ j. line_sum n cell face j k) (λ j c. line_none n cell face j k (λ i. s.cell_k i j k (x, y)) (λ i. s.face_k i j k (x, y))))
    ∙ near_same r l (λ k. total_ℤ m (λ j. line_sum n cell face j k)) (λ k. layer_near n m cell face p q k) hr
    (λ k b. total_near m q (λ j. line_sum n cell face j k) hq
    (λ j c x y. line_none n cell face j k (λ i. s.cell_j i j k (x, y)) (λ i. s.face_j i j k (x, y)))
    ∙ near_same q m (λ j. line_sum n cell face j k) (λ j. line_near n cell face p j k) hq (λ j c. line_around n p q r cell face j k hp s))

-- ---- the change of one node
-- a cell or a face none of whose corners is the node
cell_slope_x : (w g0 g1 g2 g3 x0 x1 y0 y1 z0 z1 : ℤ) → x0 ≡ pos 0 → x1 ≡ pos 0 → w *ℤ cross g0 g1 g2 g3 (x1 *ℤ (y0 *ℤ z0) -ℤ x0 *ℤ (y0 *ℤ z0)) (x1 *ℤ (y1 *ℤ z0) -ℤ x0 *ℤ (y1 *ℤ z0)) (x1 *ℤ (y0 *ℤ z1) -ℤ x0 *ℤ (y0 *ℤ z1)) (x1 *ℤ (y1 *ℤ z1) -ℤ x0 *ℤ (y1 *ℤ z1)) ≡ pos 0
cell_slope_x w g0 g1 g2 g3 x0 x1 y0 y1 z0 z1 e0 e1 = rw (e0, e1) (by_reading {atoms = w ∷ g0 ∷ g1 ∷ g2 ∷ g3 ∷ y0 ∷ y1 ∷ z0 ∷ z1 ∷ []} (search reading depth 60 fits 100000) (search reading depth 60 fits 100000) refl)

cell_rate_x : (w x0 x1 y0 y1 z0 z1 : ℤ) → x0 ≡ pos 0 → x1 ≡ pos 0 → w *ℤ form (x1 *ℤ (y0 *ℤ z0) -ℤ x0 *ℤ (y0 *ℤ z0)) (x1 *ℤ (y1 *ℤ z0) -ℤ x0 *ℤ (y1 *ℤ z0)) (x1 *ℤ (y0 *ℤ z1) -ℤ x0 *ℤ (y0 *ℤ z1)) (x1 *ℤ (y1 *ℤ z1) -ℤ x0 *ℤ (y1 *ℤ z1)) ≡ pos 0
cell_rate_x w x0 x1 y0 y1 z0 z1 e0 e1 = rw (e0, e1) (by_reading {atoms = w ∷ y0 ∷ y1 ∷ z0 ∷ z1 ∷ []} (search reading depth 60 fits 100000) (search reading depth 60 fits 100000) refl)

face_slope_x : (w g0 g1 g2 g3 x y0 y1 z0 z1 : ℤ) → x ≡ pos 0 → w *ℤ cross g0 g1 g2 g3 (x *ℤ (y0 *ℤ z0)) (x *ℤ (y1 *ℤ z0)) (x *ℤ (y0 *ℤ z1)) (x *ℤ (y1 *ℤ z1)) ≡ pos 0
face_slope_x w g0 g1 g2 g3 x y0 y1 z0 z1 e0 = rw (e0) (by_reading {atoms = w ∷ g0 ∷ g1 ∷ g2 ∷ g3 ∷ y0 ∷ y1 ∷ z0 ∷ z1 ∷ []} (search reading depth 60 fits 100000) (search reading depth 60 fits 100000) refl)

face_rate_x : (w x y0 y1 z0 z1 : ℤ) → x ≡ pos 0 → w *ℤ form (x *ℤ (y0 *ℤ z0)) (x *ℤ (y1 *ℤ z0)) (x *ℤ (y0 *ℤ z1)) (x *ℤ (y1 *ℤ z1)) ≡ pos 0
face_rate_x w x y0 y1 z0 z1 e0 = rw (e0) (by_reading {atoms = w ∷ y0 ∷ y1 ∷ z0 ∷ z1 ∷ []} (search reading depth 60 fits 100000) (search reading depth 60 fits 100000) refl)

cell_slope_y : (w g0 g1 g2 g3 x0 x1 y0 y1 z0 z1 : ℤ) → y0 ≡ pos 0 → y1 ≡ pos 0 → w *ℤ cross g0 g1 g2 g3 (x1 *ℤ (y0 *ℤ z0) -ℤ x0 *ℤ (y0 *ℤ z0)) (x1 *ℤ (y1 *ℤ z0) -ℤ x0 *ℤ (y1 *ℤ z0)) (x1 *ℤ (y0 *ℤ z1) -ℤ x0 *ℤ (y0 *ℤ z1)) (x1 *ℤ (y1 *ℤ z1) -ℤ x0 *ℤ (y1 *ℤ z1)) ≡ pos 0
cell_slope_y w g0 g1 g2 g3 x0 x1 y0 y1 z0 z1 e0 e1 = rw (e0, e1) (by_reading {atoms = w ∷ g0 ∷ g1 ∷ g2 ∷ g3 ∷ x0 ∷ x1 ∷ z0 ∷ z1 ∷ []} (search reading depth 60 fits 100000) (search reading depth 60 fits 100000) refl)

cell_rate_y : (w x0 x1 y0 y1 z0 z1 : ℤ) → y0 ≡ pos 0 → y1 ≡ pos 0 → w *ℤ form (x1 *ℤ (y0 *ℤ z0) -ℤ x0 *ℤ (y0 *ℤ z0)) (x1 *ℤ (y1 *ℤ z0) -ℤ x0 *ℤ (y1 *ℤ z0)) (x1 *ℤ (y0 *ℤ z1) -ℤ x0 *ℤ (y0 *ℤ z1)) (x1 *ℤ (y1 *ℤ z1) -ℤ x0 *ℤ (y1 *ℤ z1)) ≡ pos 0
cell_rate_y w x0 x1 y0 y1 z0 z1 e0 e1 = rw (e0, e1) (by_reading {atoms = w ∷ x0 ∷ x1 ∷ z0 ∷ z1 ∷ []} (search reading depth 60 fits 100000) (search reading depth 60 fits 100000) refl)

face_slope_y : (w g0 g1 g2 g3 x y0 y1 z0 z1 : ℤ) → y0 ≡ pos 0 → y1 ≡ pos 0 → w *ℤ cross g0 g1 g2 g3 (x *ℤ (y0 *ℤ z0)) (x *ℤ (y1 *ℤ z0)) (x *ℤ (y0 *ℤ z1)) (x *ℤ (y1 *ℤ z1)) ≡ pos 0
face_slope_y w g0 g1 g2 g3 x y0 y1 z0 z1 e0 e1 = rw (e0, e1) (by_reading {atoms = w ∷ g0 ∷ g1 ∷ g2 ∷ g3 ∷ x ∷ z0 ∷ z1 ∷ []} (search reading depth 60 fits 100000) (search reading depth 60 fits 100000) refl)

face_rate_y : (w x y0 y1 z0 z1 : ℤ) → y0 ≡ pos 0 → y1 ≡ pos 0 → w *ℤ form (x *ℤ (y0 *ℤ z0)) (x *ℤ (y1 *ℤ z0)) (x *ℤ (y0 *ℤ z1)) (x *ℤ (y1 *ℤ z1)) ≡ pos 0
face_rate_y w x y0 y1 z0 z1 e0 e1 = rw (e0, e1) (by_reading {atoms = w ∷ x ∷ z0 ∷ z1 ∷ []} (search reading depth 60 fits 100000) (search reading depth 60 fits 100000) refl)

cell_slope_z : (w g0 g1 g2 g3 x0 x1 y0 y1 z0 z1 : ℤ) → z0 ≡ pos 0 → z1 ≡ pos 0 → w *ℤ cross g0 g1 g2 g3 (x1 *ℤ (y0 *ℤ z0) -ℤ x0 *ℤ (y0 *ℤ z0)) (x1 *ℤ (y1 *ℤ z0) -ℤ x0 *ℤ (y1 *ℤ z0)) (x1 *ℤ (y0 *ℤ z1) -ℤ x0 *ℤ (y0 *ℤ z1)) (x1 *ℤ (y1 *ℤ z1) -ℤ x0 *ℤ (y1 *ℤ z1)) ≡ pos 0
cell_slope_z w g0 g1 g2 g3 x0 x1 y0 y1 z0 z1 e0 e1 = rw (e0, e1) (by_reading {atoms = w ∷ g0 ∷ g1 ∷ g2 ∷ g3 ∷ x0 ∷ x1 ∷ y0 ∷ y1 ∷ []} (search reading depth 60 fits 100000) (search reading depth 60 fits 100000) refl)

cell_rate_z : (w x0 x1 y0 y1 z0 z1 : ℤ) → z0 ≡ pos 0 → z1 ≡ pos 0 → w *ℤ form (x1 *ℤ (y0 *ℤ z0) -ℤ x0 *ℤ (y0 *ℤ z0)) (x1 *ℤ (y1 *ℤ z0) -ℤ x0 *ℤ (y1 *ℤ z0)) (x1 *ℤ (y0 *ℤ z1) -ℤ x0 *ℤ (y0 *ℤ z1)) (x1 *ℤ (y1 *ℤ z1) -ℤ x0 *ℤ (y1 *ℤ z1)) ≡ pos 0
cell_rate_z w x0 x1 y0 y1 z0 z1 e0 e1 = rw (e0, e1) (by_reading {atoms = w ∷ x0 ∷ x1 ∷ y0 ∷ y1 ∷ []} (search reading depth 60 fits 100000) (search reading depth 60 fits 100000) refl)

face_slope_z : (w g0 g1 g2 g3 x y0 y1 z0 z1 : ℤ) → z0 ≡ pos 0 → z1 ≡ pos 0 → w *ℤ cross g0 g1 g2 g3 (x *ℤ (y0 *ℤ z0)) (x *ℤ (y1 *ℤ z0)) (x *ℤ (y0 *ℤ z1)) (x *ℤ (y1 *ℤ z1)) ≡ pos 0
face_slope_z w g0 g1 g2 g3 x y0 y1 z0 z1 e0 e1 = rw (e0, e1) (by_reading {atoms = w ∷ g0 ∷ g1 ∷ g2 ∷ g3 ∷ x ∷ y0 ∷ y1 ∷ []} (search reading depth 60 fits 100000) (search reading depth 60 fits 100000) refl)

face_rate_z : (w x y0 y1 z0 z1 : ℤ) → z0 ≡ pos 0 → z1 ≡ pos 0 → w *ℤ form (x *ℤ (y0 *ℤ z0)) (x *ℤ (y1 *ℤ z0)) (x *ℤ (y0 *ℤ z1)) (x *ℤ (y1 *ℤ z1)) ≡ pos 0
face_rate_z w x y0 y1 z0 z1 e0 e1 = rw (e0, e1) (by_reading {atoms = w ∷ x ∷ y0 ∷ y1 ∷ []} (search reading depth 60 fits 100000) (search reading depth 60 fits 100000) refl)

module _ (w s l g : Spread3) (p q r : ℕ) where
  abbrev level_at : ℕ → ℕ → ℕ → ℕ → ℕ → ℤ
  level_at i j k y z = g i y z -ℤ l i j k

  pub slope_near : IsNear p q r (cell_slope w g (only_at p q r)) (face_slope s l g (only_at p q r))
  slope_near = record {
    cell_i = λ i j k a. cell_slope_x (w i j k) (rise g i j k) (rise g i (suc j) k) (rise g i j (suc k)) (rise g i (suc j) (suc k)) (bit i p) (bit (suc i) p) (bit j q) (bit (suc j) q) (bit k r) (bit (suc k) r) (bit_other i p a.0) (bit_other (suc i) p a.1);
    cell_j = λ i j k a. cell_slope_y (w i j k) (rise g i j k) (rise g i (suc j) k) (rise g i j (suc k)) (rise g i (suc j) (suc k)) (bit i p) (bit (suc i) p) (bit j q) (bit (suc j) q) (bit k r) (bit (suc k) r) (bit_other j q a.0) (bit_other (suc j) q a.1);
    cell_k = λ i j k a. cell_slope_z (w i j k) (rise g i j k) (rise g i (suc j) k) (rise g i j (suc k)) (rise g i (suc j) (suc k)) (bit i p) (bit (suc i) p) (bit j q) (bit (suc j) q) (bit k r) (bit (suc k) r) (bit_other k r a.0) (bit_other (suc k) r a.1);
    face_i = λ i j k a. face_slope_x (s i j k) (level_at i j k j k) (level_at i j k (suc j) k) (level_at i j k j (suc k)) (level_at i j k (suc j) (suc k)) (bit i p) (bit j q) (bit (suc j) q) (bit k r) (bit (suc k) r) (bit_other i p a);
    face_j = λ i j k a. face_slope_y (s i j k) (level_at i j k j k) (level_at i j k (suc j) k) (level_at i j k j (suc k)) (level_at i j k (suc j) (suc k)) (bit i p) (bit j q) (bit (suc j) q) (bit k r) (bit (suc k) r) (bit_other j q a.0) (bit_other (suc j) q a.1);
    face_k = λ i j k a. face_slope_z (s i j k) (level_at i j k j k) (level_at i j k (suc j) k) (level_at i j k j (suc k)) (level_at i j k (suc j) (suc k)) (bit i p) (bit j q) (bit (suc j) q) (bit k r) (bit (suc k) r) (bit_other k r a.0) (bit_other (suc k) r a.1);
  }

  pub rate_near : IsNear p q r (cell_part w (only_at p q r)) (face_rate s (only_at p q r))
  rate_near = record {
    cell_i = λ i j k a. cell_rate_x (w i j k) (bit i p) (bit (suc i) p) (bit j q) (bit (suc j) q) (bit k r) (bit (suc k) r) (bit_other i p a.0) (bit_other (suc i) p a.1);
    cell_j = λ i j k a. cell_rate_y (w i j k) (bit i p) (bit (suc i) p) (bit j q) (bit (suc j) q) (bit k r) (bit (suc k) r) (bit_other j q a.0) (bit_other (suc j) q a.1);
    cell_k = λ i j k a. cell_rate_z (w i j k) (bit i p) (bit (suc i) p) (bit j q) (bit (suc j) q) (bit k r) (bit (suc k) r) (bit_other k r a.0) (bit_other (suc k) r a.1);
    face_i = λ i j k a. face_rate_x (s i j k) (bit i p) (bit j q) (bit (suc j) q) (bit k r) (bit (suc k) r) (bit_other i p a);
    face_j = λ i j k a. face_rate_y (s i j k) (bit i p) (bit j q) (bit (suc j) q) (bit k r) (bit (suc k) r) (bit_other j q a.0) (bit_other (suc j) q a.1);
    face_k = λ i j k a. face_rate_z (s i j k) (bit i p) (bit j q) (bit (suc j) q) (bit k r) (bit (suc k) r) (bit_other k r a.0) (bit_other (suc k) r a.1);
  }
