-- The spread of four differences from the squares of their sums and differences.
use Rattle.std.proofs.Common.{◌≡◌, refl, sym, ap, ◌∙◌, ℕ, ◌+◌, ◌*◌, ◌^◌, ◌<◌, ◌≤◌, [], ◌∷◌, ℤ, pos, negsuc, ◌+ℤ◌, ◌-ℤ◌, ◌*ℤ◌, ◌≤ℤ◌, arith, subst, unsigned_abs, w64, to_z, of_z, FitsSigned}
use Rattle.std.proofs.lemmas.Int.{ints, to_z-of_z}
use Rattle.std.proofs.lemmas.List.Elements.{All-cons, All-nil}
use Rattle.std.proofs.Math.Nat.{mul-le-mul}
use Rattle.std.specs.Int.{div_ceil}
use Rattle.tb_math.specs.Integers.{pos-nonneg}
use Rattle.tb_math.specs.Ceiling.{ceiling}
use Rattle.tb_math.specs.Rational.{int}
use Rattle.tb_math.proofs.ReadIntegers.{by_reading, reading}
use Rattle.tb_terms.specs.Limits.{IsConductivity, IsDifference, IsWidth}
use Rattle.tb_terms.proofs.FieldTerms.{field_cell-quotient}
use Rattle.tb_terms.proofs.Quotients.{quotient-at_most, scaled-at_most}
use Rattle.tb_terms.proofs.Spread.{simpson_twice, whole_spread-at_most}
use Rattle.tb_field.specs.Fields.{IsTemperature}
use Rattle.tb_sums.specs.Corners.{energy_of}
use Rattle.tb_sums.proofs.RoundedTerms.{at_most, rounded_term}

-- four times Simpson's sum, from the squares of the sum of the differences, and of their differences along each axis and along both
four_times : (d00 d10 d01 d11 : ℤ) → let s = d00 +ℤ d10 +ℤ d01 +ℤ d11 in let b = d10 +ℤ d11 -ℤ d00 -ℤ d01 in
    let c = d01 +ℤ d11 -ℤ d00 -ℤ d10 in let bc = d00 +ℤ d11 -ℤ d10 -ℤ d01 in
    pos 9 *ℤ (s *ℤ s) +ℤ pos 3 *ℤ (b *ℤ b +ℤ c *ℤ c) +ℤ bc *ℤ bc ≡ pos 4 *ℤ simpson_twice d00 d10 d01 d11
four_times d00 d10 d01 d11 = by_reading {atoms = d00 ∷ d10 ∷ d01 ∷ d11 ∷ []} (search reading depth 60 fits 100000) (search reading depth 60 fits 100000) refl

quarter : (m s b c bc : ℕ) (ss bb cc bcbc w : ℤ) → pos s ≡ ss → pos b ≡ bb → pos c ≡ cc → pos bc ≡ bcbc
    → pos 9 *ℤ ss +ℤ pos 3 *ℤ (bb +ℤ cc) +ℤ bcbc ≡ pos 4 *ℤ w
    → 4 * m ≤ 9 * s + 3 * (b + c) + bc → 9 * s + 3 * (b + c) + bc < 4 * m + 4 → pos m ≡ w
quarter m s b c bc ss bb cc bcbc w es eb ec ebc e l h = omega (arith, ints, es, eb, ec, ebc, e, l, h)

-- the sum of four differences, and their differences along each of two axes and along both
pub record AreSplit (sum b c both d00 d10 d01 d11 : ℤ) : Type 0 where
  pub sum_is : sum ≡ d00 +ℤ d10 +ℤ d01 +ℤ d11
  pub b_is : b ≡ d10 +ℤ d11 -ℤ d00 -ℤ d01
  pub c_is : c ≡ d01 +ℤ d11 -ℤ d00 -ℤ d10
  pub both_is : both ≡ d00 +ℤ d11 -ℤ d10 -ℤ d01

pub spread_of_squares : (m s b c bc : ℕ) (xs xb xc xbc d00 d10 d01 d11 : ℤ) → AreSplit xs xb xc xbc d00 d10 d01 d11
    → pos s ≡ xs *ℤ xs → pos b ≡ xb *ℤ xb → pos c ≡ xc *ℤ xc → pos bc ≡ xbc *ℤ xbc
    → 4 * m ≤ 9 * s + 3 * (b + c) + bc → 9 * s + 3 * (b + c) + bc < 4 * m + 4 → pos m ≡ simpson_twice d00 d10 d01 d11
spread_of_squares m s b c bc xs xb xc xbc d00 d10 d01 d11 f es eb ec ebc l h =
    quarter m s b c bc _ _ _ _ _ (es ∙ ap (λ (z : ℤ). z *ℤ z) f.sum_is) (eb ∙ ap (λ (z : ℤ). z *ℤ z) f.b_is) (ec ∙ ap (λ (z : ℤ). z *ℤ z) f.c_is) (ebc ∙ ap (λ (z : ℤ). z *ℤ z) f.both_is)
    (four_times d00 d10 d01 d11) l h

-- The modes of a face in 64 bits --

abbrev pub stored : ℤ → ℤ
stored z = to_z w64 (of_z w64 z)

pub fits : (z : ℤ) → unsigned_abs z ≤ 4 * 10 ^ 8 → FitsSigned w64 z
fits (pos n) h = record { sfits = omega arith }
fits (negsuc n) h = record { sfits = omega arith }

pub stored-is : (z : ℤ) → unsigned_abs z ≤ 4 * 10 ^ 8 → stored z ≡ z
stored-is z h = to_z-of_z w64 z (fits z h)

corner-is : (z : ℤ) → unsigned_abs z ≤ 10 ^ 8 → stored z ≡ z
corner-is z h = stored-is z (omega (arith, h))

sum-size : (x y : ℤ) (m : ℕ) → unsigned_abs x ≤ m → unsigned_abs y ≤ m → unsigned_abs (x +ℤ y) ≤ 2 * m
sum-size x y m h k = omega (arith, ints, h, k)

difference-size : (x y : ℤ) (m : ℕ) → unsigned_abs x ≤ m → unsigned_abs y ≤ m → unsigned_abs (x -ℤ y) ≤ 2 * m
difference-size x y m h k = omega (arith, ints, h, k)

sum_of : (x y p q : ℤ) → x ≡ p → y ≡ q → x +ℤ y ≡ p +ℤ q
sum_of x y p q e f = ap (λ (z : ℤ). z +ℤ y) e ∙ ap (λ (z : ℤ). p +ℤ z) f

difference_of : (x y p q : ℤ) → x ≡ p → y ≡ q → x -ℤ y ≡ p -ℤ q
difference_of x y p q e f = ap (λ (z : ℤ). z -ℤ y) e ∙ ap (λ (z : ℤ). p -ℤ z) f

corner_sum : (x y : ℤ) → unsigned_abs x ≤ 10 ^ 8 → unsigned_abs y ≤ 10 ^ 8 → stored (stored x +ℤ stored y) ≡ x +ℤ y
corner_sum x y h k = ap stored (sum_of _ _ _ _ (corner-is x h) (corner-is y k)) ∙ stored-is (x +ℤ y) (let s = sum-size x y (10 ^ 8) h k in omega (arith, s))

corner_difference : (x y : ℤ) → unsigned_abs x ≤ 10 ^ 8 → unsigned_abs y ≤ 10 ^ 8 → stored (stored x -ℤ stored y) ≡ x -ℤ y
corner_difference x y h k = ap stored (difference_of _ _ _ _ (corner-is x h) (corner-is y k)) ∙ stored-is (x -ℤ y) (let s = difference-size x y (10 ^ 8) h k in omega (arith, s))

-- a number that is stored, its value and its size
pub record IsMode (z value : ℤ) : Type 0 where
  pub is : z ≡ value
  pub fits : FitsSigned w64 z
  pub stays : stored z ≡ value
  pub small : unsigned_abs (stored z) ≤ 4 * 10 ^ 8

mode : (z value : ℤ) → z ≡ value → unsigned_abs value ≤ 4 * 10 ^ 8 → IsMode z value
mode z value e h = record {
  is = e;
  fits = subst (FitsSigned w64) (sym e) (fits value h);
  stays = ap stored e ∙ stored-is value h;
  small = subst (λ (x : ℤ). unsigned_abs x ≤ 4 * 10 ^ 8) (sym (ap stored e ∙ stored-is value h)) h;
}

pub sum_mode : (a b c d : ℤ) → unsigned_abs a ≤ 10 ^ 8 → unsigned_abs b ≤ 10 ^ 8 → unsigned_abs c ≤ 10 ^ 8 → unsigned_abs d ≤ 10 ^ 8
    → IsMode (stored (stored a +ℤ stored b) +ℤ stored (stored c +ℤ stored d)) (a +ℤ b +ℤ (c +ℤ d))
sum_mode a b c d h k l m = mode _ _ (sum_of _ _ _ _ (corner_sum a b h k) (corner_sum c d l m))
    (sum-size (a +ℤ b) (c +ℤ d) (2 * 10 ^ 8) (sum-size a b (10 ^ 8) h k) (sum-size c d (10 ^ 8) l m))

pub sum_of_differences_mode : (a b c d : ℤ) → unsigned_abs a ≤ 10 ^ 8 → unsigned_abs b ≤ 10 ^ 8 → unsigned_abs c ≤ 10 ^ 8 → unsigned_abs d ≤ 10 ^ 8
    → IsMode (stored (stored a -ℤ stored b) +ℤ stored (stored c -ℤ stored d)) (a -ℤ b +ℤ (c -ℤ d))
sum_of_differences_mode a b c d h k l m = mode _ _ (sum_of _ _ _ _ (corner_difference a b h k) (corner_difference c d l m))
    (sum-size (a -ℤ b) (c -ℤ d) (2 * 10 ^ 8) (difference-size a b (10 ^ 8) h k) (difference-size c d (10 ^ 8) l m))

pub difference_of_sums_mode : (a b c d : ℤ) → unsigned_abs a ≤ 10 ^ 8 → unsigned_abs b ≤ 10 ^ 8 → unsigned_abs c ≤ 10 ^ 8 → unsigned_abs d ≤ 10 ^ 8
    → IsMode (stored (stored a +ℤ stored b) -ℤ stored (stored c +ℤ stored d)) (a +ℤ b -ℤ (c +ℤ d))
difference_of_sums_mode a b c d h k l m = mode _ _ (difference_of _ _ _ _ (corner_sum a b h k) (corner_sum c d l m))
    (difference-size (a +ℤ b) (c +ℤ d) (2 * 10 ^ 8) (sum-size a b (10 ^ 8) h k) (sum-size c d (10 ^ 8) l m))

pub difference_mode : (a b c d : ℤ) → unsigned_abs a ≤ 10 ^ 8 → unsigned_abs b ≤ 10 ^ 8 → unsigned_abs c ≤ 10 ^ 8 → unsigned_abs d ≤ 10 ^ 8
    → IsMode (stored (stored a -ℤ stored b) -ℤ stored (stored c -ℤ stored d)) (a -ℤ b -ℤ (c -ℤ d))
difference_mode a b c d h k l m = mode _ _ (difference_of _ _ _ _ (corner_difference a b h k) (corner_difference c d l m))
    (difference-size (a -ℤ b) (c -ℤ d) (2 * 10 ^ 8) (difference-size a b (10 ^ 8) h k) (difference-size c d (10 ^ 8) l m))

-- the modes of a face with these corner values
pub record AreModes (sum y z both a b c d : ℤ) : Type 0 where
  pub sum_is : sum ≡ a +ℤ b +ℤ (c +ℤ d)
  pub y_is : y ≡ b -ℤ a +ℤ (d -ℤ c)
  pub z_is : z ≡ c +ℤ d -ℤ (a +ℤ b)
  pub both_is : both ≡ d -ℤ c -ℤ (b -ℤ a)

temperature-is : (z : ℤ) → IsTemperature z → stored z ≡ z
temperature-is z h = stored-is z (omega (arith, ints, h.least, h.most))

pub from_stored : (sum y z both a b c d : ℤ) → IsTemperature a → IsTemperature b → IsTemperature c → IsTemperature d
    → AreModes sum y z both (stored a) (stored b) (stored c) (stored d) → AreModes sum y z both a b c d
from_stored sum y z both a b c d h k l m e =
    subst (λ (x : ℤ). AreModes sum y z both x b c d) (temperature-is a h)
    (subst (λ (x : ℤ). AreModes sum y z both (stored a) x c d) (temperature-is b k)
    (subst (λ (x : ℤ). AreModes sum y z both (stored a) (stored b) x d) (temperature-is c l)
    (subst (λ (x : ℤ). AreModes sum y z both (stored a) (stored b) (stored c) x) (temperature-is d m) e)))

pub sum-squared : (n : ℕ) (x y : ℤ) → unsigned_abs x ≤ 4 * 10 ^ 8 → unsigned_abs y ≤ 4 * 10 ^ 8
    → pos n ≡ (stored x +ℤ stored y) *ℤ (stored x +ℤ stored y) → pos n ≡ (x +ℤ y) *ℤ (x +ℤ y)
sum-squared n x y h k e = e ∙ ap (λ (z : ℤ). z *ℤ z) (sum_of _ _ _ _ (stored-is x h) (stored-is y k))

pub difference-squared : (n : ℕ) (x y : ℤ) → unsigned_abs x ≤ 4 * 10 ^ 8 → unsigned_abs y ≤ 4 * 10 ^ 8
    → pos n ≡ (stored x -ℤ stored y) *ℤ (stored x -ℤ stored y) → pos n ≡ (x -ℤ y) *ℤ (x -ℤ y)
difference-squared n x y h k e = e ∙ ap (λ (z : ℤ). z *ℤ z) (difference_of _ _ _ _ (stored-is x h) (stored-is y k))

-- two faces split the differences of a cell along each axis
pub split_x : (ls ly lz lb hs hy hz hb t000 t100 t010 t110 t001 t101 t011 t111 : ℤ)
    → AreModes ls ly lz lb t000 t010 t001 t011 → AreModes hs hy hz hb t100 t110 t101 t111
    → AreSplit (hs -ℤ ls) (hy -ℤ ly) (hz -ℤ lz) (hb -ℤ lb) (t100 -ℤ t000) (t110 -ℤ t010) (t101 -ℤ t001) (t111 -ℤ t011)
split_x ls ly lz lb hs hy hz hb t000 t100 t010 t110 t001 t101 t011 t111 l h = record {
  sum_is = omega (arith, ints, l.sum_is, h.sum_is);
  b_is = omega (arith, ints, l.y_is, h.y_is);
  c_is = omega (arith, ints, l.z_is, h.z_is);
  both_is = omega (arith, ints, l.both_is, h.both_is);
}

pub split_y : (ls ly lz lb hs hy hz hb t000 t100 t010 t110 t001 t101 t011 t111 : ℤ)
    → AreModes ls ly lz lb t000 t010 t001 t011 → AreModes hs hy hz hb t100 t110 t101 t111
    → AreSplit (hy +ℤ ly) (hy -ℤ ly) (hb +ℤ lb) (hb -ℤ lb) (t010 -ℤ t000) (t110 -ℤ t100) (t011 -ℤ t001) (t111 -ℤ t101)
split_y ls ly lz lb hs hy hz hb t000 t100 t010 t110 t001 t101 t011 t111 l h = record {
  sum_is = omega (arith, ints, l.y_is, h.y_is);
  b_is = omega (arith, ints, l.y_is, h.y_is);
  c_is = omega (arith, ints, l.both_is, h.both_is);
  both_is = omega (arith, ints, l.both_is, h.both_is);
}

pub split_z : (ls ly lz lb hs hy hz hb t000 t100 t010 t110 t001 t101 t011 t111 : ℤ)
    → AreModes ls ly lz lb t000 t010 t001 t011 → AreModes hs hy hz hb t100 t110 t101 t111
    → AreSplit (hz +ℤ lz) (hz -ℤ lz) (hb +ℤ lb) (hb -ℤ lb) (t001 -ℤ t000) (t101 -ℤ t100) (t011 -ℤ t010) (t111 -ℤ t110)
split_z ls ly lz lb hs hy hz hb t000 t100 t010 t110 t001 t101 t011 t111 l h = record {
  sum_is = omega (arith, ints, l.z_is, h.z_is);
  b_is = omega (arith, ints, l.z_is, h.z_is);
  c_is = omega (arith, ints, l.both_is, h.both_is);
  both_is = omega (arith, ints, l.both_is, h.both_is);
}

-- How large a spread is --

rise : (high low : ℤ) → IsTemperature high → IsTemperature low → IsDifference (high -ℤ low)
rise high low h l = record { at_most = omega (arith, ints, h.least, h.most, l.least, l.most) }

-- the spread of four rises of temperatures, and how large it is
pub rises : (h00 l00 h10 l10 h01 l01 h11 l11 : ℤ) → IsTemperature h00 → IsTemperature l00 → IsTemperature h10 → IsTemperature l10
    → IsTemperature h01 → IsTemperature l01 → IsTemperature h11 → IsTemperature l11
    → simpson_twice (h00 -ℤ l00) (h10 -ℤ l10) (h01 -ℤ l01) (h11 -ℤ l11) ≤ℤ pos (36 * 10 ^ 16)
rises h00 l00 h10 l10 h01 l01 h11 l11 a b c d e f g h = whole_spread-at_most ((h00 -ℤ l00) ∷ (h10 -ℤ l10) ∷ (h01 -ℤ l01) ∷ (h11 -ℤ l11) ∷ [])
    (All-cons IsDifference (h00 -ℤ l00) ((h10 -ℤ l10) ∷ (h01 -ℤ l01) ∷ (h11 -ℤ l11) ∷ []) (rise h00 l00 a b)
    (All-cons IsDifference (h10 -ℤ l10) ((h01 -ℤ l01) ∷ (h11 -ℤ l11) ∷ []) (rise h10 l10 c d)
    (All-cons IsDifference (h01 -ℤ l01) ((h11 -ℤ l11) ∷ []) (rise h01 l01 e f)
    (All-cons IsDifference (h11 -ℤ l11) [] (rise h11 l11 g h) (All-nil IsDifference)))))

-- The energy along an axis --

pub energy_rounded_up : (l a b c s r : ℕ) → 0 < a → r ≡ div_ceil (l * (b * c) * s) (36 * 10 ^ 9 * a) → pos r ≡ ceiling (energy_of l a b c s)
energy_rounded_up l a b c s r h e = let q = field_cell-quotient l a b c (pos s) (int (pos s)) h refl in
    ap pos e ∙ rounded_term (energy_of l a b c s) (pos (l * (b * c) * s)) (36 * 10 ^ 9 * a) (pos-nonneg (l * (b * c) * s)) q.positive q.value

pub energy_at_most : (l a b c s r : ℕ) → IsConductivity l → IsWidth a → IsWidth b → IsWidth c → s ≤ 36 * 10 ^ 16 → pos r ≡ ceiling (energy_of l a b c s) → r ≤ 125 * 10 ^ 23
energy_at_most l a b c s r hl ha hb hc hs e = at_most r (125 * 10 ^ 23) (energy_of l a b c s) e
    (quotient-at_most _ _ _ (125 * 10 ^ 23) (field_cell-quotient l a b c (pos s) (int (pos s)) ha.above_zero refl)
    (largest a _ (scaled-at_most (l * (b * c)) (pos s) (36 * 10 ^ 16) (125 * 10 ^ 16) (mul-le-mul hl.at_most (mul-le-mul hb.at_most hc.at_most)) (omega (arith, ints, hs))) ha.above_zero))
  where
    largest : (a : ℕ) (z : ℤ) → z ≤ℤ pos (45 * 10 ^ 34) → 0 < a → z ≤ℤ pos (36 * 10 ^ 9 * a * (125 * 10 ^ 23))
    largest a z l h = omega (arith, ints)
