-- The two quadratic forms on an interval that is cut in two at a ratio, with the linear value between: each keeps its
-- integral.
use mathlib.Core.Path.{◌≡◌, refl}
use mathlib.Core.List.{[], ◌∷◌}
use lib.IntN.{pos}
use Rattle.tb_math.specs.Rational.{ℚ, int, ◌+ℚ◌, ◌*ℚ◌}
use Rattle.tb_math.proofs.ReadRationals.{by_reading, by_given, reading, none, given}
use Rattle.tb_model.specs.Cuts.{rest, between}
use Rattle.tb_model.specs.Energy.{spread, passage}

pub passage_cut : (s x y : ℚ) → s *ℚ passage x (between s x y) +ℚ rest s *ℚ passage (between s x y) y ≡ passage x y
unfolding passage
passage_cut s x y = by_reading {atoms = s ∷ x ∷ y ∷ []} (search reading depth 60 fits 100000) (search reading depth 60 fits 100000) refl

-- across the first of the two directions of a face: the corners a, b and c, d are the pairs along it
pub spread_first : (s a b c d : ℚ) → s *ℚ spread a (between s a b) c (between s c d) +ℚ rest s *ℚ spread (between s a b) b (between s c d) d ≡ spread a b c d
unfolding spread
spread_first s a b c d = by_reading {atoms = s ∷ a ∷ b ∷ c ∷ d ∷ []} (search reading depth 60 fits 100000) (search reading depth 60 fits 100000) refl

-- across the second: the pairs are a, c and b, d
pub spread_second : (s a b c d : ℚ) → s *ℚ spread a b (between s a c) (between s b d) +ℚ rest s *ℚ spread (between s a c) (between s b d) c d ≡ spread a b c d
unfolding spread
spread_second s a b c d = by_reading {atoms = s ∷ a ∷ b ∷ c ∷ d ∷ []} (search reading depth 60 fits 100000) (search reading depth 60 fits 100000) refl

-- along the differences: a width is cut into parts s and 1 - s of it, with the inverses u and v of these ratios
pub spread_shared : (s u v w a b c d : ℚ) → s *ℚ u ≡ int (pos 1) → rest s *ℚ v ≡ int (pos 1) →
    u *ℚ w *ℚ spread (s *ℚ a) (s *ℚ b) (s *ℚ c) (s *ℚ d) +ℚ v *ℚ w *ℚ spread (rest s *ℚ a) (rest s *ℚ b) (rest s *ℚ c) (rest s *ℚ d) ≡ w *ℚ spread a b c d
unfolding spread
spread_shared s u v w a b c d e1 e2 =
    by_given {atoms = s ∷ u ∷ v ∷ w ∷ a ∷ b ∷ c ∷ d ∷ []} (search reading depth 60 fits 100000) (search reading depth 60 fits 100000)
    (given (s *ℚ w *ℚ spread a b c d) (s *ℚ u) (int (pos 1)) (search reading depth 60 fits 100000) (search reading) (search reading) e1
    (given (rest s *ℚ w *ℚ spread a b c d) (rest s *ℚ v) (int (pos 1)) (search reading depth 60 fits 100000) (search reading)
    (search reading) e2 none)) refl

-- across a flow: each part of the face has its share of the flow, and the inverse of its share of the area
pub passage_shared : (s u v w f g : ℚ) → s *ℚ u ≡ int (pos 1) → rest s *ℚ v ≡ int (pos 1) →
    u *ℚ w *ℚ passage (s *ℚ f) (s *ℚ g) +ℚ v *ℚ w *ℚ passage (rest s *ℚ f) (rest s *ℚ g) ≡ w *ℚ passage f g
unfolding passage
passage_shared s u v w f g e1 e2 =
    by_given {atoms = s ∷ u ∷ v ∷ w ∷ f ∷ g ∷ []} (search reading depth 60 fits 100000) (search reading depth 60 fits 100000)
    (given (s *ℚ w *ℚ passage f g) (s *ℚ u) (int (pos 1)) (search reading depth 60 fits 100000) (search reading) (search reading) e1
    (given (rest s *ℚ w *ℚ passage f g) (rest s *ℚ v) (int (pos 1)) (search reading depth 60 fits 100000)
    (search reading depth 20 fits 20000) (search reading) e2 none)) refl

pub square_shared : (s u v w f : ℚ) → s *ℚ u ≡ int (pos 1) → rest s *ℚ v ≡ int (pos 1) →
    u *ℚ w *ℚ ((s *ℚ f) *ℚ (s *ℚ f)) +ℚ v *ℚ w *ℚ ((rest s *ℚ f) *ℚ (rest s *ℚ f)) ≡ w *ℚ (f *ℚ f)
square_shared s u v w f e1 e2 =
    by_given {atoms = s ∷ u ∷ v ∷ w ∷ f ∷ []} (search reading depth 60 fits 100000) (search reading depth 60 fits 100000)
    (given (s *ℚ w *ℚ f *ℚ f) (s *ℚ u) (int (pos 1)) (search reading depth 60 fits 100000) (search reading) (search reading) e1
    (given (rest s *ℚ w *ℚ f *ℚ f) (rest s *ℚ v) (int (pos 1)) (search reading depth 60 fits 100000)
    (search reading depth 20 fits 20000) (search reading) e2 none)) refl
