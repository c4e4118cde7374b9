-- The terms of one cell and one surface face under one cut, over plain variables.
--
-- s is the ratio of the cut, S the section, S1 and S2 those of the two parts.
use mathlib.Core.Path.{◌≡◌, refl, ap, ap₂, ◌∙◌}
use mathlib.Core.List.{[], ◌∷◌}
use Prim.Native.Nat.{ℕ, ◌*◌}
use lib.IntN.{pos}
use Rattle.std.specs.Prelude.{Bool, true, false, if◌then◌else◌}
use Rattle.tb_math.specs.Rational.{ℚ, int, one_over, ◌+ℚ◌, ◌-ℚ◌, ◌*ℚ◌, neg_ℚ}
use Rattle.tb_math.specs.Division.{inverse}
use Rattle.tb_math.proofs.DivisionLaws.{inverse-mul, inverse-cancel}
use Rattle.tb_math.proofs.ReadRationals.{by_reading, by_given, reading, none, given}
use Rattle.tb_model.specs.Energy.{spread, passage, cell_energy, surface_energy, cell_loss, surface_loss}
use Rattle.tb_model.specs.Cuts.{IsRatio, rest, between}
use Rattle.tb_cuts.proofs.CutForms.{passage_cut, spread_shared, passage_shared, square_shared}

-- Linear values --

pub between_minus : (s a b c d : ℚ) → between s a b -ℚ between s c d ≡ between s (a -ℚ c) (b -ℚ d)
between_minus s a b c d = by_reading {atoms = s ∷ a ∷ b ∷ c ∷ d ∷ []} (search reading depth 20) (search reading depth 20) refl

pub between_less : (s a b c : ℚ) → between s a b -ℚ c ≡ between s (a -ℚ c) (b -ℚ c)
between_less s a b c = by_reading {atoms = s ∷ a ∷ b ∷ c ∷ []} (search reading depth 20) (search reading depth 20) refl

pub between_low : (s a b : ℚ) → between s a b -ℚ a ≡ s *ℚ (b -ℚ a)
between_low s a b = by_reading {atoms = s ∷ a ∷ b ∷ []} (search reading depth 20) (search reading depth 20) refl

pub between_high : (s a b : ℚ) → b -ℚ between s a b ≡ rest s *ℚ (b -ℚ a)
between_high s a b = by_reading {atoms = s ∷ a ∷ b ∷ []} (search reading depth 20) (search reading depth 20) refl

pub shares_add : (s f : ℚ) → s *ℚ f +ℚ rest s *ℚ f ≡ f
shares_add s f = by_reading {atoms = s ∷ f ∷ []} (search reading depth 20) (search reading depth 20) refl

-- Across the cut --

-- the term of a cell, and of a surface face, whose section is shared out
pub energy_across : (s c w S S1 S2 M M1 M2 : ℚ) → S1 ≡ s *ℚ S → S2 ≡ rest s *ℚ S → s *ℚ M1 +ℚ rest s *ℚ M2 ≡ M →
    cell_energy c w S1 M1 +ℚ cell_energy c w S2 M2 ≡ cell_energy c w S M
energy_across s c w S S1 S2 M M1 M2 e1 e2 e = arranged (inverse w) (one_over 36000000000)
  where
    arranged : (v g : ℚ) → c *ℚ S1 *ℚ v *ℚ M1 *ℚ g +ℚ c *ℚ S2 *ℚ v *ℚ M2 *ℚ g ≡ c *ℚ S *ℚ v *ℚ M *ℚ g
    arranged v g = by_given {atoms = s ∷ c ∷ v ∷ g ∷ S ∷ S1 ∷ S2 ∷ M ∷ M1 ∷ M2 ∷ []} (search reading depth 20) (search reading depth 20)
        (given (c *ℚ v *ℚ M1 *ℚ g) S1 (s *ℚ S) (search reading) (search reading) (search reading) e1
        (given (c *ℚ v *ℚ M2 *ℚ g) S2 (rest s *ℚ S) (search reading) (search reading) (search reading) e2
        (given (c *ℚ S *ℚ v *ℚ g) (s *ℚ M1 +ℚ rest s *ℚ M2) M (search reading) (search reading depth 20) (search reading) e none))) refl

pub surface_across : (s : ℚ) (rs : ℕ) (S S1 S2 M M1 M2 : ℚ) → S1 ≡ s *ℚ S → S2 ≡ rest s *ℚ S → s *ℚ M1 +ℚ rest s *ℚ M2 ≡ M →
    surface_energy rs S1 M1 +ℚ surface_energy rs S2 M2 ≡ surface_energy rs S M
surface_across s rs S S1 S2 M M1 M2 e1 e2 e = arranged (one_over rs) (one_over 3600000)
  where
    arranged : (v g : ℚ) → S1 *ℚ v *ℚ M1 *ℚ g +ℚ S2 *ℚ v *ℚ M2 *ℚ g ≡ S *ℚ v *ℚ M *ℚ g
    arranged v g = by_given {atoms = s ∷ v ∷ g ∷ S ∷ S1 ∷ S2 ∷ M ∷ M1 ∷ M2 ∷ []} (search reading depth 20) (search reading depth 20)
        (given (v *ℚ M1 *ℚ g) S1 (s *ℚ S) (search reading) (search reading) (search reading) e1
        (given (v *ℚ M2 *ℚ g) S2 (rest s *ℚ S) (search reading) (search reading) (search reading) e2
        (given (S *ℚ v *ℚ g) (s *ℚ M1 +ℚ rest s *ℚ M2) M (search reading) (search reading depth 20) (search reading) e none))) refl

-- the inverse of what a part has is the inverse of the ratio times that of the whole
inverse_part : (s c S S1 : ℚ) → S1 ≡ s *ℚ S → inverse (int (pos 3) *ℚ S1 *ℚ c) ≡ inverse s *ℚ inverse (int (pos 3) *ℚ S *ℚ c)
inverse_part s c S S1 e = ap (λ (t : ℚ). inverse (int (pos 3) *ℚ t *ℚ c)) e ∙ ap inverse (arranged s c S) ∙ inverse-mul s (int (pos 3) *ℚ S *ℚ c)
  where
    arranged : (s c S : ℚ) → int (pos 3) *ℚ (s *ℚ S) *ℚ c ≡ s *ℚ (int (pos 3) *ℚ S *ℚ c)
    arranged s c S = by_reading {atoms = s ∷ c ∷ S ∷ []} (search reading) (search reading) refl

pub loss_across : (s c w S S1 S2 F G : ℚ) → IsRatio s → S1 ≡ s *ℚ S → S2 ≡ rest s *ℚ S →
    cell_loss c w S1 (passage (s *ℚ F) (s *ℚ G)) +ℚ cell_loss c w S2 (passage (rest s *ℚ F) (rest s *ℚ G)) ≡ cell_loss c w S (passage F G)
loss_across s c w S S1 S2 F G r e1 e2 =
    ap₂ (λ (x y : ℚ). w *ℚ passage (s *ℚ F) (s *ℚ G) *ℚ int (pos 100000) *ℚ x +ℚ w *ℚ passage (rest s *ℚ F) (rest s *ℚ G) *ℚ int (pos 100000) *ℚ y) (inverse_part s c S S1 e1) (inverse_part (rest s) c S S2 e2)
    ∙ arranged w (inverse s) (inverse (rest s)) (inverse (int (pos 3) *ℚ S *ℚ c)) (passage (s *ℚ F) (s *ℚ G)) (passage (rest s *ℚ F) (rest s *ℚ G)) (passage F G)
    (passage_shared s (inverse s) (inverse (rest s)) (w *ℚ int (pos 100000) *ℚ inverse (int (pos 3) *ℚ S *ℚ c)) F G (inverse-cancel s r.low) (inverse-cancel (rest s) r.high))
  where
    arranged : (w u v n A B C : ℚ) → u *ℚ (w *ℚ int (pos 100000) *ℚ n) *ℚ A +ℚ v *ℚ (w *ℚ int (pos 100000) *ℚ n) *ℚ B ≡ (w *ℚ int (pos 100000) *ℚ n) *ℚ C →
        w *ℚ A *ℚ int (pos 100000) *ℚ (u *ℚ n) +ℚ w *ℚ B *ℚ int (pos 100000) *ℚ (v *ℚ n) ≡ w *ℚ C *ℚ int (pos 100000) *ℚ n
    arranged w u v n A B C e = by_given {atoms = w ∷ u ∷ v ∷ n ∷ A ∷ B ∷ C ∷ []} (search reading depth 20) (search reading depth 20)
        (given (int (pos 1)) (u *ℚ (w *ℚ int (pos 100000) *ℚ n) *ℚ A +ℚ v *ℚ (w *ℚ int (pos 100000) *ℚ n) *ℚ B) ((w *ℚ int (pos 100000) *ℚ n) *ℚ C)
        (search reading) (search reading depth 20) (search reading depth 20) e none) refl

pub surface_loss_across : (s : ℚ) (rs : ℕ) (S S1 S2 F : ℚ) → IsRatio s → S1 ≡ s *ℚ S → S2 ≡ rest s *ℚ S →
    surface_loss rs S1 (s *ℚ F) +ℚ surface_loss rs S2 (rest s *ℚ F) ≡ surface_loss rs S F
surface_loss_across s rs S S1 S2 F r e1 e2 =
    ap₂ (λ (x y : ℚ). int (pos (10 * rs)) *ℚ ((s *ℚ F) *ℚ (s *ℚ F)) *ℚ x +ℚ int (pos (10 * rs)) *ℚ ((rest s *ℚ F) *ℚ (rest s *ℚ F)) *ℚ y) (ap inverse e1 ∙ inverse-mul s S) (ap inverse e2 ∙ inverse-mul (rest s) S)
    ∙ arranged (int (pos (10 * rs))) (inverse s) (inverse (rest s)) (inverse S) ((s *ℚ F) *ℚ (s *ℚ F)) ((rest s *ℚ F) *ℚ (rest s *ℚ F)) (F *ℚ F)
    (square_shared s (inverse s) (inverse (rest s)) (int (pos (10 * rs)) *ℚ inverse S) F (inverse-cancel s r.low) (inverse-cancel (rest s) r.high))
  where
    arranged : (w u v n A B C : ℚ) → u *ℚ (w *ℚ n) *ℚ A +ℚ v *ℚ (w *ℚ n) *ℚ B ≡ (w *ℚ n) *ℚ C → w *ℚ A *ℚ (u *ℚ n) +ℚ w *ℚ B *ℚ (v *ℚ n) ≡ w *ℚ C *ℚ n
    arranged w u v n A B C e = by_given {atoms = w ∷ u ∷ v ∷ n ∷ A ∷ B ∷ C ∷ []} (search reading depth 20) (search reading depth 20)
        (given (int (pos 1)) (u *ℚ (w *ℚ n) *ℚ A +ℚ v *ℚ (w *ℚ n) *ℚ B) ((w *ℚ n) *ℚ C) (search reading) (search reading depth 20) (search reading) e none) refl

-- Along the cut --

spread_along : (s x a b c d : ℚ) → IsRatio s → inverse s *ℚ x *ℚ spread (s *ℚ a) (s *ℚ b) (s *ℚ c) (s *ℚ d) +ℚ inverse (rest s) *ℚ x *ℚ spread (rest s *ℚ a) (rest s *ℚ b) (rest s *ℚ c) (rest s *ℚ d) ≡ x *ℚ spread a b c d
spread_along s x a b c d r = spread_shared s (inverse s) (inverse (rest s)) x a b c d (inverse-cancel s r.low) (inverse-cancel (rest s) r.high)

-- each difference is shared out with the width
pub energy_shared : (s c w S a b e d : ℚ) → IsRatio s →
    cell_energy c (s *ℚ w) S (spread (s *ℚ a) (s *ℚ b) (s *ℚ e) (s *ℚ d)) +ℚ cell_energy c (rest s *ℚ w) S (spread (rest s *ℚ a) (rest s *ℚ b) (rest s *ℚ e) (rest s *ℚ d)) ≡ cell_energy c w S (spread a b e d)
energy_shared s c w S a b e d r =
    ap₂ (λ (x y : ℚ). c *ℚ S *ℚ x *ℚ spread (s *ℚ a) (s *ℚ b) (s *ℚ e) (s *ℚ d) *ℚ one_over 36000000000 +ℚ c *ℚ S *ℚ y *ℚ spread (rest s *ℚ a) (rest s *ℚ b) (rest s *ℚ e) (rest s *ℚ d) *ℚ one_over 36000000000) (inverse-mul s w) (inverse-mul (rest s) w)
    ∙ arranged c S (inverse w) (one_over 36000000000) (inverse s) (inverse (rest s)) (spread (s *ℚ a) (s *ℚ b) (s *ℚ e) (s *ℚ d)) (spread (rest s *ℚ a) (rest s *ℚ b) (rest s *ℚ e) (rest s *ℚ d)) (spread a b e d)
    (spread_along s (c *ℚ S *ℚ inverse w *ℚ one_over 36000000000) a b e d r)
  where
    arranged : (c S v g u u' A B C : ℚ) → u *ℚ (c *ℚ S *ℚ v *ℚ g) *ℚ A +ℚ u' *ℚ (c *ℚ S *ℚ v *ℚ g) *ℚ B ≡ (c *ℚ S *ℚ v *ℚ g) *ℚ C →
        c *ℚ S *ℚ (u *ℚ v) *ℚ A *ℚ g +ℚ c *ℚ S *ℚ (u' *ℚ v) *ℚ B *ℚ g ≡ c *ℚ S *ℚ v *ℚ C *ℚ g
    arranged c S v g u u' A B C e = by_given {atoms = c ∷ S ∷ v ∷ g ∷ u ∷ u' ∷ A ∷ B ∷ C ∷ []} (search reading depth 20) (search reading depth 20)
        (given (int (pos 1)) (u *ℚ (c *ℚ S *ℚ v *ℚ g) *ℚ A +ℚ u' *ℚ (c *ℚ S *ℚ v *ℚ g) *ℚ B) ((c *ℚ S *ℚ v *ℚ g) *ℚ C) (search reading) (search reading depth 20) (search reading depth 20) e none) refl

-- and so where the corner values on the cut are linear
pub energy_along : (s c w S l00 l10 l01 l11 h00 h10 h01 h11 : ℚ) → IsRatio s →
    cell_energy c (s *ℚ w) S (spread (between s l00 h00 -ℚ l00) (between s l10 h10 -ℚ l10) (between s l01 h01 -ℚ l01) (between s l11 h11 -ℚ l11))
    +ℚ cell_energy c (rest s *ℚ w) S (spread (h00 -ℚ between s l00 h00) (h10 -ℚ between s l10 h10) (h01 -ℚ between s l01 h01) (h11 -ℚ between s l11 h11))
    ≡ cell_energy c w S (spread (h00 -ℚ l00) (h10 -ℚ l10) (h01 -ℚ l01) (h11 -ℚ l11))
energy_along s c w S l00 l10 l01 l11 h00 h10 h01 h11 r =
    (λ t. cell_energy c (s *ℚ w) S (spread (between_low s l00 h00 t) (between_low s l10 h10 t) (between_low s l01 h01 t) (between_low s l11 h11 t))
    +ℚ cell_energy c (rest s *ℚ w) S (spread (between_high s l00 h00 t) (between_high s l10 h10 t) (between_high s l01 h01 t) (between_high s l11 h11 t)))
    ∙ energy_shared s c w S (h00 -ℚ l00) (h10 -ℚ l10) (h01 -ℚ l01) (h11 -ℚ l11) r

pub loss_along : (s c w S F G : ℚ) → cell_loss c (s *ℚ w) S (passage F (between s F G)) +ℚ cell_loss c (rest s *ℚ w) S (passage (between s F G) G) ≡ cell_loss c w S (passage F G)
loss_along s c w S F G = arranged s w (inverse (int (pos 3) *ℚ S *ℚ c)) (passage F (between s F G)) (passage (between s F G) G) (passage F G) (passage_cut s F G)
  where
    arranged : (s w n A B C : ℚ) → s *ℚ A +ℚ rest s *ℚ B ≡ C → (s *ℚ w) *ℚ A *ℚ int (pos 100000) *ℚ n +ℚ (rest s *ℚ w) *ℚ B *ℚ int (pos 100000) *ℚ n ≡ w *ℚ C *ℚ int (pos 100000) *ℚ n
    arranged s w n A B C e = by_given {atoms = s ∷ w ∷ n ∷ A ∷ B ∷ C ∷ []} (search reading depth 20) (search reading depth 20)
        (given (w *ℚ int (pos 100000) *ℚ n) (s *ℚ A +ℚ rest s *ℚ B) C (search reading) (search reading depth 20) (search reading) e none) refl

-- what enters
pub entering_across : (s : ℚ) (case low : Bool) (F : ℚ) →
    (if case then (if low then s *ℚ F else neg_ℚ (s *ℚ F)) else int (pos 0)) +ℚ (if case then (if low then rest s *ℚ F else neg_ℚ (rest s *ℚ F)) else int (pos 0)) ≡ (if case then (if low then F else neg_ℚ F) else int (pos 0))
entering_across s true true F = shares_add s F
entering_across s true false F = by_reading {atoms = s ∷ F ∷ []} (search reading depth 20) (search reading depth 20) refl
entering_across s false low F = by_reading {atoms = []} (search reading) (search reading) refl
