-- The printed bounds of a part lie around its exact resistances and transmittance.
use Rattle.std.proofs.Common.{◌≡◌, refl, sym, ap, ◌∙◌, subst, ℕ, ◌+◌, ◌*◌, ◌^◌, ◌<◌, pos, ◌<ℤ◌, [], ◌∷◌, arith}
use mathlib.Core.Quot.{sound}
use Rattle.tb_detail.specs.declared.Detail.{Detail}
use Rattle.tb_detail.specs.declared.Layer.{Layer}
use Rattle.tb_detail.specs.declared.Part.{Part}
use Rattle.tb_math.specs.Division.{inverse, ◌/ℚ◌}
use Rattle.tb_math.specs.Rational.{ℚ, int, one_over, ratio, ◌+ℚ◌, ◌*ℚ◌}
use Rattle.tb_math.specs.Sums.{total}
use Rattle.tb_math.proofs.DivisionLaws.{inverse-mul, inverse-ratio}
use Rattle.tb_math.proofs.RationalLaws.{*ℚ_comm, *ℚ_dist, int-add, int-mul}
use Rattle.tb_math.proofs.RationalSums.{total-cong, total-times}
use Rattle.tb_math.proofs.Ratios.{one_over-mul}
use Rattle.tb_math.proofs.SumLaws.{sum-relates}
use Rattle.tb_math.proofs.ReadRationals.{by_reading, reading}
use Rattle.tb_planar.specs.declared.bounds.Bounds.{Bounds}
use Rattle.tb_planar.specs.Bounds as B
use Rattle.tb_planar.specs.Bounds.{Encloses, plus}
use Rattle.tb_planar.specs.Printed as P
use Rattle.tb_planar.specs.Sections.{area, conductivity, layer, layers, sections, total_area, weighted_conductivity}
use Rattle.tb_planar.specs.Transmittance as T
use Rattle.tb_planar.proofs.Enclosing.{divided-encloses, exactly-encloses, over-encloses, over_scaled, plus-encloses, quotient-encloses, times-encloses, total-encloses}

-- ---- units

surface_unit : int (pos (10 ^ 16)) *ℚ one_over 10000 ≡ int (pos (10 ^ 12))
unfolding int one_over ◌*ℚ◌
surface_unit = sound (record { same = refl })

to_transmittance : int (pos (10 ^ 31)) *ℚ one_over (10 ^ 16) ≡ int (pos (10 ^ 15))
unfolding int one_over ◌*ℚ◌
to_transmittance = sound (record { same = refl })

to_resistance : int (pos (10 ^ 31)) *ℚ one_over (10 ^ 15) ≡ int (pos (10 ^ 16))
unfolding int one_over ◌*ℚ◌
to_resistance = sound (record { same = refl })

to_mean : int (pos (2 * 10 ^ 31)) *ℚ one_over (10 ^ 16) ≡ int (pos (2 * 10 ^ 15))
unfolding int one_over ◌*ℚ◌
to_mean = sound (record { same = refl })

two : inverse (one_over 2) ≡ int (pos 2)
unfolding inverse one_over int
two = sound (record { same = refl })

scaled_ratio : (k z : ℕ) (o : ℚ) → int (pos k) *ℚ (int (pos z) *ℚ o) ≡ int (pos (z * k)) *ℚ o
scaled_ratio k z o = swapped (int (pos k)) (int (pos z)) o ∙ ap (λ (t : ℚ). t *ℚ o) (sym (int-mul (pos z) (pos k)))
  where
    swapped : (x y w : ℚ) → x *ℚ (y *ℚ w) ≡ y *ℚ x *ℚ w
    swapped x y w = by_reading {atoms = x ∷ y ∷ w ∷ []} (search reading) (search reading) refl

surfaces-encloses : (p : Part) → Encloses (P.surfaces p) (int (pos (10 ^ 16)) *ℚ T.surfaces p)
surfaces-encloses p = subst (λ (t : ℚ). Encloses (P.surfaces p) t) (sym same) (exactly-encloses (pos ((p.rsi + p.rse) * 10 ^ 12)))
  where
    turned : (k z o : ℚ) → k *ℚ (z *ℚ o) ≡ z *ℚ (k *ℚ o)
    turned k z o = by_reading {atoms = k ∷ z ∷ o ∷ []} (search reading) (search reading) refl

    same : int (pos (10 ^ 16)) *ℚ T.surfaces p ≡ int (pos ((p.rsi + p.rse) * 10 ^ 12))
    same = turned (int (pos (10 ^ 16))) (int (pos (p.rsi + p.rse))) (one_over 10000)
        ∙ ap (λ (t : ℚ). int (pos (p.rsi + p.rse)) *ℚ t) surface_unit ∙ sym (int-mul (pos (p.rsi + p.rse)) (pos (10 ^ 12)))

-- ---- through a section

layer-encloses : (d : Detail) (l : Layer) (s : ℕ) → 0 < conductivity d l s → Encloses (P.layer_in_section d l s) (int (pos (10 ^ 16)) *ℚ T.resistance d l s)
layer-encloses d l s h = subst (λ (t : ℚ). Encloses (P.layer_in_section d l s) t)
    (sym (scaled_ratio (10 ^ 16) l.thickness (one_over (conductivity d l s))))
    (quotient-encloses (pos (l.thickness * 10 ^ 16)) (conductivity d l s) h)

-- the surfaces and all layers
path-encloses : (p : Part) (f : ℕ → Bounds) (r : ℕ → ℚ) → ((j : ℕ) → j < layers p → Encloses (f j) (int (pos (10 ^ 16)) *ℚ r j))
    → Encloses (plus (P.surfaces p) (B.total (layers p) f)) (int (pos (10 ^ 16)) *ℚ (T.surfaces p +ℚ total (layers p) r))
path-encloses p f r h = subst (λ (t : ℚ). Encloses (plus (P.surfaces p) (B.total (layers p) f)) t)
    (ap (λ (t : ℚ). k *ℚ T.surfaces p +ℚ t) (total-times k (layers p) r) ∙ sym (*ℚ_dist k (T.surfaces p) (total (layers p) r)))
    (plus-encloses (P.surfaces p) (B.total (layers p) f) (k *ℚ T.surfaces p) (total (layers p) (λ j. k *ℚ r j)) (surfaces-encloses p)
    (total-encloses (layers p) f (λ j. k *ℚ r j) h))
  where
    k : ℚ
    k = int (pos (10 ^ 16))

-- every layer of every section conducts
pub record Conducts (d : Detail) (p : Part) : Type 0 where
  pub each : (j s : ℕ) → j < layers p → s < sections p → 0 < conductivity d (layer p j) s
  pub some_area : 0 < total_area p

pub section-encloses : (d : Detail) (p : Part) (s : ℕ) → Conducts d p → s < sections p → Encloses (P.section_resistance d p s) (int (pos (10 ^ 16)) *ℚ T.section_resistance d p s)
unfolding P.section_resistance T.section_resistance
section-encloses d p s h b = path-encloses p (λ j. P.layer_in_section d (layer p j) s) (λ j. T.resistance d (layer p j) s)
    (λ j l. layer-encloses d (layer p j) s (h.each j s l b))

pub section_transmittance-encloses : (d : Detail) (p : Part) (s : ℕ) → Conducts d p → s < sections p → pos 0 <ℤ (P.section_resistance d p s).low
    → Encloses (P.section_transmittance d p s) (int (pos (10 ^ 15)) *ℚ inverse (T.section_resistance d p s))
unfolding P.section_transmittance
section_transmittance-encloses d p s h b l = subst (λ (t : ℚ). Encloses (P.section_transmittance d p s) t)
    (over_scaled (10 ^ 31) (10 ^ 16) (10 ^ 15) (T.section_resistance d p s) to_transmittance)
    (over-encloses (10 ^ 31) (P.section_resistance d p s) (int (pos (10 ^ 16)) *ℚ T.section_resistance d p s) l (section-encloses d p s h b))

-- ---- the upper limit

-- the low end of each section's resistance is above 0
abbrev pub ArePositive : Detail → Part → Type 0
ArePositive d p = (s : ℕ) → s < sections p → pos 0 <ℤ (P.section_resistance d p s).low

-- 1/R' of ISO 6946
abbrev mean : Detail → Part → ℚ
mean d p = total (sections p) (λ s. T.fraction p s /ℚ T.section_resistance d p s)

mean-encloses : (d : Detail) (p : Part) → Conducts d p → ArePositive d p → Encloses (P.mean_transmittance d p) (int (pos (10 ^ 15)) *ℚ mean d p)
unfolding P.mean_transmittance
mean-encloses d p h l = subst (λ (t : ℚ). Encloses (P.mean_transmittance d p) t) same
    (divided-encloses (B.total n f) (total_area p) (total n (λ s. a s *ℚ u s)) h.some_area
    (total-encloses n f (λ s. a s *ℚ u s) (λ s b. times-encloses (area p s) (P.section_transmittance d p s) (u s)
    (section_transmittance-encloses d p s h b (l s b)))))
  where
    n : ℕ
    n = sections p

    f : ℕ → Bounds
    f s = B.times (area p s) (P.section_transmittance d p s)

    k : ℚ
    k = int (pos (10 ^ 15))

    a : ℕ → ℚ
    a s = int (pos (area p s))

    u : ℕ → ℚ
    u s = k *ℚ inverse (T.section_resistance d p s)

    o : ℚ
    o = one_over (total_area p)

    regrouped : (x y z w : ℚ) → w *ℚ (x *ℚ (y *ℚ z)) ≡ y *ℚ (x *ℚ w *ℚ z)
    regrouped x y z w = by_reading {atoms = x ∷ y ∷ z ∷ w ∷ []} (search reading) (search reading) refl

    same : total n (λ s. a s *ℚ u s) *ℚ o ≡ k *ℚ mean d p
    same = *ℚ_comm (total n (λ s. a s *ℚ u s)) o ∙ sym (total-times o n (λ s. a s *ℚ u s))
        ∙ total-cong n (λ s. o *ℚ (a s *ℚ u s)) (λ s. k *ℚ (T.fraction p s /ℚ T.section_resistance d p s))
        (λ s b. regrouped (a s) k (inverse (T.section_resistance d p s)) o)
        ∙ total-times k n (λ s. T.fraction p s /ℚ T.section_resistance d p s)

pub upper-encloses : (d : Detail) (p : Part) → Conducts d p → ArePositive d p → pos 0 <ℤ (P.mean_transmittance d p).low
    → Encloses (P.upper_limit d p) (int (pos (10 ^ 16)) *ℚ T.upper_limit d p)
unfolding P.upper_limit T.upper_limit
upper-encloses d p h k l = subst (λ (t : ℚ). Encloses (P.upper_limit d p) t)
    (over_scaled (10 ^ 31) (10 ^ 15) (10 ^ 16) (mean d p) to_resistance)
    (over-encloses (10 ^ 31) (P.mean_transmittance d p) (int (pos (10 ^ 15)) *ℚ mean d p) l (mean-encloses d p h k))

-- ---- the lower limit

-- the conductances of a layer's sections side by side
across : (d : Detail) (p : Part) (l : Layer) → T.side_by_side p (T.resistance d l) ≡ ratio (pos (total_area p * l.thickness)) (weighted_conductivity d p l)
across d p l = ap inverse summed ∙ inverse-ratio (weighted_conductivity d p l) (total_area p * l.thickness)
  where
    n : ℕ
    n = sections p

    term : ℕ → ℚ
    term s = int (pos (area p s * conductivity d l s))

    o : ℚ
    o = one_over (total_area p * l.thickness)

    regrouped : (x y z w : ℚ) → x *ℚ y *ℚ (z *ℚ w) ≡ y *ℚ w *ℚ (x *ℚ z)
    regrouped x y z w = by_reading {atoms = x ∷ y ∷ z ∷ w ∷ []} (search reading) (search reading) refl

    each : (s : ℕ) → T.fraction p s /ℚ T.resistance d l s ≡ o *ℚ term s
    each s = ap (λ (t : ℚ). T.fraction p s *ℚ t) (inverse-ratio l.thickness (conductivity d l s))
        ∙ regrouped (int (pos (area p s))) (one_over (total_area p)) (int (pos (conductivity d l s))) (one_over l.thickness)
        ∙ ap (λ (t : ℚ). t *ℚ (int (pos (area p s)) *ℚ int (pos (conductivity d l s)))) (sym (one_over-mul (total_area p) l.thickness))
        ∙ ap (λ (t : ℚ). o *ℚ t) (sym (int-mul (pos (area p s)) (pos (conductivity d l s))))

    counted : total n term ≡ int (pos (weighted_conductivity d p l))
    counted = sum-relates (int (pos 0)) ◌+ℚ◌ 0 ◌+◌ (λ q m. q ≡ int (pos m)) refl
        (λ x y i j e f. ap (λ (t : ℚ). t +ℚ y) e ∙ ap (λ (t : ℚ). int (pos i) +ℚ t) f ∙ sym (int-add (pos i) (pos j)))
        n term (λ s. area p s * conductivity d l s) (λ s b. refl)

    summed : total n (λ s. T.fraction p s /ℚ T.resistance d l s) ≡ ratio (pos (weighted_conductivity d p l)) (total_area p * l.thickness)
    summed = total-cong n (λ s. T.fraction p s /ℚ T.resistance d l s) (λ s. o *ℚ term s) (λ s b. each s) ∙ total-times o n term
        ∙ ap (λ (t : ℚ). o *ℚ t) counted ∙ *ℚ_comm o (int (pos (weighted_conductivity d p l)))

across-encloses : (d : Detail) (p : Part) (l : Layer) → 0 < weighted_conductivity d p l
    → Encloses (P.layer_across d p l) (int (pos (10 ^ 16)) *ℚ T.side_by_side p (T.resistance d l))
across-encloses d p l h = subst (λ (t : ℚ). Encloses (P.layer_across d p l) t) (sym same)
    (quotient-encloses (pos (l.thickness * total_area p * 10 ^ 16)) (weighted_conductivity d p l) h)
  where
    turned : (a t k : ℕ) → a * t * k ≡ t * a * k
    turned a t k = ap (λ (m : ℕ). m * k) (commuted a t)
      where
        commuted : (a t : ℕ) → a * t ≡ t * a
        commuted a t = omega arith

    same : int (pos (10 ^ 16)) *ℚ T.side_by_side p (T.resistance d l) ≡ ratio (pos (l.thickness * total_area p * 10 ^ 16)) (weighted_conductivity d p l)
    same = ap (λ (t : ℚ). int (pos (10 ^ 16)) *ℚ t) (across d p l)
        ∙ scaled_ratio (10 ^ 16) (total_area p * l.thickness) (one_over (weighted_conductivity d p l))
        ∙ ap (λ (m : ℕ). ratio (pos m) (weighted_conductivity d p l)) (turned (total_area p) l.thickness (10 ^ 16))

pub lower-encloses : (d : Detail) (p : Part) → ((j : ℕ) → j < layers p → 0 < weighted_conductivity d p (layer p j))
    → Encloses (P.lower_limit d p) (int (pos (10 ^ 16)) *ℚ T.lower_limit d p)
unfolding P.lower_limit T.lower_limit
lower-encloses d p h = path-encloses p (λ j. P.layer_across d p (layer p j)) (λ j. T.side_by_side p (T.resistance d (layer p j)))
    (λ j l. across-encloses d p (layer p j) (h j l))

-- ---- both

pub mean_of-encloses : (a b : Bounds) (p q : ℚ) → pos 0 <ℤ (plus a b).low → Encloses a (int (pos (10 ^ 16)) *ℚ p) → Encloses b (int (pos (10 ^ 16)) *ℚ q)
    → Encloses (B.over (pos (2 * 10 ^ 31)) (plus a b)) (int (pos (10 ^ 15)) *ℚ inverse ((p +ℚ q) *ℚ one_over 2))
mean_of-encloses a b p q l h k = subst (λ (t : ℚ). Encloses (B.over (pos (2 * 10 ^ 31)) (plus a b)) t)
    (over_scaled (2 * 10 ^ 31) (10 ^ 16) (2 * 10 ^ 15) (p +ℚ q) to_mean ∙ halved)
    (over-encloses (2 * 10 ^ 31) (plus a b) (int (pos (10 ^ 16)) *ℚ (p +ℚ q)) l
    (subst (λ (t : ℚ). Encloses (plus a b) t) (sym (*ℚ_dist (int (pos (10 ^ 16))) p q)) (plus-encloses a b _ _ h k)))
  where
    regrouped : (x y z : ℚ) → x *ℚ y *ℚ z ≡ y *ℚ (z *ℚ x)
    regrouped x y z = by_reading {atoms = x ∷ y ∷ z ∷ []} (search reading) (search reading) refl

    halved : int (pos (2 * 10 ^ 15)) *ℚ inverse (p +ℚ q) ≡ int (pos (10 ^ 15)) *ℚ inverse ((p +ℚ q) *ℚ one_over 2)
    halved = ap (λ (t : ℚ). t *ℚ inverse (p +ℚ q)) (int-mul (pos 2) (pos (10 ^ 15)))
        ∙ regrouped (int (pos 2)) (int (pos (10 ^ 15))) (inverse (p +ℚ q))
        ∙ ap (λ (t : ℚ). int (pos (10 ^ 15)) *ℚ (inverse (p +ℚ q) *ℚ t)) (sym two)
        ∙ ap (λ (t : ℚ). int (pos (10 ^ 15)) *ℚ t) (sym (inverse-mul (p +ℚ q) (one_over 2)))
