-- The lower limit isn't above the upper one, and the printed relative error holds the exact one.
use Rattle.std.proofs.Common.{◌≡◌, refl, sym, ap, ◌∙◌, subst, ℕ, ◌+◌, ◌^◌, ◌<◌, ℤ, pos, ◌-ℤ◌, ◌+ℤ◌, ◌*ℤ◌, ◌≤ℤ◌, ◌<ℤ◌, [], ◌∷◌, arith}
use Rattle.std.proofs.lemmas.Int.{ints}
use Rattle.std.specs.Prelude.{◌≢◌}
use Rattle.tb_detail.specs.declared.Detail.{Detail}
use Rattle.tb_detail.specs.declared.Part.{Part}
use Rattle.tb_math.specs.Division.{inverse, ◌/ℚ◌}
use Rattle.tb_math.specs.Rational.{ℚ, int, neg_ℚ, one_over, ratio, ◌+ℚ◌, ◌-ℚ◌, ◌*ℚ◌, ◌≤ℚ◌, ◌<ℚ◌}
use Rattle.tb_math.specs.Sums.{total}
use Rattle.tb_math.proofs.DivisionLaws.{inverse-int, inverse-is_positive, product-is_positive}
use Rattle.tb_math.proofs.RationalLaws.{*ℚ_comm, int-add, int-difference, int-mul, one_over_cancel}
use Rattle.tb_math.proofs.RationalOrder.{≤ℚ-add, ≤ℚ-int, ≤ℚ-refl, ≤ℚ-trans}
use Rattle.tb_math.proofs.RationalProducts.{≤ℚ-mul, ≤ℚ-neg, cancel_le_ℚ}
use Rattle.tb_math.proofs.RationalSums.{total-cong, total-times}
use Rattle.tb_math.proofs.StrictOrder.{<ℚ-int, <-≤-trans, int-≤}
use Rattle.tb_math.proofs.SumLaws.{sum-relates}
use Rattle.tb_math.proofs.ReadRationals.{by_reading, reading}
use Rattle.tb_numbers.specs.Quotients.{ceiling}
use Rattle.tb_numbers.proofs.QuotientLaws.{ceiling_brackets, floor_at_most_ceiling, floor_not_negative}
use Rattle.tb_planar.specs.declared.bounds.Bounds.{Bounds}
use Rattle.tb_planar.specs.Bounds.{Encloses, plus}
use Rattle.tb_planar.specs.Parts.{HasPart}
use Rattle.tb_planar.specs.Printed as P
use Rattle.tb_planar.specs.Printed.{HoldsError}
use Rattle.tb_planar.specs.Sections.{area, conductivity, layer, layers, sections, total_area}
use Rattle.tb_planar.specs.Transmittance as T
use Rattle.tb_planar.proofs.Answering.{several}
use Rattle.tb_planar.proofs.Conducting.{area_positive, conducts, layer_limits}
use Rattle.tb_planar.proofs.Enclosing.{above_over}
use Rattle.tb_planar.proofs.SideBySide.{AreShares, layers_apart}

-- ---- the limits

pub ratio_positive : (m n : ℕ) → 0 < m → 0 < n → int (pos 0) <ℚ ratio (pos m) n
ratio_positive m n h k = product-is_positive (int (pos m)) (one_over n) (<ℚ-int (pos 0) (pos m) (omega (arith, ints)))
    (subst (λ (t : ℚ). int (pos 0) <ℚ t) (inverse-int n) (inverse-is_positive (int (pos n)) (<ℚ-int (pos 0) (pos n) (omega (arith, ints)))))

-- the sections' shares of the area
shares : (d : Detail) (p : Part) → HasPart d p → AreShares (sections p) (T.fraction p)
shares d p h = record {
  some = omega (arith, h.part.some_area);
  positive = λ s b. ratio_positive (area p s) (total_area p) (area_positive d p s h b) (conducts d p h).some_area;
  whole = total-cong n (T.fraction p) (λ s. o *ℚ int (pos (area p s))) (λ s b. *ℚ_comm (int (pos (area p s))) o) ∙ total-times o n (λ s. int (pos (area p s)))
      ∙ ap (λ (t : ℚ). o *ℚ t) counted ∙ *ℚ_comm o (int (pos (total_area p))) ∙ one_over_cancel (total_area p) (conducts d p h).some_area;
}
  where
    n : ℕ
    n = sections p

    o : ℚ
    o = one_over (total_area p)

    counted : total n (λ s. int (pos (area p s))) ≡ int (pos (total_area p))
    counted = sum-relates (int (pos 0)) ◌+ℚ◌ 0 ◌+◌ (λ q m. q ≡ int (pos m)) refl
        (λ x y i j e f. ap (λ (t : ℚ). t +ℚ y) e ∙ ap (λ (t : ℚ). int (pos i) +ℚ t) f ∙ sym (int-add (pos i) (pos j)))
        n (λ s. int (pos (area p s))) (area p) (λ s b. refl)

surfaces_positive : (d : Detail) (p : Part) → HasPart d p → int (pos 0) <ℚ T.surfaces p
surfaces_positive d p h = ratio_positive (p.rsi + p.rse) 10000 (omega (arith, h.part.rsi.low)) (omega arith)

pub limits_ordered : (d : Detail) (p : Part) → HasPart d p → T.lower_limit d p ≤ℚ T.upper_limit d p
unfolding T.lower_limit T.upper_limit T.section_resistance
limits_ordered d p h = layers_apart (sections p) (T.fraction p) (shares d p h) (T.surfaces p) (surfaces_positive d p h) (layers p) (λ j s. T.resistance d (layer p j) s)
    (λ j s b l. ratio_positive (layer p j).thickness (conductivity d (layer p j) s) (omega (arith, (layer_limits d p j h b).thickness.low)) ((conducts d p h).each j s b l))

-- ---- the error

-- bounds around two resistances, the second no greater than the first
module _ (a b : Bounds) (p q : ℚ) (above : pos 0 <ℤ (plus a b).low) (first : Encloses a (int (pos (10 ^ 16)) *ℚ p)) (second : Encloses b (int (pos (10 ^ 16)) *ℚ q)) (ordered : q ≤ℚ p) where
  abbrev k : ℚ
  k = int (pos (10 ^ 16))

  k_positive : int (pos 0) ≤ℚ k
  k_positive = ≤ℚ-int (pos 0) (pos (10 ^ 16)) (omega (arith, ints))

  abbrev difference : ℤ
  difference = pos (10 ^ 4) *ℤ (a.high -ℤ b.low)

  abbrev sum : ℤ
  sum = a.low +ℤ b.low

  abbrev e : ℤ
  e = ceiling difference sum

  bounded : difference ≤ℤ (e *ℤ sum)
  bounded = (ceiling_brackets difference sum above).at_least

  not_negative : pos 0 ≤ℤ e
  not_negative = omega (arith, ints, floor_not_negative difference sum above (omega (arith, ints, ends)), floor_at_most_ceiling difference sum above)
    where
      ends : b.low ≤ℤ a.high
      ends = int-≤ b.low a.high (≤ℚ-trans (int b.low) (k *ℚ q) (int a.high) second.above_low
          (≤ℚ-trans (k *ℚ q) (k *ℚ p) (int a.high) (≤ℚ-mul k q p k_positive ordered) first.below_high))

  -- both sides in 10⁻¹⁶ m²K/W
  left : k *ℚ (int (pos (10 ^ 4)) *ℚ (p -ℚ q)) ≤ℚ int difference
  left = subst (λ (t : ℚ). t ≤ℚ int difference) (spread (int (pos (10 ^ 4))) k p q)
      (subst (λ (t : ℚ). int (pos (10 ^ 4)) *ℚ (k *ℚ p -ℚ k *ℚ q) ≤ℚ t) (ap (λ (t : ℚ). int (pos (10 ^ 4)) *ℚ t) (sym (int-difference a.high b.low)) ∙ sym (int-mul (pos (10 ^ 4)) (a.high -ℤ b.low)))
      (≤ℚ-mul (int (pos (10 ^ 4))) (k *ℚ p -ℚ k *ℚ q) (int a.high -ℚ int b.low) (≤ℚ-int (pos 0) (pos (10 ^ 4)) (omega (arith, ints)))
      (≤ℚ-add (k *ℚ p) (int a.high) (neg_ℚ (k *ℚ q)) (neg_ℚ (int b.low)) first.below_high (≤ℚ-neg (int b.low) (k *ℚ q) second.above_low))))
    where
      spread : (n x p q : ℚ) → n *ℚ (x *ℚ p -ℚ x *ℚ q) ≡ x *ℚ (n *ℚ (p -ℚ q))
      spread n x p q = by_reading {atoms = n ∷ x ∷ p ∷ q ∷ []} (search reading depth 40 fits 20000) (search reading depth 40 fits 20000) refl

  right : int (e *ℤ sum) ≤ℚ k *ℚ (int e *ℚ (p +ℚ q))
  right = subst (λ (t : ℚ). int (e *ℤ sum) ≤ℚ t) (spread (int e) k p q)
      (subst (λ (t : ℚ). t ≤ℚ int e *ℚ (k *ℚ p +ℚ k *ℚ q)) (ap (λ (t : ℚ). int e *ℚ t) (sym (int-add a.low b.low)) ∙ sym (int-mul e sum))
      (≤ℚ-mul (int e) (int a.low +ℚ int b.low) (k *ℚ p +ℚ k *ℚ q) (≤ℚ-int (pos 0) e not_negative)
      (≤ℚ-add (int a.low) (k *ℚ p) (int b.low) (k *ℚ q) first.above_low second.above_low)))
    where
      spread : (n x p q : ℚ) → n *ℚ (x *ℚ p +ℚ x *ℚ q) ≡ x *ℚ (n *ℚ (p +ℚ q))
      spread n x p q = by_reading {atoms = n ∷ x ∷ p ∷ q ∷ []} (search reading) (search reading) refl

  multiplied : int (pos (10 ^ 4)) *ℚ (p -ℚ q) ≤ℚ int e *ℚ (p +ℚ q)
  multiplied = cancel_le_ℚ (10 ^ 16) (int (pos (10 ^ 4)) *ℚ (p -ℚ q)) (int e *ℚ (p +ℚ q)) (omega arith)
      (≤ℚ-trans (k *ℚ (int (pos (10 ^ 4)) *ℚ (p -ℚ q))) (int difference) (k *ℚ (int e *ℚ (p +ℚ q))) left
      (≤ℚ-trans (int difference) (int (e *ℤ sum)) (k *ℚ (int e *ℚ (p +ℚ q))) (≤ℚ-int difference (e *ℤ sum) bounded) right))

  sum_positive : int (pos 0) <ℚ p +ℚ q
  sum_positive = record {
    not_above = λ l. (<-≤-trans (int (pos 0)) (int sum) (k *ℚ (p +ℚ q)) (<ℚ-int (pos 0) sum above)
        (subst (λ (t : ℚ). t ≤ℚ k *ℚ (p +ℚ q)) (sym (int-add a.low b.low)) (subst (λ (t : ℚ). int a.low +ℚ int b.low ≤ℚ t) (shared k p q)
        (≤ℚ-add (int a.low) (k *ℚ p) (int b.low) (k *ℚ q) first.above_low second.above_low)))).not_above
        (subst (λ (t : ℚ). k *ℚ (p +ℚ q) ≤ℚ t) (nothing k) (≤ℚ-mul k (p +ℚ q) (int (pos 0)) k_positive l));
  }
    where
      shared : (x p q : ℚ) → x *ℚ p +ℚ x *ℚ q ≡ x *ℚ (p +ℚ q)
      shared x p q = by_reading {atoms = x ∷ p ∷ q ∷ []} (search reading) (search reading) refl

      nothing : (x : ℚ) → x *ℚ int (pos 0) ≡ int (pos 0)
      nothing x = by_reading {atoms = x ∷ []} (search reading) (search reading) refl

  pub error_held : HoldsError (P.relative_error a b) ((p -ℚ q) /ℚ (p +ℚ q))
  unfolding P.relative_error
  error_held = subst (λ (t : ℚ). t ≤ℚ int e) (regrouped (int (pos (10 ^ 4))) (p -ℚ q) (inverse (p +ℚ q)))
      (above_over (int e) (int (pos (10 ^ 4)) *ℚ (p -ℚ q)) (p +ℚ q) sum_positive multiplied)
    where
      regrouped : (x y z : ℚ) → x *ℚ y *ℚ z ≡ x *ℚ (y *ℚ z)
      regrouped x y z = by_reading {atoms = x ∷ y ∷ z ∷ []} (search reading) (search reading) refl

-- ---- the exact error

pub exact_error_one : (d : Detail) (p : Part) → sections p ≡ 1 → HoldsError (pos 0) (T.relative_error d p)
unfolding T.relative_error
exact_error_one d p one = rw one (subst (λ (t : ℚ). t ≤ℚ int (pos 0)) (sym (nothing (int (pos (10 ^ 4))))) (≤ℚ-refl (int (pos 0))))
  where
    nothing : (k : ℚ) → k *ℚ int (pos 0) ≡ int (pos 0)
    nothing k = by_reading {atoms = k ∷ []} (search reading) (search reading) refl

pub exact_error_several : (d : Detail) (p : Part) → sections p ≢ 1 → (T.upper_limit d p -ℚ T.lower_limit d p) /ℚ (T.upper_limit d p +ℚ T.lower_limit d p) ≡ T.relative_error d p
unfolding T.relative_error
exact_error_several d p h = let s = several p h in rw s refl
