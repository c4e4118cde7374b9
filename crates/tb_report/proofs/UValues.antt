-- The ends of a part's U-value hold its transmittance by ISO 6946.
use Rattle.std.proofs.Common.{◌≡◌, ◌≢◌, ap, subst, ℕ, zero, suc, ◌+◌, ◌*◌, ◌^◌, ◌<◌, ◌≤◌, ◌==◌, ℤ, pos, ◌+ℤ◌, ◌*ℤ◌, ◌≤ℤ◌, ◌<ℤ◌, Ok, inl, inr, arith}
use Rattle.std.proofs.lemmas.Bool.{cases_Bool}
use Rattle.std.proofs.lemmas.Bool.Decides.{nat_tests}
use Rattle.std.proofs.lemmas.Int.{ints}
use Rattle.std.proofs.lemmas.List.Elements.{All-get_or}
use Rattle.tb_math.specs.Integers.{mul_le}
use Rattle.tb_math.specs.Rational.{int, ◌*ℚ◌}
use Rattle.tb_numbers.specs.Quotients.{floor}
use Rattle.tb_math.proofs.SumLaws.{sum-relates}
use Rattle.tb_detail.specs.declared.Detail.{Detail}
use Rattle.tb_detail.specs.declared.Part.{Part}
use Rattle.tb_detail.specs.Limits.{LayerInLimits}
use Rattle.tb_planar.specs.declared.PlanarU.{PlanarU}
use Rattle.tb_planar.specs.declared.URange.{URange}
use Rattle.tb_planar.specs.Bounds.{Encloses, IsResistance, IsTransmittance, IsWithin, exactly, over, plus, times, total}
use Rattle.tb_planar.specs.Parts.{HasPart}
use Rattle.tb_planar.specs.Printed.{HoldsTransmittance, answer, is_ratio_above, layer_across, layer_in_section, lower_limit, mean_transmittance, section_resistance, section_transmittance, transmittance, upper_limit}
use Rattle.tb_planar.specs.Sections.{area, conductivity, layer, layers, no_layer, sections, total_area, weighted_conductivity}
use Rattle.tb_planar.specs.Transmittance as exact
use Rattle.tb_numbers.proofs.QuotientLaws.{floor_not_negative}
use Rattle.tb_planar.proofs.Answering.{exact_one, exact_several}
use Rattle.tb_planar.proofs.Conducting.{are_positive, conducts, weights_positive}
use Rattle.tb_planar.proofs.Parts.{lower-encloses, mean_of-encloses, section_transmittance-encloses, upper-encloses}
use Rattle.tb_planar.proofs.Sizes.{divided-size, quotient-size, resistance-size, transmittance-size}
use Rattle.tb_report.specs.Values.{range_of}

-- ---- how large the resistance of a section is

layer_limits : (d : Detail) (p : Part) (j : ℕ) → HasPart d p → j < layers p → LayerInLimits d (sections p) (layer p j)
layer_limits d p j h b = All-get_or (LayerInLimits d (sections p)) p.layers j no_layer b h.part.layers

layer_size : (d : Detail) (p : Part) (s j : ℕ) → HasPart d p → s < sections p → j < layers p → IsWithin (5 * 10 ^ 21) (layer_in_section d (layer p j) s)
layer_size d p s j h b e =
    let conducting : 0 < conductivity d (layer p j) s = (conducts d p h).each j s e b in
    let thin = (layer_limits d p j h e).thickness.high in
    quotient-size ((layer p j).thickness * 10 ^ 16) (conductivity d (layer p j) s) (5 * 10 ^ 21) conducting (omega arith)

one_more : (n most : ℕ) (a b : _) → IsWithin (n * most) a → IsWithin most b → IsWithin (suc n * most) (plus a b)
one_more n most a b h k = record { not_negative = omega (arith, ints); ordered = omega (arith, ints); at_most = omega (arith, ints) }

total-size : (n most : ℕ) (f : ℕ → _) → ((j : ℕ) → j < n → IsWithin most (f j)) → IsWithin (n * most) (total n f)
total-size zero most f h = record { not_negative = omega (arith, ints); ordered = omega (arith, ints); at_most = omega (arith, ints) }
total-size (suc n) most f h = one_more n most (total n f) (f n) (total-size n most f (λ j b. h j (omega arith))) (h n (omega arith))

section-size : (d : Detail) (p : Part) (s : ℕ) → HasPart d p → s < sections p → IsResistance (section_resistance d p s)
unfolding section_resistance
section-size d p s h b =
    let sum = total-size (layers p) (5 * 10 ^ 21) (λ j. layer_in_section d (layer p j) s) (λ j e. layer_size d p s j h b e) in
    with_surfaces p.rsi p.rse (layers p) (total (layers p) (λ j. layer_in_section d (layer p j) s)) h.part.rsi.low h.part.rsi.high h.part.rse.low h.part.rse.high h.part.few_layers sum
  where
    with_surfaces : (rsi rse n : ℕ) (b : _) → 1 ≤ rsi → rsi ≤ 100000 → 1 ≤ rse → rse ≤ 100000 → n ≤ 16 → IsWithin (n * (5 * 10 ^ 21)) b
        → IsResistance (plus (exactly (pos ((rsi + rse) * 10 ^ 12))) b)
    with_surfaces rsi rse n b rl rh el eh few w = record { at_least = omega (arith, ints); ordered = omega (arith, ints); at_most = omega (arith, ints) }

u_size : (d : Detail) (p : Part) (s : ℕ) → HasPart d p → s < sections p → IsTransmittance (section_transmittance d p s)
unfolding section_transmittance
u_size d p s h b = transmittance-size (section_resistance d p s) (section-size d p s h b)

-- ---- how large their mean is

-- bounds of a transmittance, times so many
record IsWeighted (n : ℕ) (low high : ℤ) : Type 0 where
  at_least : pos (n * 10 ^ 8) ≤ℤ low
  ordered : low ≤ℤ high
  at_most : high ≤ℤ pos (n * (5 * 10 ^ 18))

weighted : (k least most : ℕ) (x y : ℤ) → pos least ≤ℤ x → x ≤ℤ y → y ≤ℤ pos most
    → (pos (k * least) ≤ℤ (pos k *ℤ x)) × (((pos k *ℤ x) ≤ℤ (pos k *ℤ y)) × ((pos k *ℤ y) ≤ℤ pos (k * most)))
weighted k least most x y h l m =
    let low = mul_le (pos k) (pos least) x (omega (arith, ints)) h in
    let between = mul_le (pos k) x y (omega (arith, ints)) l in
    let high = mul_le (pos k) y (pos most) (omega (arith, ints)) m in
    (omega (arith, ints, low), (between, omega (arith, ints, high)))

weighted-size : (k : ℕ) (b : _) → IsTransmittance b → IsWeighted k (times k b).low (times k b).high
weighted-size k b h =
    let w = weighted k (10 ^ 8) (5 * 10 ^ 18) b.low b.high h.at_least h.ordered h.at_most in
    record { at_least = w.0; ordered = w.1.0; at_most = w.1.1 }

weights_add : (n m : ℕ) (low high low' high' : ℤ) → IsWeighted n low high → IsWeighted m low' high' → IsWeighted (n + m) (low +ℤ low') (high +ℤ high')
weights_add n m low high low' high' h k = record {
  at_least = omega (arith, ints, h.at_least, k.at_least);
  ordered = omega (arith, ints, h.ordered, k.ordered);
  at_most = omega (arith, ints, h.at_most, k.at_most);
}

no_weight : IsWeighted 0 (pos 0) (pos 0)
no_weight = record { at_least = omega (arith, ints); ordered = omega (arith, ints); at_most = omega (arith, ints) }

mean_size : (d : Detail) (p : Part) → HasPart d p → IsTransmittance (mean_transmittance d p)
unfolding mean_transmittance
mean_size d p h =
    let sum = sum-relates (exactly (pos 0)) plus 0 ◌+◌ (λ b n. IsWeighted n b.low b.high) no_weight (λ x x' y y' k l. weights_add y y' x.low x.high x'.low x'.high k l)
    (sections p) (λ s. times (area p s) (section_transmittance d p s)) (area p) (λ s b. weighted-size (area p s) (section_transmittance d p s) (u_size d p s h b)) in
    let s = divided-size (total (sections p) (λ s. times (area p s) (section_transmittance d p s))) (total_area p) (10 ^ 8) (5 * 10 ^ 18) (conducts d p h).some_area sum.at_least sum.ordered sum.at_most in
    record { at_least = s.at_least; ordered = s.ordered; at_most = s.at_most }

upper-size : (d : Detail) (p : Part) → HasPart d p → IsResistance (upper_limit d p)
unfolding upper_limit
upper-size d p h = resistance-size (mean_transmittance d p) (mean_size d p h)

across_low : (d : Detail) (p : Part) (j : ℕ) → HasPart d p → j < layers p → pos 0 ≤ℤ (layer_across d p (layer p j)).low
across_low d p j h b = low (weighted_conductivity d p (layer p j)) ((layer p j).thickness * total_area p * 10 ^ 16) (weights_positive d p h j b)
  where
    above : (n : ℕ) → 0 < n → pos 0 <ℤ pos n
    above n k = omega (arith, ints)

    low : (n z : ℕ) → 0 < n → pos 0 ≤ℤ floor (pos z) (pos n)
    low n z k = floor_not_negative (pos z) (pos n) (above n k) (omega (arith, ints))

lower_low : (d : Detail) (p : Part) → HasPart d p → pos 0 ≤ℤ (lower_limit d p).low
unfolding lower_limit
lower_low d p h = added ((p.rsi + p.rse) * 10 ^ 12) (total (layers p) (λ j. layer_across d p (layer p j))).low
    (sum-relates (exactly (pos 0)) plus 0 ◌+◌ (λ b m. pos 0 ≤ℤ b.low) (omega (arith, ints)) (λ a b i j k l. both a.low b.low k l)
    (layers p) (λ j. layer_across d p (layer p j)) (λ j. 0) (λ j b. across_low d p j h b))
  where
    both : (x y : ℤ) → pos 0 ≤ℤ x → pos 0 ≤ℤ y → pos 0 ≤ℤ (x +ℤ y)
    both x y k l = omega (arith, ints)

    added : (n : ℕ) (x : ℤ) → pos 0 ≤ℤ x → pos 0 ≤ℤ (pos n +ℤ x)
    added n x h = omega (arith, ints)

-- ---- the transmittance of a part

of_one : (d : Detail) (p : Part) → HasPart d p → sections p ≡ 1 → Encloses (section_transmittance d p 0) (int (pos (10 ^ 15)) *ℚ exact.transmittance d p)
of_one d p h one =
    let first : 0 < sections p = omega (arith, one) in
    rw (← exact_one d p one) (section_transmittance-encloses d p 0 (conducts d p h) first (are_positive d p h 0 first))

of_several : (d : Detail) (p : Part) → HasPart d p → sections p ≢ 1 → Encloses (over (pos (2 * 10 ^ 31)) (plus (upper_limit d p) (lower_limit d p))) (int (pos (10 ^ 15)) *ℚ exact.transmittance d p)
of_several d p h several =
    rw (← exact_several d p several)
    (mean_of-encloses (upper_limit d p) (lower_limit d p) (exact.upper_limit d p) (exact.lower_limit d p) (above (upper_limit d p) (lower_limit d p).low (upper-size d p h) (lower_low d p h))
    (upper-encloses d p (conducts d p h) (are_positive d p h) (positive (mean_transmittance d p) (mean_size d p h)))
    (lower-encloses d p (weights_positive d p h)))
  where
    above : (b : _) (x : ℤ) → IsResistance b → pos 0 ≤ℤ x → pos 0 <ℤ (b.low +ℤ x)
    above b x h k = omega (arith, ints, h.at_least)

    positive : (b : _) → IsTransmittance b → pos 0 <ℤ b.low
    positive b h = omega (arith, ints, h.at_least)

ends_hold : (d : Detail) (p : Part) → HasPart d p → Encloses (transmittance d p) (int (pos (10 ^ 15)) *ℚ exact.transmittance d p)
unfolding transmittance
ends_hold d p h = elim (cases_Bool (sections p == 1)) [
  | inl one ↦ rw one (of_one d p h (grind (arith, nat_tests)))
  | inr several ↦ rw several (of_several d p h (λ e. grind (arith, nat_tests)))
]

-- what is printed of a part that isn't refused
pub answer_holds : (d : Detail) (p : Part) (v : PlanarU) → HasPart d p → answer d p ≡ Ok v → HoldsTransmittance v.u (exact.transmittance d p)
unfolding answer
answer_holds d p v h is = elim (cases_Bool (is_ratio_above d p)) [
  | inl above ↦ absurd (cc (rw above at is))
  | inr below ↦ subst (λ (u : URange). HoldsTransmittance u (exact.transmittance d p)) (ap range_of (rw below at is)) (ends_hold d p h)
]
