-- Every layer of a part within limits conducts, so no bound of a resistance is 0.
use Rattle.std.proofs.Common.{ℕ, zero, suc, ◌+◌, ◌*◌, ◌<◌, [], length, get_or, ℤ, pos, ◌+ℤ◌, ◌≤ℤ◌, ◌<ℤ◌, arith}
use Rattle.std.proofs.lemmas.Int.{ints}
use Rattle.std.proofs.lemmas.List.{get_or-map}
use Rattle.std.proofs.lemmas.List.Elements.{All-get_or}
use Rattle.std.proofs.Math.Nat.{mul-le-mul_right}
use Rattle.std.specs.Prelude.{All}
use Rattle.tb_detail.specs.declared.Detail.{Detail}
use Rattle.tb_detail.specs.declared.Layer.{Layer}
use Rattle.tb_detail.specs.declared.Material.{Material}
use Rattle.tb_detail.specs.declared.Part.{Part}
use Rattle.tb_detail.specs.declared.quantity.Quantity.TheVariants as quantity
use Rattle.tb_detail.specs.Limits.{LayerInLimits}
use Rattle.tb_detail.specs.Quantities.{IsInRange}
use Rattle.tb_math.specs.Sums.{total_ℕ}
use Rattle.tb_math.proofs.SumLaws.{sum-relates}
use Rattle.tb_numbers.proofs.QuotientLaws.{floor_not_negative}
use Rattle.tb_planar.specs.declared.bounds.Bounds.{Bounds}
use Rattle.tb_planar.specs.Bounds.{exactly, plus, total}
use Rattle.tb_planar.specs.Parts.{HasPart}
use Rattle.tb_planar.specs.Printed.{layer_in_section, section_resistance}
use Rattle.tb_planar.specs.Sections.{area, conductivity, layer, layers, no_layer, sections, weighted_conductivity}
use Rattle.tb_planar.proofs.Parts.{ArePositive, Conducts}

-- the conductivity of any material of the detail
no_material : Material
no_material = record { name = []; lambda = 0 }

pub conductivity_positive : (d : Detail) (n : ℕ) (l : Layer) (s : ℕ) → All (λ (m : Material). IsInRange quantity.Conductivity m.lambda) d.materials → LayerInLimits d n l → s < n
    → 0 < conductivity d l s
unfolding conductivity
conductivity_positive d n l s h k b =
    let each : s < length l.materials = omega (arith, k.one_each) in
    let known = All-get_or (λ material. material < length d.materials) l.materials s 0 each k.known in
    let range = All-get_or (λ (m : Material). IsInRange quantity.Conductivity m.lambda) d.materials (get_or l.materials s 0) no_material known h in
    let same = get_or-map (λ (m : Material). m.lambda) d.materials (get_or l.materials s 0) no_material 0 known in
    omega (arith, same, range.low)

pub layer_limits : (d : Detail) (p : Part) (j : ℕ) → HasPart d p → j < layers p → LayerInLimits d (sections p) (layer p j)
layer_limits d p j h b = All-get_or (LayerInLimits d (sections p)) p.layers j no_layer b h.part.layers

pub area_positive : (d : Detail) (p : Part) (s : ℕ) → HasPart d p → s < sections p → 0 < area p s
area_positive d p s h b = let r = All-get_or (IsInRange quantity.Section) p.areas s 0 b h.part.areas in omega (arith, r.low)

-- a sum of some numbers above 0
sum_positive : (n : ℕ) (f : ℕ → ℕ) → 0 < n → ((i : ℕ) → i < n → 0 < f i) → 0 < total_ℕ n f
sum_positive zero f h k = absurd (omega arith)
sum_positive (suc n) f h k = omega (arith, k n (omega arith))

product_positive : (a b : ℕ) → 0 < a → 0 < b → 0 < a * b
product_positive a b h k = omega (arith, mul-le-mul_right b h)

pub conducts : (d : Detail) (p : Part) → HasPart d p → Conducts d p
conducts d p h = record {
  each = λ j s b e. conductivity_positive d (sections p) (layer p j) s h.conductivities (layer_limits d p j h b) e;
  some_area = sum_positive (sections p) (area p) (omega (arith, h.part.some_area)) (λ s b. area_positive d p s h b);
}

pub weights_positive : (d : Detail) (p : Part) → HasPart d p → (j : ℕ) → j < layers p → 0 < weighted_conductivity d p (layer p j)
weights_positive d p h j b = sum_positive (sections p) (λ s. area p s * conductivity d (layer p j) s) (omega (arith, h.part.some_area))
    (λ s e. product_positive (area p s) (conductivity d (layer p j) s) (area_positive d p s h e) ((conducts d p h).each j s b e))

lows_not_negative : (n : ℕ) (f : ℕ → Bounds) → ((j : ℕ) → j < n → pos 0 ≤ℤ (f j).low) → pos 0 ≤ℤ (total n f).low
lows_not_negative n f h = sum-relates (exactly (pos 0)) plus 0 ◌+◌ (λ b m. pos 0 ≤ℤ b.low) (omega (arith, ints))
    (λ a b i j k l. not_negative a.low b.low k l) n f (λ j. 0) h
  where
    not_negative : (x y : ℤ) → pos 0 ≤ℤ x → pos 0 ≤ℤ y → pos 0 ≤ℤ (x +ℤ y)
    not_negative x y k l = omega (arith, ints)

pub are_positive : (d : Detail) (p : Part) → HasPart d p → ArePositive d p
unfolding section_resistance
are_positive d p h s b =
    let lows = lows_not_negative (layers p) (λ j. layer_in_section d (layer p j) s) (λ j e. floor_not_negative _ _ (above (conductivity d (layer p j) s) ((conducts d p h).each j s e b)) (omega (arith, ints))) in
    let first = h.part.rsi.low in omega (arith, ints, lows, first)
  where
    above : (n : ℕ) → 0 < n → pos 0 <ℤ pos n
    above n k = omega (arith, ints)
