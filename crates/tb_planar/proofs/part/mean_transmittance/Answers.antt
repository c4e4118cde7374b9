use Rattle.std.proofs.Common.{◌≡◌, ◌∙◌, ◌^◌, ◌*◌, refl, sym, ℕ, List, length, ap, arith, rules}
use Rattle.std.proofs.lemmas.Int.{ints}
use Rattle.tb_math.specs.Sums.{total_ℕ}
use Rattle.tb_planar.specs.declared.bounds.Bounds.{Bounds}
use Rattle.tb_planar.specs.Bounds.{divided, times, total}
use Rattle.tb_planar.specs.Parts.{HasSections}
use Rattle.tb_planar.specs.Printed.{mean_transmittance, section_transmittance}
use Rattle.tb_planar.specs.Sections.{area, sections}
use Rattle.tb_planar.proofs.Sizes.{divided-size}
use Rattle.tb_planar.proofs.Steps.{area_at, area_in_range, bounds_added, total_next}
use Rattle.tb_planar.proofs.part.mean_transmittance.Goals as goal

pub loop-section-preserved : goal.loop-section-preserved
loop-section-preserved c =
    let p = c.args.part.now in
    let i = c.loop-section.section in
    let at = area_at p c.items-area-items.result.now i c.items-area-items.ensures in
    let parts : HasSections p = search rules in
    let range = area_in_range p c.items-area-items.result.now i c.items-area-items.ensures c.loop-section-test.true parts in
    let areas = total_next i (area p) (total_ℕ i (area p)) _ refl at in
    let term : c.times.result ≡ times (area p i) (section_transmittance c.args.detail.now p i) =
    c.times.ensures.value ∙ ap (λ (a : ℕ). times a c.section_transmittance.result) at ∙ ap (times (area p i)) c.section_transmittance.ensures.value in
    let low = ap (λ (b : Bounds). b.low) c.plus-sum.ensures in
    let high = ap (λ (b : Bounds). b.high) c.plus-sum.ensures in
    let added = c.times.ensures in
    record {
      value = c.plus-sum.ensures
          ∙ bounds_added i (λ s. times (area p s) (section_transmittance c.args.detail.now p s)) c.loop-section.sum c.times.result c.loop-section.invariant.value term;
      few = omega (arith, areas, range.high);
      at_least = omega (arith, ints, areas, low, added.at_least);
      ordered = omega (arith, ints, low, high, added.ordered);
      at_most = omega (arith, ints, areas, high, added.at_most);
    }

pub returns-clause-value : goal.returns-clause-value
unfolding mean_transmittance
returns-clause-value c =
    let p = c.args.part.now in
    let last : c.loop-section.section ≡ sections p = omega (arith, ap (λ (xs : List ℕ). length xs) c.items-area-items.ensures) in
    c.divided.ensures
    ∙ ap (λ (b : Bounds). divided b c.total_area.result)
    (c.loop-section.invariant.value ∙ ap (λ (n : ℕ). total n (λ s. times (area p s) (section_transmittance c.args.detail.now p s))) last)
    ∙ ap (divided (total (sections p) (λ s. times (area p s) (section_transmittance c.args.detail.now p s)))) c.total_area.ensures.value

pub returns-clause-size : goal.returns-clause-size
returns-clause-size c =
    let p = c.args.part.now in
    let last : c.loop-section.section ≡ sections p = omega (arith, ap (λ (xs : List ℕ). length xs) c.items-area-items.ensures) in
    let all : total_ℕ c.loop-section.section (area p) ≡ c.total_area.result = ap (λ (n : ℕ). total_ℕ n (area p)) last ∙ sym c.total_area.ensures.value in
    let s = divided-size c.loop-section.sum c.total_area.result (10 ^ 8) (5 * 10 ^ 18) c.total_area.ensures.positive (omega (arith, ints, all))
    c.loop-section.invariant.ordered (omega (arith, ints, all)) in
    rw c.divided.ensures (record { at_least = s.at_least; ordered = s.ordered; at_most = s.at_most })
