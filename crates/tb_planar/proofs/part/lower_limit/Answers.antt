use Rattle.std.proofs.Common.{◌≡◌, ◌∙◌, ℕ, List, length, ap, arith}
use Rattle.std.proofs.lemmas.Int.{ints}
use Rattle.tb_detail.specs.declared.Layer.{Layer}
use Rattle.tb_planar.specs.declared.bounds.Bounds.{Bounds}
use Rattle.tb_planar.specs.Bounds.{plus, total}
use Rattle.tb_planar.specs.Printed.{layer_across, lower_limit, surfaces}
use Rattle.tb_planar.specs.Sections.{layer, layers}
use Rattle.tb_planar.proofs.Conducting.{weights_positive}
use Rattle.tb_planar.proofs.Parts.{lower-encloses}
use Rattle.tb_planar.proofs.Steps.{bounds_next, layer_at}
use Rattle.tb_planar.proofs.part.lower_limit.Goals as goal

pub loop-layer-preserved : goal.loop-layer-preserved
loop-layer-preserved c =
    let x = layer_at c.args.part.now c.items-layer-items.result.now c.loop-layer.layer-index c.layer-item.result c.items-layer-items.ensures c.loop-layer-test.true c.layer-item.is in
    let term = c.layer_across.ensures.value ∙ ap (λ (l : Layer). layer_across c.args.detail.now c.args.part.now l) x in
    let low = ap (λ (b : Bounds). b.low) c.plus-sum.ensures in
    let high = ap (λ (b : Bounds). b.high) c.plus-sum.ensures in
    let size = c.layer_across.ensures.size in
    record {
      value = c.plus-sum.ensures ∙ bounds_next (surfaces c.args.part.now) c.loop-layer.layer-index (λ j. layer_across c.args.detail.now c.args.part.now (layer c.args.part.now j))
          c.loop-layer.sum c.layer_across.result c.loop-layer.invariant.value term;
      at_least = omega (arith, ints, low);
      ordered = omega (arith, ints, low, high);
      at_most = omega (arith, ints, high);
    }

pub returns-clause-value : goal.returns-clause-value
unfolding lower_limit
returns-clause-value c =
    let last : c.loop-layer.layer-index ≡ layers c.args.part.now = omega (arith, ap (λ (l : List Layer). length l) c.items-layer-items.ensures) in
    c.loop-layer.invariant.value
    ∙ ap (λ (n : ℕ). plus (surfaces c.args.part.now) (total n (λ j. layer_across c.args.detail.now c.args.part.now (layer c.args.part.now j)))) last

pub returns-clause-encloses : goal.returns-clause-encloses
returns-clause-encloses c =
    rw (returns-clause-value c) (lower-encloses c.args.detail.now c.args.part.now (weights_positive c.args.detail.now c.args.part.now c.requires))
