use Rattle.std.proofs.Common.{rules, ap, sym, ◌∙◌, ◌<◌, arith, length}
use Rattle.tb_detail.specs.declared.Material.{Material}
use Rattle.tb_planar.proofs.Steps.{conductivity_at, material_known}
use Rattle.tb_planar.proofs.sections.conductivity.Goals as goal

pub returns-clause-value : goal.returns-clause-value
returns-clause-value c =
    let known = material_known c.args.detail.now (length c.args.layer.now.materials) c.args.layer.now c.items-2.result.now c.items.result.now c.args.section
    c.items-2.ensures c.items.ensures c.requires.layer.layer (search rules) in
    let below : c.from.result < length c.items-2.result.now = omega (arith, known, c.from.ensures) in
    ap (λ (m : Material). m.lambda) (sym c.index-items-from.is)
    ∙ conductivity_at c.args.detail.now c.args.layer.now c.items-2.result.now c.items.result.now c.args.section c.from.result c.index-items-from.result
    c.items-2.ensures c.items.ensures c.from.ensures below c.index-items-from.is
