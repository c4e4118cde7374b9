use Rattle.std.proofs.Common.{◌∙◌, ap}
use Rattle.tb_planar.specs.Printed.{answer}
use Rattle.tb_planar.proofs.Answering.{part_is, ratio_above, refusal}
use Rattle.tb_planar.proofs.part.planar.Goals as goal

pub returns-clause-answer : goal.returns-clause-answer
returns-clause-answer c = λ p e. c.of_part.ensures.answer
    ∙ ap (answer c.args.detail.now)
    (part_is c.args.detail.now.parts c.items.result.now c.args.part c.from.result c.index-items-from.result p c.items.ensures c.from.ensures c.index-items-from.is e)

pub returns-clause-refused : goal.returns-clause-refused
returns-clause-refused c = λ p e. let same = returns-clause-answer c p e in rw (same, refusal c.args.detail.now p) (ratio_above c.args.detail.now p)
