use Rattle.tb_uvalues.proofs.Listing.{printed}
use Rattle.tb_uvalues.proofs.list.value_at.Goals as goal

pub returns-clause-printed : goal.returns-clause-printed
returns-clause-printed c = λ p there. printed c.args.detail.now p c.planar.result (c.planar.ensures.answer p there) (c.planar.ensures.encloses p there) (c.planar.ensures.error p there)
