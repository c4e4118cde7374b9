-- Each law is a lemma of its own.
use Rattle.std.proofs.Common.{sym}
use Rattle.tb_math.proofs.Ratios.{ratio-≤, ratio-≡, ratio-times}
use Rattle.tb_math.proofs.quotients_compare.Goals as goal

pub returns-clause-order : goal.returns-clause-order
returns-clause-order c = ratio-≤

pub returns-clause-equality : goal.returns-clause-equality
returns-clause-equality c = ratio-≡

pub returns-clause-products : goal.returns-clause-products
returns-clause-products c = λ z w n m. sym (ratio-times z w n m)
