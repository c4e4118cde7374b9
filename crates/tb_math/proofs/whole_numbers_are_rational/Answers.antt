-- Each law is a lemma of its own.
use Rattle.tb_math.proofs.RationalLaws.{int-add, int-mul}
use Rattle.tb_math.proofs.StrictOrder.{int-order}
use Rattle.tb_math.proofs.whole_numbers_are_rational.Goals as goal

pub returns-clause-sums : goal.returns-clause-sums
returns-clause-sums c = int-add

pub returns-clause-products : goal.returns-clause-products
returns-clause-products c = int-mul

pub returns-clause-order : goal.returns-clause-order
returns-clause-order c = int-order
