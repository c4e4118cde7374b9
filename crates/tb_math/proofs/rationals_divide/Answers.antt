-- Each law is a lemma of its own.
use Rattle.tb_math.proofs.DivisionLaws.{inverse-cancel, inverse-mul, inverse-zero, inverse-int}
use Rattle.tb_math.proofs.rationals_divide.Goals as goal

pub returns-clause-cancels : goal.returns-clause-cancels
returns-clause-cancels c = inverse-cancel

pub returns-clause-products : goal.returns-clause-products
returns-clause-products c = inverse-mul

pub returns-clause-zero : goal.returns-clause-zero
returns-clause-zero c = inverse-zero

pub returns-clause-one_over_natural : goal.returns-clause-one_over_natural
returns-clause-one_over_natural c = inverse-int
