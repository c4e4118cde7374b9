-- Each law is a lemma of its own.
use Rattle.tb_math.proofs.RationalOrder.{≤ℚ-refl, ≤ℚ-trans, ≤ℚ-antisym, ≤ℚ-add, ≤ℚ-square}
use Rattle.tb_math.proofs.RationalProducts.{≤ℚ-mul}
use Rattle.tb_math.proofs.StrictOrder.{≤ℚ-total, <ℚ-is}
use Rattle.tb_math.proofs.rationals_are_ordered.Goals as goal

pub returns-clause-reflexive : goal.returns-clause-reflexive
returns-clause-reflexive c = ≤ℚ-refl

pub returns-clause-transitive : goal.returns-clause-transitive
returns-clause-transitive c = ≤ℚ-trans

pub returns-clause-antisymmetric : goal.returns-clause-antisymmetric
returns-clause-antisymmetric c = ≤ℚ-antisym

pub returns-clause-linear : goal.returns-clause-linear
returns-clause-linear c = ≤ℚ-total

pub returns-clause-strict : goal.returns-clause-strict
returns-clause-strict c = <ℚ-is

pub returns-clause-sums : goal.returns-clause-sums
returns-clause-sums c = ≤ℚ-add

pub returns-clause-products : goal.returns-clause-products
returns-clause-products c = ≤ℚ-mul

pub returns-clause-squares : goal.returns-clause-squares
returns-clause-squares c = ≤ℚ-square
