-- Each law is a lemma of its own.
use Rattle.tb_math.proofs.RationalLaws.{+ℚ_assoc, +ℚ_comm, +ℚ_zero, +ℚ_neg, *ℚ_assoc, *ℚ_comm, *ℚ_one, *ℚ_dist, one_over_cancel}
use Rattle.tb_math.proofs.rationals_are_a_ring.Goals as goal

pub returns-clause-sums_associate : goal.returns-clause-sums_associate
returns-clause-sums_associate c = +ℚ_assoc

pub returns-clause-sums_commute : goal.returns-clause-sums_commute
returns-clause-sums_commute c = +ℚ_comm

pub returns-clause-zero : goal.returns-clause-zero
returns-clause-zero c = +ℚ_zero

pub returns-clause-differences : goal.returns-clause-differences
returns-clause-differences c = +ℚ_neg

pub returns-clause-products_associate : goal.returns-clause-products_associate
returns-clause-products_associate c = *ℚ_assoc

pub returns-clause-products_commute : goal.returns-clause-products_commute
returns-clause-products_commute c = *ℚ_comm

pub returns-clause-one : goal.returns-clause-one
returns-clause-one c = *ℚ_one

pub returns-clause-products_of_sums : goal.returns-clause-products_of_sums
returns-clause-products_of_sums c = *ℚ_dist

pub returns-clause-inverses : goal.returns-clause-inverses
returns-clause-inverses c = one_over_cancel
