use Rattle.tb_sums.proofs.Spreads.{sum_mode, sum_of_differences_mode, difference_of_sums_mode, difference_mode}
use Rattle.tb_sums.proofs.modes.face_modes.Goals as goal

pub overflow_add-result-2 : goal.overflow_add-result-2
overflow_add-result-2 c = let t = c.args.t in (sum_of_differences_mode t.t10 t.t00 t.t11 t.t01 t.small_10 t.small_00 t.small_11 t.small_01).fits

pub overflow_sub-result-2 : goal.overflow_sub-result-2
overflow_sub-result-2 c = let t = c.args.t in (difference_mode t.t11 t.t01 t.t10 t.t00 t.small_11 t.small_01 t.small_10 t.small_00).fits

pub invariant_of-result-clause-small_sum : goal.invariant_of-result-clause-small_sum
invariant_of-result-clause-small_sum c = let t = c.args.t in (sum_mode t.t00 t.t10 t.t01 t.t11 t.small_00 t.small_10 t.small_01 t.small_11).small

pub invariant_of-result-clause-small_y : goal.invariant_of-result-clause-small_y
invariant_of-result-clause-small_y c = let t = c.args.t in (sum_of_differences_mode t.t10 t.t00 t.t11 t.t01 t.small_10 t.small_00 t.small_11 t.small_01).small

pub invariant_of-result-clause-small_z : goal.invariant_of-result-clause-small_z
invariant_of-result-clause-small_z c = let t = c.args.t in (difference_of_sums_mode t.t01 t.t11 t.t00 t.t10 t.small_01 t.small_11 t.small_00 t.small_10).small

pub invariant_of-result-clause-small_both : goal.invariant_of-result-clause-small_both
invariant_of-result-clause-small_both c = let t = c.args.t in (difference_mode t.t11 t.t01 t.t10 t.t00 t.small_11 t.small_01 t.small_10 t.small_00).small

pub returns-clause-sum : goal.returns-clause-sum
returns-clause-sum c = let t = c.args.t in (sum_mode t.t00 t.t10 t.t01 t.t11 t.small_00 t.small_10 t.small_01 t.small_11).stays

pub returns-clause-y : goal.returns-clause-y
returns-clause-y c = let t = c.args.t in (sum_of_differences_mode t.t10 t.t00 t.t11 t.t01 t.small_10 t.small_00 t.small_11 t.small_01).stays

pub returns-clause-z : goal.returns-clause-z
returns-clause-z c = let t = c.args.t in (difference_of_sums_mode t.t01 t.t11 t.t00 t.t10 t.small_01 t.small_11 t.small_00 t.small_10).stays

pub returns-clause-both : goal.returns-clause-both
returns-clause-both c = let t = c.args.t in (difference_mode t.t11 t.t01 t.t10 t.t00 t.small_11 t.small_01 t.small_10 t.small_00).stays
