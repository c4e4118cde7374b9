use Rattle.tb_factors.proofs.Widening.{greatest, high, least, low}
use Rattle.tb_factors.proofs.laws.extremes_hold_all_values.Goals as goal

pub returns-clause-low : goal.returns-clause-low
returns-clause-low c = low

pub returns-clause-high : goal.returns-clause-high
returns-clause-high c = high

pub returns-clause-least : goal.returns-clause-least
returns-clause-least c = least

pub returns-clause-greatest : goal.returns-clause-greatest
returns-clause-greatest c = greatest
