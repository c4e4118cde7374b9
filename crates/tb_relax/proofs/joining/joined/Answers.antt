use Rattle.tb_relax.proofs.Ranges.{high_whole, high_within, low_whole, low_within, meets}
use Rattle.tb_relax.proofs.joining.joined.Goals as goal

pub returns-clause-under : goal.returns-clause-under
returns-clause-under c = (low_within c.higher.result _ _ _ (low_whole c.higher.result _ _ c.higher.ensures.one c.requires.x.under c.requires.y.under c.requires.x.low_far c.requires.y.low_far) c.higher.ensures.one c.requires.x.under c.requires.y.under c.requires.x.low_far c.requires.y.low_far).0

pub returns-clause-low_far : goal.returns-clause-low_far
returns-clause-low_far c = (low_within c.higher.result _ _ _ (low_whole c.higher.result _ _ c.higher.ensures.one c.requires.x.under c.requires.y.under c.requires.x.low_far c.requires.y.low_far) c.higher.ensures.one c.requires.x.under c.requires.y.under c.requires.x.low_far c.requires.y.low_far).1

pub returns-clause-over : goal.returns-clause-over
returns-clause-over c = (high_within c.lower.result _ _ _ (high_whole c.lower.result _ _ c.lower.ensures.one c.requires.x.over c.requires.y.over c.requires.x.high_far c.requires.y.high_far) c.lower.ensures.one c.requires.x.over c.requires.y.over c.requires.x.high_far c.requires.y.high_far).0

pub returns-clause-high_far : goal.returns-clause-high_far
returns-clause-high_far c = (high_within c.lower.result _ _ _ (high_whole c.lower.result _ _ c.lower.ensures.one c.requires.x.over c.requires.y.over c.requires.x.high_far c.requires.y.high_far) c.lower.ensures.one c.requires.x.over c.requires.y.over c.requires.x.high_far c.requires.y.high_far).1

pub returns-clause-within : goal.returns-clause-within
returns-clause-within c = meets c.higher.result _ c.lower.result _ _ _ _ _
    (low_whole c.higher.result _ _ c.higher.ensures.one c.requires.x.under c.requires.y.under c.requires.x.low_far c.requires.y.low_far)
    (high_whole c.lower.result _ _ c.lower.ensures.one c.requires.x.over c.requires.y.over c.requires.x.high_far c.requires.y.high_far)
    c.higher.ensures.x c.higher.ensures.y c.higher.ensures.one c.lower.ensures.x c.lower.ensures.y c.lower.ensures.one
