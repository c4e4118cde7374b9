use Rattle.std.proofs.Common.{◌∙◌, ap}
use Rattle.tb_math.specs.Rational.{int}
use Rattle.tb_terms.proofs.Spread.{at, difference_at, stored_sum-size, stored_parts, whole_spread-is}
use Rattle.tb_terms.proofs.field.spread_of.Goals as goal

pub edge_spread-requires-3-clause-x_size : goal.edge_spread-requires-3-clause-x_size
edge_spread-requires-3-clause-x_size c = let d = c.args.d.now in stored_sum-size (at d 0) (at d 2) (difference_at d 0 c.requires) (difference_at d 2 c.requires)

pub edge_spread-requires-3-clause-y_size : goal.edge_spread-requires-3-clause-y_size
edge_spread-requires-3-clause-y_size c = let d = c.args.d.now in stored_sum-size (at d 1) (at d 3) (difference_at d 1 c.requires) (difference_at d 3 c.requires)

pub returns-clause-value : goal.returns-clause-value
returns-clause-value c = let d = c.args.d.now in
    ap int (stored_parts (at d 0) (at d 1) (at d 2) (at d 3) _ _ _ (difference_at d 0 c.requires) (difference_at d 1 c.requires) (difference_at d 2 c.requires) (difference_at d 3 c.requires)
    c.edge_spread.ensures.value c.edge_spread-2.ensures.value c.edge_spread-3.ensures.value) ∙ whole_spread-is d
