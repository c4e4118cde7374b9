use Rattle.std.proofs.Common.{◌∙◌}
use Rattle.tb_cycle_moves.proofs.Seen.{same_slope}
use Rattle.tb_cycle_moves.proofs.reach.face_forth.Goals as goal

pub returns-clause-slope : goal.returns-clause-slope
returns-clause-slope c = c.forth.ensures.slope ∙ same_slope c.args.table.now c.args.flows.now c.seen_along.ensures.axis c.seen_along.ensures.i c.seen_along.ensures.j c.seen_along.ensures.k
