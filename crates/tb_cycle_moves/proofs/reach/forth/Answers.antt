use Rattle.std.proofs.Common.{subst, sym, ℤ, ◌≤◌, unsigned_abs, pos}
use lib.Signed.{◌<ℤ◌}
use Rattle.std.specs.Prelude.{◌^◌}
use Rattle.tb_relax.specs.Tables.{table_counts}
use Rattle.tb_cycle_moves.specs.Reaches.{most_slope}
use Rattle.tb_cycle_moves.proofs.Sizes.{all_limits, slope_small}
use Rattle.tb_cycle_moves.proofs.reach.forth.Goals as goal

pub returns-clause-slope_small : goal.returns-clause-slope_small
returns-clause-slope_small c =
    let at = c.args.at in
    subst (λ (z : ℤ). unsigned_abs z ≤ most_slope) (sym c.face_pull.ensures.slope)
    (slope_small c.args.table.now c.args.flows.now (all_limits (table_counts c.args.table.now) c.args.flows.now c.requires.flux) at.axis at.j at.k at.i c.requires.site.along c.requires.site.second c.requires.site.third
    (subst (λ (z : ℤ). z <ℤ pos (2 ^ 66)) c.face_pull.ensures.rate c.face_pull.ensures.rate_small.1))
