use Rattle.std.proofs.Common.{[], length}
use Rattle.std.specs.Prelude.{nat_lt, if◌then◌else◌}
use Rattle.tb_factors.specs.Joined.{joined}
use Rattle.tb_report.specs.Texts.{pair_line}
use Rattle.tb_report.proofs.Gathering.{gathers_joined}
use Rattle.tb_report.proofs.report.put_pairs.Goals as goal

pub loop-i-preserved : goal.loop-i-preserved
loop-i-preserved g c =
    gathers_joined (λ i. joined (length c.args.detail.now.environments) (λ j. if nat_lt i j then pair_line c.args.detail.now c.args.intervals.now i j else [])) c.loop-i.i c.loop-i.invariant c.put_pairs_of.ensures
