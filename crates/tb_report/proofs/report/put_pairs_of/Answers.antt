use Rattle.std.proofs.Common.{[]}
use Rattle.std.specs.Prelude.{nat_lt, if◌then◌else◌}
use Rattle.tb_report.specs.Texts.{pair_line}
use Rattle.tb_report.proofs.Gathering.{gathers_joined}
use Rattle.tb_report.proofs.report.put_pairs_of.Goals as goal

pub loop-j-preserved : goal.loop-j-preserved
loop-j-preserved g c =
    gathers_joined (λ j. if nat_lt c.args.i j then pair_line c.args.detail.now c.args.intervals.now c.args.i j else []) c.loop-j.j c.loop-j.invariant c.put_pair.ensures
