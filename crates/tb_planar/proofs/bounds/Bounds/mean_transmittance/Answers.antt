use Rattle.std.proofs.Common.{rules, ◌≡◌, ◌*◌, ◌^◌, pos}
use Rattle.tb_planar.specs.Bounds.{over, plus}
use Rattle.tb_planar.proofs.Sizes.{mean-size}
use Rattle.tb_planar.proofs.bounds.Bounds.mean_transmittance.Goals as goal

pub returns-clause-size : goal.returns-clause-size
returns-clause-size c =
    let value : c.under.result ≡ over (pos (2 * 10 ^ 31)) (plus c.args.self c.args.other) = search rules in
    rw value (mean-size c.args.self c.args.other c.requires.first c.requires.second)
