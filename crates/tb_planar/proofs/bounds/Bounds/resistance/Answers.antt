use Rattle.std.proofs.Common.{rules, ◌≡◌, ◌^◌, pos}
use Rattle.tb_planar.specs.Bounds.{over}
use Rattle.tb_planar.proofs.Sizes.{resistance-size}
use Rattle.tb_planar.proofs.bounds.Bounds.resistance.Goals as goal

pub returns-clause-size : goal.returns-clause-size
returns-clause-size c =
    let value : c.under.result ≡ over (pos (10 ^ 31)) c.args.self = search rules in rw value (resistance-size c.args.self c.requires)
