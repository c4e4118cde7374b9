use Rattle.tb_options.specs.declared.SolveOption.TheVariants.{Width}
use Rattle.thermal_cli.proofs.Solving.{width_within}
use Rattle.thermal_cli.proofs.solve.target.Goals as goal

pub returns-clause-width : goal.returns-clause-width
returns-clause-width c = rw c.width.ensures (width_within c.args.options.width (λ n e. (c.requires Width n e).1))
