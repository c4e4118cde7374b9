use Rattle.tb_options.specs.declared.SolveOption.TheVariants.{Halve}
use Rattle.thermal_cli.proofs.Commands.{halvings}
use Rattle.thermal_cli.proofs.solve.grading.Goals as goal

pub returns-clause-halve : goal.returns-clause-halve
returns-clause-halve c = rw c.halve.ensures (halvings c.args.options.halve c.args.dimension (λ n e. (c.requires Halve n e).1))
