use Rattle.std.proofs.Common.{◌∙◌, arith}
use Rattle.tb_sums.proofs.Cases.{beyond, none_below}
use Rattle.tb_tables.proofs.faces.is_inside.Goals as goal

pub returns-else-environment-lt8 : goal.returns-else-environment-lt8
returns-else-environment-lt8 c = none_below c.args.environment c.if-environment-lt8.false ∙ beyond c.args.mask c.args.environment (omega arith) c.if-environment-lt8.false
