use Rattle.std.proofs.Common.{subst}
use Rattle.tb_tables.specs.Sorts.{AreWithin, IsWithin}
use Rattle.tb_tables.proofs.sorts.cell_row.Goals as goal

pub solid-requires-clause-lambda : goal.solid-requires-clause-lambda
solid-requires-clause-lambda c = let within : AreWithin c.in-Solid.lambda c.in-Solid.x c.in-Solid.y c.in-Solid.z = subst IsWithin c.in-Solid.is c.requires in within.lambda_fits

pub solid-requires-clause-x : goal.solid-requires-clause-x
solid-requires-clause-x c = let within : AreWithin c.in-Solid.lambda c.in-Solid.x c.in-Solid.y c.in-Solid.z = subst IsWithin c.in-Solid.is c.requires in within.x_fits

pub solid-requires-clause-y : goal.solid-requires-clause-y
solid-requires-clause-y c = let within : AreWithin c.in-Solid.lambda c.in-Solid.x c.in-Solid.y c.in-Solid.z = subst IsWithin c.in-Solid.is c.requires in within.y_fits

pub solid-requires-clause-z : goal.solid-requires-clause-z
solid-requires-clause-z c = let within : AreWithin c.in-Solid.lambda c.in-Solid.x c.in-Solid.y c.in-Solid.z = subst IsWithin c.in-Solid.is c.requires in within.z_fits
