use Rattle.std.specs.List.{All}
use Rattle.tb_cg.specs.Limits.{IsTemperature}
use Rattle.tb_cg.proofs.field.write_row.Given as goal

abbrev pub invariant-loop-i : goal.invariant-loop-i
invariant-loop-i l = All IsTemperature l.initial.field → All IsTemperature l.field
