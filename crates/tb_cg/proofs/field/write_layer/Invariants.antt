use Rattle.std.specs.List.{All}
use Rattle.tb_cg.specs.Limits.{IsTemperature}
use Rattle.tb_cg.proofs.field.write_layer.Given as goal

abbrev pub invariant-loop-j : goal.invariant-loop-j
invariant-loop-j l = All IsTemperature l.initial.field → All IsTemperature l.field
