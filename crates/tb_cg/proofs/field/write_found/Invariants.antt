use Rattle.std.specs.List.{All}
use Rattle.tb_cg.specs.Limits.{IsTemperature}
use Rattle.tb_cg.proofs.field.write_found.Given as goal

abbrev pub invariant-loop-k : goal.invariant-loop-k
invariant-loop-k l = All IsTemperature l.initial.field → All IsTemperature l.field
