use Rattle.std.specs.List.{All}
use Rattle.tb_cg.specs.Limits.{IsFlow}
use Rattle.tb_cg.proofs.flows.face_flows_at.Given as goal

abbrev pub invariant-loop-axis : goal.invariant-loop-axis
invariant-loop-axis l = All IsFlow l.initial.flows → All IsFlow l.flows
