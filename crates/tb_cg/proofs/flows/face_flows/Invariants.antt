use Rattle.std.specs.List.{All}
use Rattle.tb_cg.specs.Limits.{IsFlow}
use Rattle.tb_cg.proofs.flows.face_flows.Given as goal

abbrev pub invariant-loop-number : goal.invariant-loop-number
invariant-loop-number l = All IsFlow l.initial.flows → All IsFlow l.flows
