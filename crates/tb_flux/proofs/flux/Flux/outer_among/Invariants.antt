use Rattle.tb_flux.specs.Walks.{IsTightBelow}
use Rattle.tb_flux.proofs.flux.Flux.outer_among.Given as goal

abbrev pub invariant-loop-number : goal.invariant-loop-number
invariant-loop-number l = IsTightBelow l.body l.grid l.fn.self l.number
