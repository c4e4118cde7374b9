use Rattle.tb_flux.specs.Fluxes.{AreFlows}
use Rattle.tb_candidates.proofs.candidates.go_beyond.Given as goal

abbrev pub invariant-loop-i : goal.invariant-loop-i
invariant-loop-i l = AreFlows l.initial.flows → AreFlows l.flows
