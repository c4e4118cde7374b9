use Rattle.std.proofs.Common.{rules}
use Rattle.tb_rounds.proofs.Rounds.{flux_kept, flux_taken}
use Rattle.tb_rounds.proofs.flux.offer_relaxed.Goals as goal

pub returns-then-offer_flux-clause-round : goal.returns-then-offer_flux-clause-round
returns-then-offer_flux-clause-round c =
    flux_taken _ _ (record { flux = c.relax.new.flux; higher = search rules; taken = search rules })

pub returns-clause-round : goal.returns-clause-round
returns-clause-round c =
    flux_kept c.args.session.now c.offer_flux.new.self c.relax.new.flux (search rules) c.relax.ensures.relaxed c.relax.ensures.balanced c.relax.ensures.loss (search rules)
