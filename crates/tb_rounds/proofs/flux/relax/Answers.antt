use Rattle.std.proofs.Common.{◌^◌, subst, arith}
use Rattle.std.proofs.lemmas.Int.{ints}
use lib.IntN.{ℤ, pos}
use lib.Signed.{◌≤ℤ◌}
use Rattle.tb_grid.specs.Grid.{IsGrid}
use Rattle.tb_costs.specs.Admissible.{most_loss}
use Rattle.tb_costs.proofs.Ends.{loss_within}
use Rattle.tb_moves.specs.Sessions.{inside_of}
use Rattle.tb_rounds.proofs.flux.relax.Goals as goal

pub relax_flux-requires-clause-balanced : goal.relax_flux-requires-clause-balanced
relax_flux-requires-clause-balanced c = rw (c.copy.ensures, c.flux.ensures) c.keeps.ensures.balanced

within_limit : (z : ℤ) → z ≤ℤ most_loss → z ≤ℤ pos (2 ^ 120)
within_limit z h = omega (arith, ints, h)

pub returns-clause-loss : goal.returns-clause-loss
returns-clause-loss c =
    let s = c.args.session.now in
    let grid : IsGrid s.grid = subst IsGrid c.grid.ensures c.counts-counts.ensures.grid in
    λ end. within_limit _ (loss_within s.body s.grid (inside_of s) c.relax_flux.new.candidate c.keeps.ensures.limits c.keeps.ensures.carries grid c.relax_flux.ensures.fits c.relax_flux.ensures.limits end)
