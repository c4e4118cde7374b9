use Rattle.std.proofs.Common.{◌≡◌, ◌∙◌, ℕ, ap, arith, subst}
use Rattle.tb_places.specs.declared.AxisName.TheVariants.{Z}
use Rattle.tb_places.specs.Places.{cell_count, cell_number, place_at}
use Rattle.tb_places.proofs.Runs.{cell_end}
use Rattle.tb_grid.specs.Grid.{counts_of}
use Rattle.tb_flux.specs.Fluxes.{flux_on}
use Rattle.tb_flux.specs.Walks.{IsKeptBelow}
use Rattle.tb_flux.proofs.Firsts.{none_lost}
use Rattle.tb_flux.proofs.flux.Flux.first_unbalanced.Goals as goal

pub returns : goal.returns
returns c =
    let n = counts_of c.args.grid.now in
    let end : c.loop-k.k ≡ n Z = omega arith in
    let all : cell_number n (place_at 0 0 c.loop-k.k) ≡ cell_count n = ap (λ (k : ℕ). cell_number n (place_at 0 0 k)) end ∙ cell_end n in
    none_lost c.args.body.now c.args.grid.now (flux_on c.args.grid.now c.args.self.now)
    (subst (λ (k : ℕ). IsKeptBelow c.args.body.now c.args.grid.now c.args.self.now k) all c.loop-k.invariant)
