use Rattle.std.proofs.Common.{ℕ, subst}
use Rattle.tb_places.proofs.Runs.{y_faces_end}
use Rattle.tb_grid.specs.Grid.{counts_of}
use Rattle.tb_flux.specs.Walks.{FindsOuter}
use Rattle.tb_flux.proofs.flux.Flux.outer_in_layer.Goals as goal

pub returns : goal.returns
returns c =
    subst (λ (f : ℕ). FindsOuter c.args.body.now c.args.grid.now c.args.self.now f c.outer_across_y.result)
    (y_faces_end (counts_of c.args.grid.now) c.args.k) c.outer_across_y.ensures
