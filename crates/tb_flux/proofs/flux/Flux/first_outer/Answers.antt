use Rattle.std.proofs.Common.{◌∙◌, ℕ, ap}
use Rattle.tb_places.specs.declared.AxisName.TheVariants.{Y, Z}
use Rattle.tb_places.specs.Places.{face_number, place_at}
use Rattle.tb_places.proofs.Runs.{face_end}
use Rattle.tb_grid.specs.Grid.{counts_of}
use Rattle.tb_flux.proofs.Firsts.{outer_in_all}
use Rattle.tb_flux.proofs.flux.Flux.first_outer.Goals as goal

pub returns : goal.returns
returns c =
    let n = counts_of c.args.grid.now in
    outer_in_all c.args.body.now c.args.grid.now c.args.self.now (face_number n Z (place_at 0 (n Y) c.counts-counts.result.z)) c.outer_across_z.result
    (ap (λ (k : ℕ). face_number n Z (place_at 0 (n Y) k)) c.counts-counts.ensures.on_z ∙ face_end n) c.outer_across_z.ensures
