use Rattle.std.proofs.Common.{◌≡◌, ◌∙◌, sym, ap, true, Bool, ◌++◌, []}
use Rattle.std.specs.Prelude.{if◌then◌else◌}
use Rattle.tb_places.specs.Inverse.{face_place}
use Rattle.tb_places.specs.Places.{Counts, by_axis}
use Rattle.tb_grid.specs.Grid.{counts_of}
use Rattle.tb_grid.specs.Views.{along_axes}
use Rattle.tb_model.specs.Mesh.{kind_at}
use Rattle.tb_geometry.specs.Grids.{mesh_on}
use Rattle.tb_factors.specs.Factors.{corner_values, extremes, is_surface_to}
use Rattle.tb_factors.proofs.surfaces.with_face.Goals as goal

pub returns : goal.returns
returns c = λ before e.
    let n = counts_of c.args.grid.now in
    let f = face_place n c.args.face.0 in
    let surface : is_surface_to c.args.environment (kind_at (mesh_on c.args.body.now c.args.grid.now) f.axis f.place) ≡ true
    = sym (c.is_surface_to.ensures ∙ ap (is_surface_to c.args.environment) c.kind.ensures) ∙ c.if-not-is_surface_to.false in
    let counted : along_axes c.counts-counts.result ≡ n = (λ t. by_axis (c.counts-counts.ensures.on_x t) (c.counts-counts.ensures.on_y t) (c.counts-counts.ensures.on_z t)) in
    let at = c.face_place.ensures.place ∙ ap (λ (m : Counts). face_place m c.args.face.0) counted in
    c.with_corners.ensures before e ∙ (λ t. extremes (before ++ corner_values (counted t) c.args.field.now (at t)))
    ∙ ap (λ (b : Bool). extremes (before ++ (if b then corner_values n c.args.field.now f else []))) (sym surface)
