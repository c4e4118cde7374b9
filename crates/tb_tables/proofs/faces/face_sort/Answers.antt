use Rattle.std.proofs.Common.{◌≡◌, sym, subst, ◌∙◌}
use Rattle.tb_places.specs.declared.FacePlace.{FacePlace}
use Rattle.tb_places.specs.Inverse.{face_place}
use Rattle.tb_grid.specs.Grid.{counts_of}
use Rattle.tb_model.specs.declared.FaceKind.TheVariants.{Surface}
use Rattle.tb_model.specs.Mesh.{kind_at}
use Rattle.tb_model.specs.Values.{case_of}
use Rattle.tb_geometry.specs.Grids.{mesh_on}
use Rattle.tb_tables.specs.MeshRows.{IsFaceRow}
use Rattle.tb_tables.proofs.FaceRows.{surface_resists, surface_row}
use Rattle.tb_tables.proofs.faces.face_sort.Goals as goal

pub returns-in-Surface : goal.returns-in-Surface
returns-in-Surface c = record {
  within = record {
    rs_fits = surface_resists c.args.body.now c.args.grid.now c.requires.limits (face_place (counts_of c.args.grid.now) c.args.face.0) c.in-Surface.environment c.in-Surface.rs c.in-Surface.low_is_air (sym c.kind.ensures ∙ c.in-Surface.is);
    b_fits = c.widths_at-across.ensures.b_fits;
    c_fits = c.widths_at-across.ensures.c_fits;
  };
  rows = λ w has. subst (λ (f : FacePlace). IsFaceRow (mesh_on c.args.body.now c.args.grid.now) (case_of c.args.case.mask) f w) c.place_of.ensures.place
      (surface_row c.args.body.now c.args.grid.now (case_of c.args.case.mask) c.place_of.result w c.in-Surface.environment c.in-Surface.rs c.widths_at-across.result.b c.widths_at-across.result.c c.in-Surface.low_is_air
      (subst (λ (f : FacePlace). kind_at (mesh_on c.args.body.now c.args.grid.now) f.axis f.place ≡ Surface c.in-Surface.environment c.in-Surface.rs c.in-Surface.low_is_air) (sym c.place_of.ensures.place) (sym c.kind.ensures ∙ c.in-Surface.is))
      c.widths_at-across.ensures.b c.widths_at-across.ensures.c has.field has.flux (has.is_inside ∙ c.is_inside.ensures) has.low has.counts);
}
