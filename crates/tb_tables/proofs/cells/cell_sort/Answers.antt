use Rattle.std.proofs.Common.{◌≡◌, sym, subst, ap, ◌∙◌, refl, Some}
use Rattle.tb_places.specs.declared.Place.{Place}
use Rattle.tb_places.specs.Inverse.{cell_place}
use Rattle.tb_grid.specs.Grid.{counts_of}
use Rattle.tb_geometry.specs.Grids.{mesh_on, occupant_at}
use Rattle.tb_geometry.specs.declared.occupant.Occupant.TheVariants.{Solid}
use Rattle.tb_rows.proofs.Filled.{occupant_fits}
use Rattle.tb_tables.specs.MeshRows.{IsCellRow}
use Rattle.tb_tables.proofs.MeshRows.{air_row, solid_row}
use Rattle.tb_tables.proofs.cells.cell_sort.Goals as goal

pub returns-in-Solid : goal.returns-in-Solid
returns-in-Solid c = record {
  within = record {
    lambda_fits = (occupant_fits c.args.body.now c.args.grid.now c.requires.limits (cell_place (counts_of c.args.grid.now) c.args.cell.0) (Some (Solid c.in-Solid.lambda)) (ap Some (sym c.in-Solid.is) ∙ c.occupant.ensures)).conducts c.in-Solid.lambda refl;
    x_fits = c.widths_at-widths.ensures.x_fits;
    y_fits = c.widths_at-widths.ensures.y_fits;
    z_fits = c.widths_at-widths.ensures.z_fits;
  };
  rows = λ w has. subst (λ (p : Place). IsCellRow (mesh_on c.args.body.now c.args.grid.now) p w) c.place_of.ensures.place
      (solid_row c.args.body.now c.args.grid.now c.place_of.result w c.in-Solid.lambda c.widths_at-widths.result.x c.widths_at-widths.result.y c.widths_at-widths.result.z
      (subst (λ (p : Place). Some (Solid c.in-Solid.lambda) ≡ occupant_at c.args.body.now c.args.grid.now p) (sym c.place_of.ensures.place) (ap Some (sym c.in-Solid.is) ∙ c.occupant.ensures))
      c.widths_at-widths.ensures.x c.widths_at-widths.ensures.y c.widths_at-widths.ensures.z has.along_x has.along_y has.along_z has.flux_x has.flux_y has.flux_z);
}

pub returns-in-Air : goal.returns-in-Air
returns-in-Air c = record {
  within = tt;
  rows = λ w none. air_row c.args.body.now c.args.grid.now (cell_place (counts_of c.args.grid.now) c.args.cell.0) w c.in-Air.environment c.in-Air.rs (ap Some (sym c.in-Air.is) ∙ c.occupant.ensures)
      none.x none.y none.z none.flux_x none.flux_y none.flux_z;
}
