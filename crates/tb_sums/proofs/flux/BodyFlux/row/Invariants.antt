use Rattle.std.specs.Prelude.{unsigned_abs}
use Rattle.std.proofs.Common.{◌≡◌, ◌+◌, ◌*◌, ◌^◌, ◌≤◌, get_or, pos}
use Rattle.tb_places.specs.declared.AxisName.TheVariants.{X}
use Rattle.tb_grid.specs.Axis.{IsLineAt}
use Rattle.tb_geometry.specs.Base.{base_lines}
use Rattle.tb_rows.specs.Rows.{mesh_under}
use Rattle.tb_rows.specs.Sums.{cells_up}
use Rattle.tb_sums.specs.BodyFluxes.{entering_under, loss_under}
use Rattle.tb_sums.proofs.flux.BodyFlux.row.Given as goal

abbrev pub invariant-loop-b : goal.invariant-loop-b
invariant-loop-b l = record {
  at : IsLineAt l.self.rows.grid.now.x (get_or (base_lines X l.self.rows.body.now.boxes) l.b 0) l.from;
  loss : pos l.loss ≡ cells_up (mesh_under l.self.rows) (loss_under l.self) l.j l.k l.from;
  most : l.loss ≤ l.from * (15 * 10 ^ 34 + 6 * 10 ^ 30);
  entering : l.entering ≡ cells_up (mesh_under l.self.rows) (entering_under l.self) l.j l.k l.from;
  size : unsigned_abs l.entering ≤ l.from * (6 * 10 ^ 12);
}
