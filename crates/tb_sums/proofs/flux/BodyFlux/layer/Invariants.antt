use Rattle.std.specs.Prelude.{unsigned_abs}
use Rattle.std.proofs.Common.{◌≡◌, ◌*◌, ◌^◌, ◌≤◌, pos}
use Rattle.tb_rows.specs.Rows.{mesh_under}
use Rattle.tb_rows.specs.Sums.{rows_up}
use Rattle.tb_sums.specs.BodyFluxes.{entering_under, loss_under}
use Rattle.tb_sums.proofs.flux.BodyFlux.layer.Given as goal

abbrev pub invariant-loop-j : goal.invariant-loop-j
invariant-loop-j l = record {
  loss : pos l.loss ≡ rows_up (mesh_under l.self.rows) (loss_under l.self) l.k l.j;
  within : l.loss ≤ 2 ^ 120;
  entering : l.entering ≡ rows_up (mesh_under l.self.rows) (entering_under l.self) l.k l.j;
  size : unsigned_abs l.entering ≤ l.j * (1023 * (6 * 10 ^ 12));
}
