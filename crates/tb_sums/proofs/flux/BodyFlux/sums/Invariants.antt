use Rattle.std.specs.Prelude.{unsigned_abs}
use Rattle.std.proofs.Common.{◌≡◌, ◌*◌, ◌^◌, ◌≤◌, pos}
use Rattle.tb_rows.specs.Rows.{mesh_under}
use Rattle.tb_rows.specs.Sums.{layers_up}
use Rattle.tb_sums.specs.BodyFluxes.{entering_under, loss_under}
use Rattle.tb_sums.proofs.flux.BodyFlux.sums.Given as goal

abbrev pub invariant-loop-k : goal.invariant-loop-k
invariant-loop-k l = record {
  loss : pos l.loss ≡ layers_up (mesh_under l.self.rows) (loss_under l.self) l.k;
  within : l.loss ≤ 2 ^ 120;
  entering : l.entering ≡ layers_up (mesh_under l.self.rows) (entering_under l.self) l.k;
  size : unsigned_abs l.entering ≤ l.k * (1023 * (1023 * (6 * 10 ^ 12)));
}
