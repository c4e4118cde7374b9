use Rattle.std.proofs.Common.{◌≡◌, ◌*◌, ◌^◌, ◌≤◌, pos}
use Rattle.tb_rows.specs.Rows.{mesh_under}
use Rattle.tb_rows.specs.Sums.{layers_up}
use Rattle.tb_sums.specs.BodyFields.{terms_under}
use Rattle.tb_sums.proofs.energy.BodyField.energy.Given as goal

abbrev pub invariant-loop-k : goal.invariant-loop-k
invariant-loop-k l = record { value : pos l.total ≡ layers_up (mesh_under l.self.rows) (terms_under l.self) l.k; most : l.total ≤ l.k * (1023 * (1023 * 10 ^ 26)) }
