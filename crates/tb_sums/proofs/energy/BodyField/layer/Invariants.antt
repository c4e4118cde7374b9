use Rattle.std.proofs.Common.{◌≡◌, ◌*◌, ◌^◌, ◌≤◌, pos}
use Rattle.tb_rows.specs.Rows.{mesh_under}
use Rattle.tb_rows.specs.Sums.{rows_up}
use Rattle.tb_sums.specs.BodyFields.{terms_under}
use Rattle.tb_sums.proofs.energy.BodyField.layer.Given as goal

abbrev pub invariant-loop-j : goal.invariant-loop-j
invariant-loop-j l = record { value : pos l.total ≡ rows_up (mesh_under l.self.rows) (terms_under l.self) l.k l.j; most : l.total ≤ l.j * (1023 * 10 ^ 26) }
