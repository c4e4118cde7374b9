use Rattle.std.proofs.Common.{◌≡◌, arith, refl}
use Rattle.std.proofs.lemmas.Int.{ints}
use mir.Syntax.{w64}
use mir.Val.{to_z, of_z}
use lib.IntN.{pos, ◌-ℤ◌, neg_ℤ}
use Rattle.tb_relax.specs.Rounds.{number_of}
use Rattle.tb_relax.specs.Tables.{table_counts}
use Rattle.tb_relax.proofs.Rounds.{put_next}
use Rattle.tb_relax.proofs.table.Table.put_all.Goals as goal

pub returns : goal.returns
returns c =
    let b = c.requires.by in
    let up : to_z w64 (of_z w64 c.args.by) ≡ c.args.by = omega (arith, ints) in
    let down : to_z w64 (of_z w64 (pos 0 -ℤ to_z w64 (of_z w64 c.args.by))) ≡ neg_ℤ c.args.by = omega (arith, ints) in
    put_next _ c.args.parts.second_back.counts _ _ (number_of (table_counts c.args.self.now) c.args.round.second_back) c.args.parts.second_back.here _ _ c.put-4.ensures
    (put_next _ c.args.parts.second.counts _ _ (number_of (table_counts c.args.self.now) c.args.round.second) c.args.parts.second.here _ _ c.put-3.ensures
    (put_next _ c.args.parts.first_back.counts _ _ (number_of (table_counts c.args.self.now) c.args.round.first_back) c.args.parts.first_back.here _ _ c.put-2.ensures
    (put_next _ c.args.parts.first.counts _ _ (number_of (table_counts c.args.self.now) c.args.round.first) c.args.parts.first.here _ _ c.put.ensures refl up) down) up) down
