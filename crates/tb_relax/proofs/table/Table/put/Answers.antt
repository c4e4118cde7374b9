use Rattle.std.proofs.Common.{arith}
use Rattle.std.proofs.lemmas.Int.{ints}
use Rattle.tb_relax.proofs.Rounds.{put_written}
use Rattle.tb_relax.proofs.table.Table.put.Goals as goal

pub returns-then-part : goal.returns-then-part
returns-then-part c =
    let h = c.requires.here in
    let b = c.requires.by in
    put_written c.args.part.counts c.args.flows.now c.face_number.result _ _ _ c.if-part.true c.face_number.ensures.number (omega (arith, ints))
