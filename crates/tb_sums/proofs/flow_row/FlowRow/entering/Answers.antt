use Rattle.std.proofs.Common.{◌*◌, ◌^◌, ◌<◌, ◌≤◌, arith, length, to_z}
use Rattle.tb_sums.proofs.LossRuns.{entered_start, entered_step}
use Rattle.tb_sums.proofs.Stored.{IsNextTotal, next_total}
use Rattle.tb_sums.proofs.flow_row.FlowRow.entering.Goals as goal
use mir.Syntax.{w128}

pub loop-n-init : goal.loop-n-init
loop-n-init c = record { value = entered_start c.args.self.now c.args.run.now; size = omega arith }

pub loop-n-preserved : goal.loop-n-preserved
loop-n-preserved c =
    let l = c.loop-n in let r = c.cell_entering-total in let row = c.args.self.now in let run = c.args.run.now in
    let few : length row.lines.now ≤ 1024 = row.few in
    let to : run.to < length row.lines.now = c.requires.to in
    let t = to_z w128 l.total-bits in
    let next : IsNextTotal t r.result (l.n * (6 * 10 ^ 12)) (6 * 10 ^ 12) = next_total t r.result _ _ l.invariant.size r.ensures.size (omega (arith, few, to)) in
    record { value = next.value _ _ _ l.invariant.value r.ensures.value (entered_step row run l.n); size = omega (arith, next.size) }
