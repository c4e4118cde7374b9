use Rattle.std.specs.Prelude.{codes}
use Rattle.tb_outside.proofs.Each.{gathers_next_item}
use Rattle.tb_report.specs.Texts.{value_line}
use Rattle.tb_report.specs.Values.{chi_value}
use Rattle.tb_report.proofs.Gathering.{there}
use Rattle.tb_report.proofs.report.put_chis.Goals as goal

pub loop-item-preserved : goal.loop-item-preserved
loop-item-preserved g c =
    let d = c.args.detail.now in
    let here = there c.items-item-items.result.now d.chis c.loop-item.item-index c.item-item.result c.items-item-items.ensures c.loop-item-test.true c.item-item.is in
    gathers_next_item (λ p. value_line (codes "chi,") p.name (chi_value d c.args.intervals.now p)) d.chis c.loop-item.item-index c.item-item.result here.1 here.0 c.loop-item.invariant
    (rw (c.bytes.ensures, c.chi_value-value.ensures) at c.put_value.ensures)
