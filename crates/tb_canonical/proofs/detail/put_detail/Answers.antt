use Rattle.tb_outside.proofs.Gathered.{gathers_both, gathers_same}
use Rattle.tb_canonical.proofs.ItemTexts.{detail_text}
use Rattle.tb_canonical.proofs.detail.put_detail.Goals as goal

pub returns : goal.returns
returns g c = gathers_same (detail_text c.args.detail.now)
    (gathers_both (gathers_both (gathers_both (gathers_both (gathers_both (gathers_both (rw c.dimension_text.ensures at c.put_record.ensures)
    (rw c.items.ensures at c.put_each.ensures))
    (rw c.items-2.ensures at c.put_each-2.ensures))
    (rw c.items-3.ensures at c.put_each-3.ensures))
    (rw c.items-4.ensures at c.put_each-4.ensures))
    (rw c.items-5.ensures at c.put_each-5.ensures))
    (rw c.items-6.ensures at c.put_each-6.ensures))
