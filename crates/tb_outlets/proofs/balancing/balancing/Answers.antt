use Rattle.std.proofs.Common.{◌∙◌}
use Rattle.tb_grid.specs.Views.{along_axes}
use Rattle.tb_outlets.proofs.Nets.{at_high, at_low, found_at, stored_low, stored_high}
use Rattle.tb_outlets.proofs.balancing.balancing.Goals as goal

pub returns-in-Low-clause-value : goal.returns-in-Low-clause-value
returns-in-Low-clause-value c =
    let n = along_axes c.args.counts in
    stored_low c.value_at-old.result c.net-net.result c.value_at-old.ensures.most c.net-net.ensures.most
    ∙ at_low n c.args.values.now c.args.cell.0 c.args.side _ c.value_at-old.result c.net-net.result c.in-Low.is
    (found_at n c.args.values.now c.args.cell.0 c.cell_place-place.result c.face_on.result.0 c.args.side c.value_at-old.result
    c.cell_place-place.ensures.place c.face_on.ensures.face c.value_at-old.ensures.value)
    c.net-net.ensures.value

pub returns-in-High-clause-value : goal.returns-in-High-clause-value
returns-in-High-clause-value c =
    let n = along_axes c.args.counts in
    stored_high c.value_at-old.result c.net-net.result c.value_at-old.ensures.most c.net-net.ensures.most
    ∙ at_high n c.args.values.now c.args.cell.0 c.args.side _ c.value_at-old.result c.net-net.result c.in-High.is
    (found_at n c.args.values.now c.args.cell.0 c.cell_place-place.result c.face_on.result.0 c.args.side c.value_at-old.result
    c.cell_place-place.ensures.place c.face_on.ensures.face c.value_at-old.ensures.value)
    c.net-net.ensures.value
