use Rattle.std.proofs.Common.{◌≡◌, ◌<◌, ◌≤◌, ap, length, arith}
use Rattle.tb_reading.proofs.Changed.{past_changed, set_at}
use Rattle.tb_reading.proofs.draft.add_to.Goals as goal

pub returns : goal.returns
returns g c =
    let within : c.from-place.result < length c.items.inside.items.items = omega arith in
    set_at c.add.result c.items.inside.items.items c.args.items.now c.from-place.result c.args.place c.index_mut-item.result.now c.add.new.self (g.T.Owner.with c.args.thing)
    c.items.view_is c.from-place.ensures within c.index_mut-item.ensures.value c.add.ensures

pub returns-then-place-len : goal.returns-then-place-len
returns-then-place-len g c =
    let view : length c.items.inside.items.items ≡ length c.args.items.now = ap length c.items.view_is in
    let past : length c.args.items.now ≤ c.args.place = omega arith in
    past_changed c.args.items.now c.args.place (g.T.Owner.with c.args.thing) past
