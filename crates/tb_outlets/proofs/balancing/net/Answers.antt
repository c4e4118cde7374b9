use Rattle.std.proofs.Common.{◌∙◌, ◌≤◌, ◌*◌, ◌^◌, subst, sym}
use Rattle.std.specs.Prelude.{ℤ, unsigned_abs}
use Rattle.tb_grid.specs.Views.{along_axes}
use Rattle.tb_outlets.proofs.Nets.{net_sum, stored_sum, least_sum}
use Rattle.tb_outlets.proofs.balancing.net.Goals as goal

pub returns-clause-value : goal.returns-clause-value
returns-clause-value c =
    stored_sum c.net_along.result c.net_along-2.result c.net_along-3.result c.net_along.ensures.most c.net_along-2.ensures.most c.net_along-3.ensures.most
    ∙ net_sum (along_axes c.args.counts) c.args.values.now c.args.cell.0 c.cell_place-place.result
    c.net_along.result c.net_along-2.result c.net_along-3.result c.cell_place-place.ensures.place
    c.net_along.ensures.value c.net_along-2.ensures.value c.net_along-3.ensures.value

pub returns-clause-most : goal.returns-clause-most
returns-clause-most c =
    subst (λ (z : ℤ). unsigned_abs z ≤ 6 * 10 ^ 12)
    (sym (stored_sum c.net_along.result c.net_along-2.result c.net_along-3.result c.net_along.ensures.most c.net_along-2.ensures.most c.net_along-3.ensures.most))
    (least_sum c.net_along.result c.net_along-2.result c.net_along-3.result c.net_along.ensures.most c.net_along-2.ensures.most c.net_along-3.ensures.most)
