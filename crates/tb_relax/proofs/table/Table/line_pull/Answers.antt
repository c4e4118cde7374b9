use Rattle.std.proofs.Common.{◌≡◌, ap, sym, ◌∙◌, arith}
use Rattle.std.proofs.lemmas.Int.{ints}
use mir.Syntax.{w64}
use mir.Val.{to_z, of_z}
use lib.IntN.{ℤ, pos, ◌-ℤ◌, ◌*ℤ◌}
use Rattle.tb_relax.specs.Tables.{field_forms, table_counts, value_on}
use Rattle.tb_weighted.proofs.Pulls.{sum_of}
use Rattle.tb_weighted.proofs.Touching.{at_slope, at_rate}
use Rattle.tb_relax.proofs.table.Table.line_pull.Goals as goal

pub returns-clause-rate : goal.returns-clause-rate
returns-clause-rate c = sum_of _ _ _ _ _ c.both.ensures.rate (sum_of _ _ _ _ _ c.both-beside.ensures.rate c.pull_below-below.ensures.rate c.pull_above-above.ensures.rate)
    (c.pull_at-at.ensures.rate ∙ sym (at_rate ((field_forms c.args.self.now).cell c.args.axis) ((field_forms c.args.self.now).face c.args.axis) ((field_forms c.args.self.now).level c.args.axis) (value_on (table_counts c.args.self.now) c.args.values.now c.args.axis) c.args.i c.args.q.own c.args.q.interval c.args.q.other c.args.r.own c.args.r.interval c.args.r.other c.requires.second_side c.requires.third_side))

pub returns-clause-slope : goal.returns-clause-slope
returns-clause-slope c =
    let same : to_z w64 (of_z w64 c.stencil-here.result) ≡ c.stencil-here.result = omega (arith, ints) in
    sum_of _ _ _ _ _ c.both.ensures.slope (sum_of _ _ _ _ _ c.both-beside.ensures.slope c.pull_below-below.ensures.slope c.pull_above-above.ensures.slope)
    (c.pull_at-at.ensures.slope ∙ ap (λ (h : ℤ). (field_forms c.args.self.now).face c.args.axis c.args.i c.args.q.interval c.args.r.interval *ℤ (h -ℤ pos 18 *ℤ (field_forms c.args.self.now).level c.args.axis c.args.i c.args.q.interval c.args.r.interval)) (same ∙ c.stencil-here.ensures.value) ∙ sym (at_slope ((field_forms c.args.self.now).cell c.args.axis) ((field_forms c.args.self.now).face c.args.axis) ((field_forms c.args.self.now).level c.args.axis) (value_on (table_counts c.args.self.now) c.args.values.now c.args.axis) c.args.i c.args.q.own c.args.q.interval c.args.q.other c.args.r.own c.args.r.interval c.args.r.other c.requires.second_side c.requires.third_side))
