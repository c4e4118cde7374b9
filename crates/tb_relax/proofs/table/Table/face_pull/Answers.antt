use Rattle.std.proofs.Common.{◌≡◌, ap, sym, ◌∙◌, arith}
use Rattle.std.proofs.lemmas.Int.{ints}
use mir.Syntax.{w64}
use mir.Val.{to_z, of_z}
use lib.IntN.{ℤ, pos, ◌+ℤ◌, ◌*ℤ◌}
use Rattle.tb_relax.specs.Tables.{flux_forms, table_counts, flow_on}
use Rattle.tb_weighted.proofs.FlowLaws as flow
use Rattle.tb_weighted.proofs.Pulls.{sum_of, axis_flow_rates, axis_flow_slopes}
use Rattle.tb_relax.proofs.table.Table.face_pull.Goals as goal

pub returns-clause-rate : goal.returns-clause-rate
unfolding flux_forms
returns-clause-rate c =
    let same : to_z w64 (of_z w64 c.flow-here.result) ≡ c.flow-here.result = omega (arith, ints) in
    sum_of _ _ _ _ _ c.both.ensures.rate (sum_of _ _ _ _ _ c.both-beside.ensures.rate c.flow_below-below.ensures.rate c.flow_above-above.ensures.rate)
    (c.flow_at-at.ensures.rate ∙ sym (flow.rate_at ((flux_forms c.args.self.now).cell c.args.axis) ((flux_forms c.args.self.now).face c.args.axis) ((flux_forms c.args.self.now).source c.args.axis) (flow_on (table_counts c.args.self.now) c.args.flows.now c.args.axis) c.args.i c.args.j c.args.k))
    ∙ sym (axis_flow_rates (flux_forms c.args.self.now) (flow_on (table_counts c.args.self.now) c.args.flows.now c.args.axis) c.args.axis c.args.i c.args.j c.args.k c.requires.along c.requires.second c.requires.third)

pub returns-clause-slope : goal.returns-clause-slope
unfolding flux_forms
returns-clause-slope c =
    let same : to_z w64 (of_z w64 c.flow-here.result) ≡ c.flow-here.result = omega (arith, ints) in
    sum_of _ _ _ _ _ c.both.ensures.slope (sum_of _ _ _ _ _ c.both-beside.ensures.slope c.flow_below-below.ensures.slope c.flow_above-above.ensures.slope)
    (c.flow_at-at.ensures.slope ∙ ap (λ (h : ℤ). pos 2 *ℤ ((flux_forms c.args.self.now).face c.args.axis c.args.i c.args.j c.args.k *ℤ h) +ℤ (flux_forms c.args.self.now).source c.args.axis c.args.i c.args.j c.args.k) (same ∙ c.flow-here.ensures.value) ∙ sym (flow.slope_at ((flux_forms c.args.self.now).cell c.args.axis) ((flux_forms c.args.self.now).face c.args.axis) ((flux_forms c.args.self.now).source c.args.axis) (flow_on (table_counts c.args.self.now) c.args.flows.now c.args.axis) c.args.i c.args.j c.args.k))
    ∙ sym (axis_flow_slopes (flux_forms c.args.self.now) (flow_on (table_counts c.args.self.now) c.args.flows.now c.args.axis) c.args.axis c.args.i c.args.j c.args.k c.requires.along c.requires.second c.requires.third)
