use Rattle.std.proofs.Common.{◌≡◌, ◌∙◌, ◌^◌, ap, subst, sym, pos, ℕ, List, ℤ, ◌-ℤ◌, ◌*ℤ◌, ◌<ℤ◌, rules, to_z, of_z}
use Rattle.tb_sums.specs.declared.flux.BodyFlux.{BodyFlux}
use Rattle.tb_grid.specs.Grid.{Axes}
use Rattle.tb_rows.specs.Widths.{AreWidths}
use Rattle.tb_rows.proofs.Grids.{widths_fit}
use Rattle.tb_sums.proofs.EndSums.{loss_is, lower_is}
use Rattle.tb_sums.proofs.Limits.{not_past}
use Rattle.tb_sums.proofs.ends.lower_end.Goals as goal
use mir.Syntax.{w128}

pub put_inverses-requires-clause-widths : goal.put_inverses-requires-clause-widths
put_inverses-requires-clause-widths c =
    let rows = c.new-rows.result in let is = c.new-rows.ensures.rows in
    subst (λ (lines : List ℕ). AreWidths lines) (sym (c.lines.ensures.lines ∙ c.axis.ensures.axis ∙ ap (λ (g : Axes). g.x) (sym c.new-rows.ensures.grid)))
    (widths_fit rows.body.now rows.grid.now is.limits is.carries)

pub returns-clause-value : goal.returns-clause-value
returns-clause-value c =
    let f : BodyFlux = record { rows = c.new-rows.result; flows = c.values.result; case = c.args.case; inverses = c.as_slice.result } in
    let stored : to_z w128 (of_z w128 c.source_less.result) ≡ c.source_less.result = search rules in
    let entering : to_z w128 (of_z w128 c.in_ok-sums.sums.entering) ≡ c.in_ok-sums.sums.entering = search rules in
    stored ∙ c.source_less.ensures.value ∙ ap (λ (z : ℤ). pos 2000000 *ℤ z -ℤ pos c.in_ok-sums.sums.loss) entering
    ∙ lower_is f c.args.body.now c.args.grid.now c.args.flux.now c.in_ok-sums.sums.entering c.in_ok-sums.sums.loss c.new-rows.ensures.body c.new-rows.ensures.grid c.values.ensures
    c.in_ok-sums.ensures.entering c.in_ok-sums.ensures.loss

pub returns-clause-past_limit : goal.returns-clause-past_limit
returns-clause-past_limit c =
    let f : BodyFlux = record { rows = c.new-rows.result; flows = c.values.result; case = c.args.case; inverses = c.as_slice.result } in (
      λ e. absurd (cc),
      λ past. absurd (not_past c.in_ok-sums.sums.loss _ c.in_ok-sums.ensures.within
          (c.in_ok-sums.ensures.loss ∙ loss_is f c.args.body.now c.args.grid.now c.args.flux.now c.new-rows.ensures.body c.new-rows.ensures.grid c.values.ensures) past),
    )

pub returns-in_err-sums-clause-past_limit : goal.returns-in_err-sums-clause-past_limit
returns-in_err-sums-clause-past_limit c =
    let f : BodyFlux = record { rows = c.new-rows.result; flows = c.values.result; case = c.args.case; inverses = c.as_slice.result } in (
      λ e. subst (λ (z : ℤ). pos (2 ^ 120) <ℤ z) (loss_is f c.args.body.now c.args.grid.now c.args.flux.now c.new-rows.ensures.body c.new-rows.ensures.grid c.values.ensures) c.in_err-sums.ensures.past_limit,
      λ past. c.from_residual.ensures.0,
    )
