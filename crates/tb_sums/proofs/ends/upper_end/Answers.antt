use Rattle.std.proofs.Common.{◌≡◌, ◌∙◌, ap, arith, pos, subst, sym, to_z, ℕ, List}
use Rattle.std.specs.Int.{w128}
use Rattle.std.proofs.lemmas.Int.{ints}
use Rattle.tb_grid.specs.Grid.{Axes}
use Rattle.tb_rows.specs.Widths.{AreWidths}
use Rattle.tb_rows.proofs.Grids.{widths_fit}
use Rattle.tb_sums.proofs.EndSums.{upper_is}
use Rattle.tb_sums.proofs.ends.upper_end.Goals as goal

pub put_inverses-requires-clause-widths : goal.put_inverses-requires-clause-widths
put_inverses-requires-clause-widths c =
    let rows = c.new-rows.result in let is = c.new-rows.ensures.rows in
    subst (λ (lines : List ℕ). AreWidths lines) (sym (c.lines.ensures.lines ∙ c.axis.ensures.axis ∙ ap (λ (g : Axes). g.x) (sym c.new-rows.ensures.grid)))
    (widths_fit rows.body.now rows.grid.now is.limits is.carries)

pub returns-clause-value : goal.returns-clause-value
returns-clause-value c =
    let most = c.energy.ensures.most in
    let same : to_z w128 c.energy.result ≡ pos c.energy.result = omega (arith, ints, most) in
    same ∙ c.energy.ensures.value
    ∙ upper_is (record { rows = c.new-rows.result; temperatures = c.values.result; case = c.args.case; inverses = c.as_slice.result }) c.args.body.now c.args.grid.now c.args.field.now
    c.new-rows.ensures.body c.new-rows.ensures.grid c.values.ensures
