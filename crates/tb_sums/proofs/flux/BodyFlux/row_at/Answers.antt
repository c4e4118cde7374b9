use Rattle.std.proofs.Common.{ℕ, ◌≤◌, List, arith, length, sym, subst, ap, ◌∙◌}
use Rattle.tb_rows.specs.Widths.{AreWidths}
use Rattle.tb_rows.proofs.Grids.{widths_fit}
use Rattle.tb_sums.proofs.flux.BodyFlux.row_at.Goals as goal

pub invariant_of-result : goal.invariant_of-result
invariant_of-result c =
    let f = c.args.self.now in let h = c.requires.fits in let q = c.flow_rows.ensures.rows in
    let axis = c.lines.ensures.axis in
    let x = c.axis.ensures.axis in let l = c.lines.ensures.lines in
    let least = axis.least in
    let e = ap length (l ∙ x) in
    let least2 = subst (λ (lines : List ℕ). 2 ≤ length lines) x least in
    record {
      widths = subst (λ (lines : List ℕ). AreWidths lines) (sym (l ∙ x)) (widths_fit f.rows.body.now f.rows.grid.now h.rows.limits h.rows.carries);
      along_x = omega (arith, q.x.count, e, least2);
      at_low_y = omega (arith, q.low_y.count, e, least2);
      at_high_y = omega (arith, q.high_y.count, e, least2);
      at_low_z = omega (arith, q.low_z.count, e, least2);
      at_high_z = omega (arith, q.high_z.count, e, least2);
      flows_x = q.x.flows;
      flows_low_y = q.low_y.flows;
      flows_high_y = q.high_y.flows;
      flows_low_z = q.low_z.flows;
      flows_high_z = q.high_z.flows;
      few = let most = axis.most in let m = subst (λ (lines : List ℕ). length lines ≤ 1024) x most in omega (arith, e, m);
      room = let r = h.room in omega (arith, e, least2, r);
    }
