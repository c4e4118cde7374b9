use Rattle.std.proofs.Common.{ℕ, ◌≤◌, List, arith, length, sym, subst, ap, ◌∙◌}
use Rattle.tb_rows.specs.Widths.{AreWidths}
use Rattle.tb_rows.proofs.Grids.{widths_fit}
use Rattle.tb_sums.proofs.energy.BodyField.row_at.Goals as goal

pub invariant_of-result : goal.invariant_of-result
invariant_of-result c =
    let f = c.args.self.now in let h = c.requires.fits in let n = c.node_rows.ensures.rows in
    let axis = c.lines.ensures.axis in
    let x = c.axis.ensures.axis in let l = c.lines.ensures.lines in
    let least = axis.least in
    let e = ap length (l ∙ x) in
    let least2 = subst (λ (lines : List ℕ). 2 ≤ length lines) x least in
    record {
      widths = subst (λ (lines : List ℕ). AreWidths lines) (sym (l ∙ x)) (widths_fit f.rows.body.now f.rows.grid.now h.rows.limits h.rows.carries);
      t00 = omega (arith, n.t00.count, e, least2);
      t10 = omega (arith, n.t10.count, e, least2);
      t01 = omega (arith, n.t01.count, e, least2);
      t11 = omega (arith, n.t11.count, e, least2);
      warm_00 = n.t00.warm;
      warm_10 = n.t10.warm;
      warm_01 = n.t01.warm;
      warm_11 = n.t11.warm;
      few = let most = axis.most in let m = subst (λ (lines : List ℕ). length lines ≤ 1024) x most in omega (arith, e, m);
      room = let r = h.room in omega (arith, e, least2, r);
    }
