use Rattle.std.proofs.Common.{◌≤◌, ◌∙◌, ℕ, List, not, ap, length, get_or, sym, subst}
use Rattle.std.specs.List.{Contains}
use Rattle.tb_geometry.specs.Grids.{IsFirstMissing}
use Rattle.tb_geometry.proofs.Ends.{first_lack, has_all, line_lacking, line_there, one_line_more}
use Rattle.tb_geometry.proofs.grids.first_lacking.Goals as goal

pub returns-then-is_none : goal.returns-then-is_none
returns-then-is_none c =
    let items = c.lines-line-items.ensures.lines in
    let lacking = line_lacking c.args.axis.now _ c.line_at.result c.line_at.ensures (c.is_none.ensures ∙ ap not c.if-is_none.true) in
    subst (λ (lines : List ℕ). IsFirstMissing c.args.base.now c.args.axis.now (get_or lines c.loop-line.line-index 0)) (sym items)
    (first_lack c.args.base.now c.args.axis.now c.loop-line.line-index c.lines-line-items.ensures.axis.rising
    (rw (← items) c.loop-line-test.true) c.loop-line.invariant (rw (← items) lacking))

pub loop-line-preserved : goal.loop-line-preserved
loop-line-preserved c =
    let there = line_there c.args.axis.now _ c.line_at.result c.line_at.ensures (c.is_none.ensures ∙ ap not c.if-is_none.false) in
    one_line_more c.args.base.now c.args.axis.now c.loop-line.line-index c.loop-line.invariant
    (subst (λ (lines : List ℕ). Contains c.args.axis.now (get_or lines c.loop-line.line-index 0)) c.lines-line-items.ensures.lines there)

pub returns : goal.returns
returns c =
    has_all c.args.base.now c.args.axis.now c.loop-line.line-index
    (subst (λ (lines : List ℕ). length lines ≤ c.loop-line.line-index) c.lines-line-items.ensures.lines c.loop-line-test.false) c.loop-line.invariant
