use Rattle.std.proofs.Common.{◌≡◌, [], drop, sym, ◌∙◌, append_assoc, append-nil, arith}
use Rattle.std.proofs.lemmas.List.{drop_all}
use Rattle.tb_grid.proofs.CutLines.{cut_lines, cut_last_step, cut_step}
use Rattle.tb_grid.proofs.LevelLines.{cut_graded}
use Rattle.tb_grid.proofs.level.cut_lines.Goals as goal
use Rattle.tb_grid.proofs.level.cut_lines.Goals.{then-i-lines+in_ok-push_cuts, else-i-lines}

pub loop-i-preserved : goal.loop-i-preserved
loop-i-preserved c =
    let a = c.args in
    elim c.if-i-lines.branch [
      | then-i-lines+in_ok-push_cuts w ↦
          let step = cut_step a.grade a.lines.now c.loop-i.i (omega arith) in
          let before = rw step at c.loop-i.invariant in
          rw (w.cut-is, w.in_ok-push_cuts.ensures, c.in_ok-push.ensures.items) (simp append_assoc before)
      | else-i-lines w ↦
          let step = cut_last_step a.grade a.lines.now c.loop-i.i (omega arith) in
          let before = rw step at c.loop-i.invariant in
          rw (w.cut-is, c.in_ok-push.ensures.items) (simp append_assoc before)
    ]

pub returns : goal.returns
returns c =
    let a = c.args in
    let end : drop c.loop-i.i a.lines.now ≡ [] = drop_all c.loop-i.i a.lines.now (omega arith) in
    let all = rw end at c.loop-i.invariant in
    let is : c.loop-i.cut.items ≡ cut_lines a.grade a.lines.now = sym (append-nil c.loop-i.cut.items) ∙ all in
    rw is (cut_graded a.grade a.lines.now c.requires)
