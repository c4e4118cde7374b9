use Rattle.std.proofs.Common.{◌<◌, arith, refl, sym, ◌∙◌, true, false}
use Rattle.std.proofs.lemmas.Bool.{false≢true, true≢false}
use Rattle.tb_places.specs.Places.{cell_count}
use Rattle.tb_grid.specs.declared.ids.CellId.{CellId}
use Rattle.tb_grid.specs.Views.{along_axes}
use Rattle.tb_walk.proofs.Openings.{begun_more, begun_with, opening_at}
use Rattle.tb_walk.proofs.spreading.begin.Goals as goal
use Rattle.tb_walk.proofs.spreading.begin.Goals.{then-marked-number+then-has_opening+in_ok-visit, else-marked-number, else-marked-number-via-then-marked-number+else-has_opening, else-marked-number-via-else-marked-number}

pub loop-number-preserved : goal.loop-number-preserved
loop-number-preserved c =
    let n = along_axes c.args.counts in
    let at : CellId = record { 0 = c.loop-number.number } in
    let walk = c.loop-number.invariant in
    let below : c.loop-number.number < cell_count n = omega arith in
    elim c.if-marked-number.branch [
      | then-marked-number+then-has_opening+in_ok-visit w ↦ rw (w.reached-is, w.work-is)
          (begun_with n c.args.marked.now (cell_count n) at c.loop-number.reached c.loop-number.work.items w.visit.new.reached w.visit.new.work.items below
          ((opening_at c.args.counts w.new.result.counts at w.new.result.cell c.args.marked.now true w.new.ensures.counts w.new.ensures.cell w.if-has_opening.ensures).0 refl)
          walk w.in_ok-visit.ensures)
      | else-marked-number w ↦ rw (w.reached-is, w.work-is) (begun_more n c.args.marked.now (cell_count n) c.loop-number.number c.loop-number.reached c.loop-number.work.items walk
          (elim w.else-marked-number.branch [
            | else-marked-number-via-then-marked-number+else-has_opening v ↦ λ _ opening. absurd (false≢true
                ((opening_at c.args.counts v.new.result.counts at v.new.result.cell c.args.marked.now false v.new.ensures.counts v.new.ensures.cell v.if-has_opening.ensures).1 opening))
            | else-marked-number-via-else-marked-number v ↦ λ set _. absurd (true≢false (sym set ∙ v.if-marked-number.false))
          ]))
    ]
