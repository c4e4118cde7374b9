use Rattle.std.proofs.Common.{◌<◌, List, Bool, arith, subst, sym, ◌∙◌}
use Rattle.std.proofs.lemmas.Bool.{true≢false}
use Rattle.tb_places.specs.Places.{cell_count}
use Rattle.tb_grid.specs.Grid.{counts_of}
use Rattle.tb_walk.specs.Marks.{AreReached}
use Rattle.tb_walk.proofs.Ends.{first_left, one_more}
use Rattle.tb_walk.proofs.first_isolated.Goals as goal
use Rattle.tb_walk.proofs.first_isolated.Goals.{else-solid-number-via-then-solid-number+else-not-reached-number, else-solid-number-via-else-solid-number}

pub returns-then-not-reached-number-clause-first : goal.returns-then-not-reached-number-clause-first
returns-then-not-reached-number-clause-first c =
    let n = counts_of c.args.grid.now in
    let are : AreReached n c.args.solid.now c.as_slice-reached.result.now =
    subst (λ (r : List Bool). AreReached n c.args.solid.now r) (sym c.as_slice-reached.ensures.value) c.in_ok-flags.ensures in
    let below : c.loop-number.number < cell_count n = omega arith in
    first_left n c.args.solid.now c.as_slice-reached.result.now c.loop-number.number are below c.if-solid-number.true c.if-not-reached-number.true c.loop-number.invariant

pub loop-number-preserved : goal.loop-number-preserved
loop-number-preserved c =
    let n = counts_of c.args.grid.now in
    let are : AreReached n c.args.solid.now c.as_slice-reached.result.now =
    subst (λ (r : List Bool). AreReached n c.args.solid.now r) (sym c.as_slice-reached.ensures.value) c.in_ok-flags.ensures in
    one_more n c.args.solid.now c.as_slice-reached.result.now c.loop-number.number are
    (elim c.else-solid-number.branch [
      | else-solid-number-via-then-solid-number+else-not-reached-number v ↦ λ _. v.if-not-reached-number.false
      | else-solid-number-via-else-solid-number v ↦ λ set. absurd (true≢false (sym set ∙ v.if-solid-number.false))
    ])
    c.loop-number.invariant
