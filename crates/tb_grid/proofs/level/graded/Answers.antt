use Rattle.std.proofs.Common.{◌≡◌, ℕ, Err, add-one, ap, arith, subst}
use Rattle.tb_grid.specs.Level.{IsLevelGrid, IsTooFine, never}
use Rattle.tb_grid.specs.declared.level.GridFault.TheVariants.{TooManyLines}
use Rattle.tb_grid.proofs.Carries.{level_first, level_has_all, level_last, level_two}
use Rattle.tb_grid.proofs.LevelLines.{first_grade_halves, once_again, too_fine, too_fine_by}
use Rattle.tb_grid.proofs.level.graded.Goals as goal
use Rattle.tb_grid.proofs.level.graded.Goals.{After-loop-time}

pub returns-then-count-gt-MOST_LINES-clause-too_many : goal.returns-then-count-gt-MOST_LINES-clause-too_many
returns-then-count-gt-MOST_LINES-clause-too_many c =
    let a = c.args in let n = c.level_count-count.result in
    let fine = too_fine a.grade a.halve n a.axis.now c.lines-base.ensures.axis.rising c.level_count-count.ensures (omega arith) in
    λ count. (
      λ same. let is : n ≡ count = cc in subst (λ (m : ℕ). IsTooFine a.grade a.halve a.axis.now m) is fine,
      λ other. ap (λ (m : ℕ). Err (TooManyLines m)) (too_fine_by a.grade a.halve n count a.axis.now c.level_count-count.ensures other).0,
    )

pub loop-time-preserved : goal.loop-time-preserved
loop-time-preserved c =
    let once = rw c.as_slice.ensures.value at c.in_ok-lines-2.ensures in
    let before = c.loop-time.invariant in
    record {
      rising = once.rising;
      halved = rw add-one (once_again before.halved c.in_ok-lines-2.lines.items
          (first_grade_halves c.loop-time.lines.items c.in_ok-lines-2.lines.items once));
    }

pub cut_lines-requires-in-loop-time : goal.cut_lines-requires-in-loop-time
cut_lines-requires-in-loop-time c = rw c.as_slice.ensures.value c.loop-time.invariant.rising

-- after the last halving the lines are the level grid
level : (c : After-loop-time) → IsLevelGrid c.args.grade c.args.halve c.args.axis.now c.loop-time.lines.items
level c =
    let graded = rw c.lines-base.ensures.lines at c.in_ok-lines.ensures in
    let times : c.loop-time._time ≡ c.args.halve = omega arith in
    record { cut = c.in_ok-lines.lines.items; graded = graded; halved = rw times at c.loop-time.invariant.halved }

pub axis_of-requires : goal.axis_of-requires
axis_of-requires c =
    let a = c.args in let axis = c.lines-base.ensures.axis in
    let counted = c.level_count-count.ensures c.loop-time.lines.items (level c) in
    record {
      least = level_two a.grade a.halve a.axis.now c.loop-time.lines.items axis.least axis.rising (level c);
      most = omega arith;
      rising = c.loop-time.invariant.rising;
    }

pub returns-clause-level : goal.returns-clause-level
returns-clause-level c = rw c.axis_of.ensures (level (goal.at.returns-clause-level c).After-loop-time)

pub returns-clause-has_all : goal.returns-clause-has_all
returns-clause-has_all c =
    let a = c.args in
    rw c.axis_of.ensures
    (level_has_all a.grade a.halve a.axis.now c.loop-time.lines.items (level (goal.at.returns-clause-has_all c).After-loop-time))

pub returns-clause-first : goal.returns-clause-first
returns-clause-first c =
    let a = c.args in
    rw c.axis_of.ensures
    (level_first a.grade a.halve a.axis.now c.loop-time.lines.items c.lines-base.ensures.axis.rising
    (level (goal.at.returns-clause-first c).After-loop-time))

pub returns-clause-last : goal.returns-clause-last
returns-clause-last c =
    let a = c.args in
    rw c.axis_of.ensures
    (level_last a.grade a.halve a.axis.now c.loop-time.lines.items c.lines-base.ensures.axis.rising
    (level (goal.at.returns-clause-last c).After-loop-time))

pub returns-clause-too_many : goal.returns-clause-too_many
returns-clause-too_many c =
    let a = c.args in let n = c.level_count-count.result in
    λ count. (
      λ same. absurd (cc),
      λ other. let many = (too_fine_by a.grade a.halve n count a.axis.now c.level_count-count.ensures other).1 in absurd (omega arith),
    )

pub loop-time-init : goal.loop-time-init
loop-time-init c = record { rising = c.in_ok-lines.ensures.rising; halved = never }
