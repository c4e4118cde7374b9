use Rattle.std.proofs.Common.{ap, ◌∙◌, arith, ℕ}
use Rattle.std.proofs.lemmas.Int.{ints}
use lib.IntN.{pos, ◌*ℤ◌}
use Rattle.tb_relax.specs.Tables.{field_forms, face_inside_at}
use Rattle.tb_weighted.proofs.Pulls.{leveled}
use Rattle.tb_relax.proofs.table.Table.pull_at.Goals as goal

pub returns-then-face-clause-rate : goal.returns-then-face-clause-rate
unfolding field_forms
returns-then-face-clause-rate c = c.pull_of.ensures.rate ∙ ap (λ (n : ℕ). pos 4 *ℤ pos n) c.face-face.ensures.weight

pub returns-then-face-clause-slope : goal.returns-then-face-clause-slope
unfolding field_forms
returns-then-face-clause-slope c =
    leveled (face_inside_at c.args.self.now c.args.axis c.args.i c.args.q.interval c.args.r.interval) c.face-face.result.inside _ _ _ _ c.args.here c.pull_of.ensures.slope (ap pos c.face-face.ensures.weight) c.face-face.ensures.inside
    (rw c.if-face.true (omega (arith, ints)))

pub returns-else-face-clause-rate : goal.returns-else-face-clause-rate
unfolding field_forms
returns-else-face-clause-rate c = c.pull_of-else-face.ensures.rate ∙ ap (λ (n : ℕ). pos 4 *ℤ pos n) c.face-face.ensures.weight

pub returns-else-face-clause-slope : goal.returns-else-face-clause-slope
unfolding field_forms
returns-else-face-clause-slope c =
    leveled (face_inside_at c.args.self.now c.args.axis c.args.i c.args.q.interval c.args.r.interval) c.face-face.result.inside _ _ _ _ c.args.here c.pull_of-else-face.ensures.slope (ap pos c.face-face.ensures.weight) c.face-face.ensures.inside
    (rw c.if-face.false (omega (arith, ints)))
