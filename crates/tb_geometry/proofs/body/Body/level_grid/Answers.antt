use Rattle.std.proofs.Common.{◌≡◌, ◌∙◌, ap, subst, IfOk}
use Rattle.tb_detail.specs.declared.Detail.{Detail}
use Rattle.tb_grid.specs.Grid.{Axes}
use Rattle.tb_grid.specs.Levels.{AnswersLevel}
use Rattle.tb_geometry.specs.Base.{base_axes}
use Rattle.tb_geometry.specs.Grids.{CarriesBody}
use Rattle.tb_geometry.proofs.LevelGrids.{base_within, level_carries_if}
use Rattle.tb_geometry.proofs.body.Body.level_grid.Goals as goal

pub level_grid-requires-clause-reach : goal.level_grid-requires-clause-reach
level_grid-requires-clause-reach c =
    let keeps = c.self.invariant in base_within c.self.inside.detail.value c.self.inside.base keeps.lines keeps.limits

pub returns-clause-level : goal.returns-clause-level
returns-clause-level c =
    let is : c.self.inside.base ≡ base_axes c.args.self.now.boxes =
    c.self.invariant.lines ∙ ap (λ (d : Detail). base_axes d.boxes) c.self.view_is in
    subst (λ (base : Axes). AnswersLevel c.args.grading base c.level_grid.result) is c.level_grid.ensures.level

pub returns-clause-carries : goal.returns-clause-carries
returns-clause-carries c =
    let keeps = c.self.invariant in let level = c.level_grid.ensures in
    subst (λ (d : Detail). IfOk c.level_grid.result (λ grid. CarriesBody grid d)) c.self.view_is
    (level_carries_if c.self.inside.detail.value c.args.grading c.self.inside.base _ keeps.lines keeps.holders level.base
    c.level_grid.result level.level level.grid)
