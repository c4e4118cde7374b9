use Rattle.std.proofs.Common.{subst, Err}
use Rattle.tb_grid.specs.Levels.{AnswersLevel}
use Rattle.tb_grid.specs.declared.levels.LevelFault.{LevelFault}
use Rattle.tb_geometry.specs.Base.{base_axes}
use Rattle.tb_demo.proofs.LevelCells.{counted_of, never_too_large}
use Rattle.tb_demo.proofs.solving.demo_level.Goals as goal

pub unreachable-requires : goal.unreachable-requires
unreachable-requires c =
    never_too_large c.args.storeys c.demo_grading.result c.args.body.now c.requires.some c.requires.few c.demo_grading.ensures c.requires.body
    c.in-Err-TooLarge.field-0-0
    (subst (λ (f : LevelFault). AnswersLevel c.demo_grading.result (base_axes c.args.body.now.boxes) (Err f)) c.in-Err-TooLarge.field-0-is c.in-Err-TooLarge.ensures.level)

pub returns-in-Ok-clause-cells : goal.returns-in-Ok-clause-cells
returns-in-Ok-clause-cells c =
    counted_of c.args.storeys c.demo_grading.result c.args.body.now c.requires.some c.requires.few c.demo_grading.ensures c.requires.body
    c.in-Ok.grid c.in-Ok.ensures.level
