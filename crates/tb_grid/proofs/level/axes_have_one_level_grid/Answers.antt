use Rattle.tb_grid.proofs.CutLines.{cut_lines, halved}
use Rattle.tb_grid.proofs.LevelLines.{level_lines, level_unique}
use Rattle.tb_grid.proofs.level.axes_have_one_level_grid.Goals as goal

pub returns : goal.returns
returns c = record {
  some = λ grade halve base rising. (halved halve (cut_lines grade base), level_lines grade halve base rising);
  one = level_unique;
}
