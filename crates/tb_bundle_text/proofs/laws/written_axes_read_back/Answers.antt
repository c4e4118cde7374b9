use Rattle.tb_bundle_text.proofs.AxisBack.{axis_back, axis_lines}
use Rattle.tb_bundle_text.proofs.laws.written_axes_read_back.Goals as goal

pub returns : goal.returns
returns c = record {
  faultless = λ case axis base cells lines is on most few. axis_back base lines is on most case axis cells few;
  lines = λ axis base lines is on most. axis_lines base lines is on most;
}
