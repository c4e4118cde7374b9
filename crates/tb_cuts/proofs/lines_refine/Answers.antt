use Rattle.tb_cuts.proofs.Merging.{line_refined}
use Rattle.tb_cuts.proofs.lines_refine.Goals as goal

pub returns : goal.returns
returns c = λ s r a q refines from to. (line_refined s r refines a q (record { from = from; to = to })).refines
