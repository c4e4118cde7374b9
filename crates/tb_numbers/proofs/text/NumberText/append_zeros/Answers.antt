use Rattle.std.proofs.Common.{◌∙◌, ◌++◌, ℕ, List, ap}
use Rattle.tb_numbers.proofs.Padded.{zeros_front}
use Rattle.tb_numbers.proofs.text.NumberText.append_zeros.Goals as goal

pub returns : goal.returns
returns c = c.append.ensures ∙ ap (λ (zeros : List ℕ). c.args.self.now ++ zeros) (zeros_front c.args.count c.requires.count)
