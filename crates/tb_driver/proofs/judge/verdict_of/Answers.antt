use Rattle.std.proofs.Common.{◌∙◌, sym}
use Rattle.std.proofs.lemmas.Bool.{true≢false}
use Rattle.tb_driver.proofs.judge.verdict_of.Goals as goal

pub returns-then-settled : goal.returns-then-settled
returns-then-settled c = (λ reached. true≢false (sym (c.is_reached.ensures.1 reached) ∙ c.if-is_reached.false), c.settled.ensures.0 c.if-settled.true)
