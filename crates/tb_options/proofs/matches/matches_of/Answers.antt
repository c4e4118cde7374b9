use Rattle.clap.proofs.WalkLemmas.{both}
use Rattle.tb_options.proofs.matches.matches_of.Goals as goal

pub returns-in-Ok-clause-rows : goal.returns-in-Ok-clause-rows
returns-in-Ok-clause-rows c = let simple = both _ _ c.requires in let has = c.in-Ok.ensures.matches simple.0 in has.0
