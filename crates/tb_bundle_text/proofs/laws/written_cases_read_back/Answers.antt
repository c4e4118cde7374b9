use Rattle.std.proofs.Common.{length}
use Rattle.tb_geometry.specs.Cases.{case_masks}
use Rattle.tb_bundle_text.proofs.CasesBack.{cases_back}
use Rattle.tb_bundle_text.proofs.laws.written_cases_read_back.Goals as goal

pub returns-clause-faultless : goal.returns-clause-faultless
returns-clause-faultless c = λ d cases number more limits h. (cases_back d limits (case_masks (length d.environments)) 1 cases h number more).faultless

pub returns-clause-cases : goal.returns-clause-cases
returns-clause-cases c = λ d cases number more limits h. (cases_back d limits (case_masks (length d.environments)) 1 cases h number more).said
