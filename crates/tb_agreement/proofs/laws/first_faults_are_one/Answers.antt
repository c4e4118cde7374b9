use Rattle.tb_agreement.proofs.Determined.{refused}
use Rattle.tb_agreement.proofs.OneFault.{one_first_fault}
use Rattle.tb_agreement.proofs.laws.first_faults_are_one.Goals as goal

pub returns-clause-one : goal.returns-clause-one
returns-clause-one c = λ rows fault other h k. (one_first_fault rows).one fault other h k

pub returns-clause-none : goal.returns-clause-none
returns-clause-none c = λ rows fault right found. (one_first_fault rows).none fault right found

pub returns-clause-refused : goal.returns-clause-refused
returns-clause-refused c = refused
