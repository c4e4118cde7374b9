use Rattle.tb_records.specs.Records.{records_of}
use Rattle.tb_bundle_text.specs.Canonical.{bundle_text}
use Rattle.tb_bundle_text.proofs.WholeBack.{text_back}
use Rattle.tb_agreement.proofs.Accepted.{read_accepted}
use Rattle.tb_agreement.proofs.Determined.{accepted}
use Rattle.tb_agreement.proofs.laws.checked_bundles_are_written_without_fault.Goals as goal

pub returns-clause-faultless : goal.returns-clause-faultless
returns-clause-faultless c = λ bundle certified. read_accepted (records_of (bundle_text bundle)) bundle (text_back bundle certified.limits) certified

pub returns-clause-same : goal.returns-clause-same
returns-clause-same c = λ bundle certified. text_back bundle certified.limits

pub returns-clause-accepted : goal.returns-clause-accepted
returns-clause-accepted c = λ bundle result certified answers.
    let rows = records_of (bundle_text bundle) in
    accepted rows bundle result (read_accepted rows bundle (text_back bundle certified.limits) certified) (text_back bundle certified.limits) answers
