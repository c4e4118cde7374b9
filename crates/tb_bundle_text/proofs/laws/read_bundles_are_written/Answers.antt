use Rattle.tb_records.specs.Records.{records_of}
use Rattle.tb_bundle_text.proofs.ReadWithin.{read_within}
use Rattle.tb_bundle_text.proofs.WholeBack.{text_back}
use Rattle.tb_bundle_text.proofs.laws.read_bundles_are_written.Goals as goal

pub returns-clause-limits : goal.returns-clause-limits
returns-clause-limits c = λ bytes bundle h. read_within (records_of bytes) bundle h

pub returns-clause-same : goal.returns-clause-same
returns-clause-same c = λ bytes bundle h. text_back bundle (read_within (records_of bytes) bundle h)
