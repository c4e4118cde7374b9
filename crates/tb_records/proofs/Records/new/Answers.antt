use Rattle.csv.specs.Reading.{strip_bom}
use Rattle.tb_records.proofs.Turns.{records_after-start}
use Rattle.tb_records.proofs.Records.new.Goals as goal

pub returns : goal.returns
returns c = rw (c.from_reader-reader.ensures.state, c.from_reader-reader.ensures.source) (records_after-start (strip_bom c.args.bytes.now))
