use Rattle.std.proofs.Common.{◌∙◌, ap}
use Rattle.std.specs.Prelude.{List}
use Rattle.tb_reading.specs.Reading.{detail_reading, numbered}
use Rattle.tb_reading.specs.Records.{Row}
use Rattle.tb_canonical.proofs.WholeReading.{canonical_plain, canonical_reading, text_reads_back}
use Rattle.tb_canonical.proofs.laws.canonical_reads_back.Goals as goal

pub returns-clause-records : goal.returns-clause-records
returns-clause-records c = λ number first d h. canonical_reading d h number first

pub returns-clause-text : goal.returns-clause-text
returns-clause-text c = text_reads_back

pub returns-clause-whole : goal.returns-clause-whole
returns-clause-whole c = λ number first d h.
    ap (λ (rows : List Row). detail_reading number (numbered first rows)) (text_reads_back d h) ∙ canonical_reading d h number first

pub returns-clause-plain : goal.returns-clause-plain
returns-clause-plain c = canonical_plain
