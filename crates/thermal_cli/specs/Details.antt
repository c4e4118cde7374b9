-- The detail that an input spells.
use Rattle.std.specs.Prelude.{ℕ, List, Result}
use Rattle.tb_detail.specs.declared.Detail.{Detail}
use Rattle.tb_records.specs.Records.{records_of}
use Rattle.tb_reading.specs.declared.fault.DetailFault.{DetailFault}
use Rattle.tb_reading.specs.Reading.{detail_reading, numbered}

-- the detail of the records of these bytes, which are counted from 1, or its first fault
abbrev pub detail_spelt : List ℕ → Result Detail DetailFault
detail_spelt bytes = detail_reading 1 (numbered 1 (records_of bytes))
