-- Faults of records, and where they stand in a bundle.
use Rattle.std.specs.Prelude.{ℕ}
use Rattle.tb_case_records.specs.declared.fault.BundleFault.{BundleFault}
use Rattle.tb_case_records.specs.declared.fault.BundleFault.TheVariants as bundle
use Rattle.tb_case_records.specs.declared.fault.RecordFault.{RecordFault}
use Rattle.tb_case_records.specs.declared.fault.RecordFault.TheVariants as fault

-- the fault of the bundle that has this fault in the record of this number
abbrev pub placed : ℕ → RecordFault → BundleFault
placed n fault.Shape = bundle.Shape n
placed n (fault.BadNumber field) = bundle.BadNumber (record { number = n; field = field })
placed n (fault.OutOfRange field) = bundle.ValueOutOfRange (record { number = n; field = field })
placed n (fault.NotRising field) = bundle.NotRising (record { number = n; field = field })
placed n (fault.LineOutside field) = bundle.LineOutside (record { number = n; field = field })
placed n fault.GridTooLarge = bundle.GridTooLarge n
placed n (fault.LineMissing case axis line) = bundle.LineMissing case axis line
