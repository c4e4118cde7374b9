use Rattle.std.proofs.Common.{ap, Option}
use Rattle.std.specs.Option.{option_or}
use Rattle.tb_reading.specs.declared.fault.DetailFault.{DetailFault}
use Rattle.tb_reading.specs.Details.{detail_of}
use Rattle.tb_reading.specs.Reading.{bare_fault, format_fault, part_numbers, rows_of}
use Rattle.tb_reading.specs.Records.{unless}
use Rattle.tb_reading.proofs.First.{fault_stays}
use Rattle.tb_reading.proofs.laws.refusals_stay.Goals as goal

pub returns-clause-stays : goal.returns-clause-stays
returns-clause-stays c = fault_stays

pub returns-clause-refused : goal.returns-clause-refused
returns-clause-refused c = λ number given fault e.
    ap (λ (o : Option DetailFault). unless (option_or o (option_or (format_fault number given) (bare_fault (part_numbers given) (detail_of (rows_of given))))) (detail_of (rows_of given))) e
