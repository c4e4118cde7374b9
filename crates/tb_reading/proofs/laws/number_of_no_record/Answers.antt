use Rattle.std.proofs.Common.{◌∙◌, ap, sym, ℕ, List, Option, Some, None, Result, is_none, if◌then◌else◌}
use Rattle.std.specs.Option.{option_or}
use Rattle.tb_detail.specs.declared.Detail.{Detail}
use Rattle.tb_reading.specs.declared.fault.DetailFault.{DetailFault}
use Rattle.tb_reading.specs.declared.fault.DetailKind.TheVariants.{NotFormat}
use Rattle.tb_reading.specs.Details.{detail_of}
use Rattle.tb_reading.specs.Reading.{Numbered, bare_fault, first_record_fault, format_fault, part_numbers, rows_of, whole_fault}
use Rattle.tb_reading.specs.Records.{Row, unless}
use Rattle.tb_reading.proofs.laws.number_of_no_record.Goals as goal

abbrev reading_by : List Numbered → Option DetailFault → Option DetailFault → Result Detail DetailFault
reading_by given first format = unless (option_or first (option_or format (bare_fault (part_numbers given) (detail_of (rows_of given))))) (detail_of (rows_of given))

abbrev format_by : ℕ → Option Row → Option DetailFault
format_by number o = if is_none o then Some (whole_fault NotFormat number) else None

pub returns-clause-none : goal.returns-clause-none
returns-clause-none c = λ number given e f.
    ap (λ (o : Option DetailFault). reading_by given o (format_fault number given)) f
    ∙ ap (λ (o : Option Row). reading_by given None (format_by number o)) e

pub returns-clause-some : goal.returns-clause-some
returns-clause-some c = λ number other given head e.
    ap (λ (o : Option Row). reading_by given (first_record_fault given) (format_by number o)) e
    ∙ sym (ap (λ (o : Option Row). reading_by given (first_record_fault given) (format_by other o)) e)
