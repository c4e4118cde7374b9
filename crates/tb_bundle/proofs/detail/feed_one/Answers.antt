use Rattle.std.proofs.Common.{◌∙◌, ◌++◌, drop, option_map, subst, sym}
use Rattle.csv.specs.Records.{fields_of}
use Rattle.tb_reading.specs.Reading.{first_record_fault}
use Rattle.tb_case_records.specs.Table.{Refuses}
use Rattle.tb_case_records.specs.declared.fault.BundleFault.TheVariants as bundle
use Rattle.tb_case_records.specs.declared.fault.BundleRefusal.{BundleRefusal}
use Rattle.tb_bundle.specs.Details.{detail_part}
use Rattle.tb_bundle.proofs.DetailPart.{refuses_one}
use Rattle.tb_bundle.proofs.detail.feed_one.Goals as goal

pub returns-in-Err : goal.returns-in-Err
returns-in-Err c = λ done s.
    subst (λ (e : BundleRefusal). Refuses (option_map bundle.Detail (first_record_fault (done ++ detail_part c.args.reader.now.ahead))) e) (sym c.refusal_of.ensures)
    (refuses_one c.args.reader.now (c.in-Some.number, fields_of c.in-Some.row.now) (drop 1 c.args.reader.now.ahead) c.in-Err.refusal done
    c.in-Some.ensures.at (sym c.begins_body.ensures ∙ c.if-begins_body.false) (c.in-Err.ensures.answer done s))
