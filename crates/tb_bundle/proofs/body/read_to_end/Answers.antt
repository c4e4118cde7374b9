use Rattle.tb_bundle.specs.Bodies.{case_forms_from, cases_table, end_table}
use Rattle.tb_case_records.proofs.Taking.{past_then, stops_short, stops_then}
use Rattle.tb_bundle.proofs.body.read_to_end.Goals as goal

pub returns-in-Err : goal.returns-in-Err
returns-in-Err c =
    stops_short (cases_table (case_forms_from c.args.body.detail.now 1 c.args.masks.now) c.args.reader.now.ahead) end_table c.args.reader.now c.in-Err.refusal c.in-Err.ensures

pub returns-in-Ok-take_words : goal.returns-in-Ok-take_words
returns-in-Ok-take_words c = (
  past_then (cases_table (case_forms_from c.args.body.detail.now 1 c.args.masks.now) c.args.reader.now.ahead) end_table c.args.reader.now c.read_cases.new.reader c.take_words.new.reader
      c.in-Ok.ensures.past c.in-Ok-take_words.ensures,
  c.in-Ok.ensures.said,
)

pub returns-in-Err-take_words : goal.returns-in-Err-take_words
returns-in-Err-take_words c =
    stops_then (cases_table (case_forms_from c.args.body.detail.now 1 c.args.masks.now) c.args.reader.now.ahead) end_table c.args.reader.now c.read_cases.new.reader c.in-Err-take_words.refusal
    c.in-Ok.ensures.past c.in-Err-take_words.ensures
