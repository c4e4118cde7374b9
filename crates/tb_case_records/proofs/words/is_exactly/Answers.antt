use Rattle.std.proofs.Common.{◌≡◌, ◌≤◌, ◌∙◌, sym, ap, map, length, arith, option_map, Bor}
use Rattle.csv.specs.Records.{fields_of}
use Rattle.tb_detail.specs.Names.{Text}
use Rattle.tb_case_records.specs.Table.{same_fields}
use Rattle.tb_case_records.proofs.Fitting.{field_past, fit_next}
use Rattle.tb_case_records.proofs.words.is_exactly.Goals as goal

pub returns-in_default : goal.returns-in_default
returns-in_default c =
    sym (fit_next c.args.words.now (fields_of c.args.row.now) c.loop-at.at _ c.in-Some.text.now c.loop-at-test.true c.in-Some.ensures.value _ _ c.loop-at.invariant.rest c.if-eq.ensures)

pub returns-in_default-2 : goal.returns-in_default-2
returns-in_default-2 c =
    let past : length (fields_of c.args.row.now) ≤ c.loop-at.at = field_past (fields_of c.args.row.now) c.loop-at.at (sym c.get.ensures.value ∙ rw c.in_default.is) in
    let same = c.loop-at.invariant.same_length in let within = c.loop-at-test.true in absurd (omega arith)

pub loop-at-preserved : goal.loop-at-preserved
loop-at-preserved c = record {
  same_length = c.loop-at.invariant.same_length;
  rest = fit_next c.args.words.now (fields_of c.args.row.now) c.loop-at.at _ c.in-Some.text.now c.loop-at-test.true c.in-Some.ensures.value _ _ c.loop-at.invariant.rest c.if-eq.ensures;
}
