use Rattle.tb_case_records.specs.Rows.{reading_of}
use Rattle.tb_case_records.specs.Table.{Values}
use Rattle.tb_case_records.proofs.Taking.{row_cut, row_past, row_read}
use Rattle.tb_case_records.proofs.rows.take_rows.Goals as goal

pub returns-in-Err-clause-taken : goal.returns-in-Err-clause-taken
returns-in-Err-clause-taken c =
    row_cut (Values c.args.kind c.args.count) c.loop-at.at c.args.reader.now c.loop-at.reader c.loop-at.invariant.past
    c.args.rows c.in-Err.refusal c.loop-at-test.true c.in-Err.ensures.taken

pub loop-at-preserved : goal.loop-at-preserved
loop-at-preserved c = record {
  past = row_past (Values c.args.kind c.args.count) c.loop-at.at c.args.reader.now c.loop-at.reader c.loop-at.invariant.past c.take_row.new.reader c.in_default.ensures.taken;
  read = row_read (Values c.args.kind c.args.count) c.loop-at.at c.args.reader.now c.loop-at.reader c.loop-at.invariant.past (reading_of c.args.kind)
      c.args.values.now.items c.loop-at.values.items c.take_row.new.values.items c.loop-at.invariant.read c.in_default.ensures.read;
}
