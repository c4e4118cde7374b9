use Rattle.std.proofs.Common.{◌∙◌}
use Rattle.tb_case_records.specs.Cases.{form_of}
use Rattle.tb_case_records.proofs.WholeCase.{axes_stop, case_is, end_stop_at, values_stop_at, whole_past_at}
use Rattle.tb_case_records.proofs.case.read_case.Goals as goal

pub returns-in-Err : goal.returns-in-Err
returns-in-Err c = axes_stop (form_of c.args.shape) c.args.reader.now c.in-Err.refusal c.in-Err.ensures.taken

pub returns-in-Err-take_values : goal.returns-in-Err-take_values
returns-in-Err-take_values c =
    values_stop_at (form_of c.args.shape) c.args.reader.now c.take_grid.new.reader c.in-Ok.ensures.taken c.in-Ok.grid c.in-Ok.ensures.read
    c.counts_of-counts.result.x c.counts_of-counts.result.y c.counts_of-counts.result.z c.counts_of-counts.ensures.x c.counts_of-counts.ensures.y c.counts_of-counts.ensures.z
    c.in-Err-take_values.refusal c.in-Err-take_values.ensures.taken

pub returns-in-Err-take_end : goal.returns-in-Err-take_end
returns-in-Err-take_end c =
    end_stop_at (form_of c.args.shape) c.args.reader.now c.take_grid.new.reader c.in-Ok.ensures.taken c.in-Ok.grid c.in-Ok.ensures.read
    c.counts_of-counts.result.x c.counts_of-counts.result.y c.counts_of-counts.result.z c.counts_of-counts.ensures.x c.counts_of-counts.ensures.y c.counts_of-counts.ensures.z
    c.take_values.new.reader c.in-Ok-take_values.ensures.taken c.in-Err-take_end.refusal c.in-Err-take_end.ensures.taken

pub returns-in-Ok-take_end : goal.returns-in-Ok-take_end
returns-in-Ok-take_end c = record {
  past = whole_past_at (form_of c.args.shape) c.args.reader.now c.take_grid.new.reader c.in-Ok.ensures.taken c.in-Ok.grid c.in-Ok.ensures.read
      c.counts_of-counts.result.x c.counts_of-counts.result.y c.counts_of-counts.result.z c.counts_of-counts.ensures.x c.counts_of-counts.ensures.y c.counts_of-counts.ensures.z
      c.take_values.new.reader c.in-Ok-take_values.ensures.taken c.take_end.new.reader c.in-Ok-take_end.ensures.taken;
  said = c.case_proof.ensures
      ∙ case_is (form_of c.args.shape) c.args.reader.now c.take_grid.new.reader c.in-Ok.ensures.taken c.in-Ok.grid c.in-Ok.ensures.read
      c.counts_of-counts.result.x c.counts_of-counts.result.y c.counts_of-counts.result.z c.counts_of-counts.ensures.x c.counts_of-counts.ensures.y c.counts_of-counts.ensures.z
      c.take_values.new.reader c.in-Ok-take_values.ensures.taken _ _ _ _ _ c.in-Ok-take_values.ensures.read c.in-Ok-take_end.ensures.read;
}
