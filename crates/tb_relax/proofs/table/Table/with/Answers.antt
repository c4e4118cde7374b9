use Rattle.std.proofs.Common.{arith}
use Rattle.std.proofs.lemmas.Bool.{true≢false}
use Rattle.std.proofs.lemmas.Int.{ints}
use Rattle.tb_relax.proofs.table.Table.with.Goals as goal

pub returns-clause-part : goal.returns-clause-part
returns-clause-part c =
    let h = c.flow-here.ensures.size in
    record {
      opens_up = c.face_pull-pull.ensures.rate_small.0;
      rate = c.face_pull-pull.ensures.rate_small.1;
      slope = c.face_pull-pull.ensures.slope_small;
      rate_idle = λ e. absurd (true≢false e);
      slope_idle = λ e. absurd (true≢false e);
      range = record {
        under = omega (arith, ints);
        over = omega (arith, ints);
        low_far = omega (arith, ints);
        high_far = omega (arith, ints);
        low_idle = λ e. absurd (true≢false e);
        high_idle = λ e. absurd (true≢false e);
      };
    }

pub returns-clause-rate : goal.returns-clause-rate
returns-clause-rate c = c.face_pull-pull.ensures.rate

pub returns-clause-slope : goal.returns-clause-slope
returns-clause-slope c = c.face_pull-pull.ensures.slope
