use Rattle.std.proofs.Common.{◌∙◌, ap, arith, length}
use Rattle.tb_outside.proofs.Known.{adds_rest}
use Rattle.tb_outside.proofs.Gathered.{rose_after}
use Rattle.tb_outside.proofs.sink.put_all.Goals as goal

pub loop-at-preserved : goal.loop-at-preserved
loop-at-preserved g c = record {
  within = omega (arith, c.in-Ok.ensures.puts);
  so_far = adds_rest _ _ _ _ _ _ c.loop-at.invariant.so_far c.in-Ok.ensures.puts.2;
  stands = c.in-Ok.ensures.faults ∙ c.loop-at.invariant.stands;
  idle = λ none. absurd (omega (arith, ap length none));
}

pub returns-in-Err-clause-faults : goal.returns-in-Err-clause-faults
returns-in-Err-clause-faults g c = rose_after _ _ _ c.loop-at.invariant.stands c.in-Err.ensures.faults
