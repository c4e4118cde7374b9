use Rattle.std.proofs.Common.{arith}
use Rattle.std.proofs.lemmas.Int.{ints}
use Rattle.tb_relax.proofs.reverse.reversed.Goals as goal

pub returns-clause-part : goal.returns-clause-part
returns-clause-part c =
    let r = c.turned.ensures.rate in
    let s = c.turned.ensures.slope in
    let o = c.requires.part.opens_up in
    let q = c.requires.part.rate in
    let u = c.requires.part.slope in
    let a = c.requires.part.range.under in
    let b = c.requires.part.range.over in
    let lf = c.requires.part.range.low_far in
    let hf = c.requires.part.range.high_far in
    record {
      opens_up = omega (arith, ints);
      rate = omega (arith, ints);
      slope = omega (arith, ints);
      rate_idle = λ e. let z = c.requires.part.rate_idle e in omega (arith, ints);
      slope_idle = λ e. let z = c.requires.part.slope_idle e in omega (arith, ints);
      range = record {
        under = omega (arith, ints);
        over = omega (arith, ints);
        low_far = omega (arith, ints);
        high_far = omega (arith, ints);
        low_idle = λ e. let z = c.requires.part.range.high_idle e in omega (arith, ints);
        high_idle = λ e. let z = c.requires.part.range.low_idle e in omega (arith, ints);
      };
    }
