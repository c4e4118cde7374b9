use Rattle.std.proofs.Common.{arith}
use Rattle.std.proofs.lemmas.Int.{ints}
use Rattle.tb_cycle_moves.proofs.Sizes.{back_within, forth_within}
use Rattle.tb_cycle_moves.proofs.reach.face_reach.Goals as goal

pub returns-then-forth-clause-within : goal.returns-then-forth-clause-within
returns-then-forth-clause-within c = λ t. forth_within c.args.forth _ _ _ t c.if-forth.true c.face_forth-reach.ensures.low c.face_forth-reach.ensures.high

pub returns-else-forth-clause-within : goal.returns-else-forth-clause-within
returns-else-forth-clause-within c = λ t. back_within c.args.forth _ _ _ t _ _ c.if-forth.false c.turned.ensures.low c.turned.ensures.high c.face_forth-reach.ensures.low c.face_forth-reach.ensures.high

pub returns-else-forth-clause-bounded : goal.returns-else-forth-clause-bounded
returns-else-forth-clause-bounded c =
    let r = c.turned.ensures.rate in
    let s = c.turned.ensures.slope in
    let l = c.turned.ensures.low in
    let h = c.turned.ensures.high in
    let r' = c.face_forth-reach.ensures.rate_small in
    let s' = c.face_forth-reach.ensures.slope_small in
    let l' = c.face_forth-reach.ensures.low in
    let h' = c.face_forth-reach.ensures.high in
    let here = c.face_forth-reach.ensures.here in
    record {
      opens_up = omega (arith, ints, r'.0);
      rate = omega (arith, ints, r'.0, r'.1);
      slope = omega (arith, ints);
      under = omega (arith, ints);
      over = omega (arith, ints);
      low_far = omega (arith, ints);
      high_far = omega (arith, ints);
    }
