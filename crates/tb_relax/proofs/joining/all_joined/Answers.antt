use Rattle.std.proofs.Common.{arith}
use Rattle.std.proofs.lemmas.Int.{ints}
use Rattle.tb_relax.proofs.joining.all_joined.Goals as goal

pub joined-requires-clause-x : goal.joined-requires-clause-x
joined-requires-clause-x c =
    let e = c.joined-one.ensures.rate in
    let s = c.joined-one.ensures.slope in
    let e1 = c.of_part.ensures.rate in
    let s1 = c.of_part.ensures.slope in
    let e2 = c.of_part-2.ensures.rate in
    let s2 = c.of_part-2.ensures.slope in
    let o1 = c.requires.parts.first.opens_up in
    let r1 = c.requires.parts.first.rate in
    let z1 = c.requires.parts.first.slope in
    let o2 = c.requires.parts.first_back.opens_up in
    let r2 = c.requires.parts.first_back.rate in
    let z2 = c.requires.parts.first_back.slope in
    record {
      opens_up = omega (arith, ints);
      rate = omega (arith, ints);
      slope = omega (arith, ints);
      under = c.joined-one.ensures.under;
      over = c.joined-one.ensures.over;
      low_far = c.joined-one.ensures.low_far;
      high_far = c.joined-one.ensures.high_far;
    }

pub joined-requires-clause-y : goal.joined-requires-clause-y
joined-requires-clause-y c =
    let e = c.joined-other.ensures.rate in
    let s = c.joined-other.ensures.slope in
    let e1 = c.of_part-3.ensures.rate in
    let s1 = c.of_part-3.ensures.slope in
    let e2 = c.of_part-4.ensures.rate in
    let s2 = c.of_part-4.ensures.slope in
    let o1 = c.requires.parts.second.opens_up in
    let r1 = c.requires.parts.second.rate in
    let z1 = c.requires.parts.second.slope in
    let o2 = c.requires.parts.second_back.opens_up in
    let r2 = c.requires.parts.second_back.rate in
    let z2 = c.requires.parts.second_back.slope in
    record {
      opens_up = omega (arith, ints);
      rate = omega (arith, ints);
      slope = omega (arith, ints);
      under = c.joined-other.ensures.under;
      over = c.joined-other.ensures.over;
      low_far = c.joined-other.ensures.low_far;
      high_far = c.joined-other.ensures.high_far;
    }
