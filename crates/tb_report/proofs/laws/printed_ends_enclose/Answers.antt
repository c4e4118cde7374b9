use Rattle.std.proofs.Common.{pos, ◌^◌, arith}
use Rattle.std.proofs.lemmas.Int.{ints}
use Rattle.tb_numbers.proofs.QuotientLaws.{ceiling_brackets, floor_brackets}
use Rattle.tb_report.proofs.laws.printed_ends_enclose.Goals as goal

pub returns : goal.returns
returns c = λ i. record {
  low = (floor_brackets i.lo (pos (10 ^ 9)) (omega (arith, ints))).at_most;
  high = (ceiling_brackets i.hi (pos (10 ^ 9)) (omega (arith, ints))).at_least;
}
