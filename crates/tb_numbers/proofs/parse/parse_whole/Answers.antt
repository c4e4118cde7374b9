use Rattle.std.proofs.Common.{◌∙◌, sym, ap, arith, Some}
use Rattle.std.proofs.lemmas.Int.{ints}
use Rattle.tb_numbers.proofs.Signs.{whole_same}
use Rattle.tb_numbers.proofs.parse.parse_whole.Goals as goal

pub returns-then-negative : goal.returns-then-negative
returns-then-negative c =
    ap Some (omega (arith, ints, c.in_ok-size.ensures.small)) ∙ whole_same c.args.text.now c.split_sign-negative.result.1.now _ c.in_ok-size.field-0 (sym c.if-negative.true ∙ c.split_sign-negative.ensures.negative) c.split_sign-negative.ensures.rest c.if-unsigned-gt-MOST_DIGITS.false (c.in_ok-size.ensures.value)

pub returns-else-negative : goal.returns-else-negative
returns-else-negative c =
    ap Some (omega (arith, ints, c.in_ok-size.ensures.small)) ∙ whole_same c.args.text.now c.split_sign-negative.result.1.now _ c.in_ok-size.field-0 (sym c.if-negative.false ∙ c.split_sign-negative.ensures.negative) c.split_sign-negative.ensures.rest c.if-unsigned-gt-MOST_DIGITS.false (c.in_ok-size.ensures.value)
