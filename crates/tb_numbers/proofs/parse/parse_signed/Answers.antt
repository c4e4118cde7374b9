use Rattle.std.proofs.Common.{◌∙◌, sym, ap, arith, Ok}
use Rattle.std.proofs.lemmas.Int.{ints}
use Rattle.std.proofs.lemmas.Result.{err_from_is_err_and}
use Rattle.tb_numbers.proofs.Signs.{signed_same}
use Rattle.tb_numbers.proofs.parse.parse_signed.Goals as goal

pub returns-in_err-size-clause-reading : goal.returns-in_err-size-clause-reading
returns-in_err-size-clause-reading c =
    let same = signed_same c.args.places c.args.max c.args.text.now c.split_sign-negative.result.1.now c.split_sign-negative.result.0 _ c.split_sign-negative.ensures.negative c.split_sign-negative.ensures.rest (c.in_err-size.ensures.reading) in
    let p = err_from_is_err_and c.from_residual.result c.from_residual.ensures.1 in rw (p.1, p.2) same

pub returns-then-negative-clause-reading : goal.returns-then-negative-clause-reading
returns-then-negative-clause-reading c =
    ap Ok (omega (arith, ints, c.in_ok-size.ensures.within)) ∙ signed_same c.args.places c.args.max c.args.text.now c.split_sign-negative.result.1.now _ _ (sym c.if-negative.true ∙ c.split_sign-negative.ensures.negative) c.split_sign-negative.ensures.rest (c.in_ok-size.ensures.reading)

pub returns-else-negative-clause-reading : goal.returns-else-negative-clause-reading
returns-else-negative-clause-reading c =
    ap Ok (omega (arith, ints, c.in_ok-size.ensures.within)) ∙ signed_same c.args.places c.args.max c.args.text.now c.split_sign-negative.result.1.now _ _ (sym c.if-negative.false ∙ c.split_sign-negative.ensures.negative) c.split_sign-negative.ensures.rest (c.in_ok-size.ensures.reading)
