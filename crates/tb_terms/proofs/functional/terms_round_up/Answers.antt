use Rattle.tb_terms.proofs.Quotients.{quotient-rounded_up}
use Rattle.tb_terms.proofs.functional.terms_round_up.Goals as goal

pub returns : goal.returns
returns g c x n positive value = quotient-rounded_up (g.F.Functional.term x) n (g.F.Functional.divisor x) (record { positive = positive; value = value })
