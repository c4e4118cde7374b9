use Rattle.std.proofs.Common.{◌∙◌, sym, ◌≡◌, ◌+◌, ◌*◌, ap, arith, ℕ, ◌-◌, ◌<◌}
use Rattle.std.specs.Int.{div_ceil}
use Rattle.tb_rows.proofs.RoundedUp.{up_rest}
use Rattle.tb_rows.proofs.quotient.quotient_up.Goals as goal

pub returns : goal.returns
returns c =
    let d = c.from-divisor.result in let q = c.from-guess.result in
    let e : c.args.n ≡ q * d + (c.args.n - q * d) = omega arith in
    let positive : 0 < d = omega arith in
    ap (λ (t : ℕ). q + t) (c.rest_up.ensures ∙ ap (λ (t : ℕ). div_ceil (c.args.n - q * d) t) (sym c.from-divisor.ensures)) ∙ up_rest c.args.n d q (c.args.n - q * d) positive e ∙ ap (λ (t : ℕ). div_ceil c.args.n t) c.from-divisor.ensures
