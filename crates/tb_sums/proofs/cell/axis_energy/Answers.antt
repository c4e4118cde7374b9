use Rattle.std.proofs.Common.{◌≡◌, ◌∙◌, ap, ℕ, ◌*◌, pos}
use Rattle.std.specs.Int.{div_ceil}
use Rattle.tb_math.specs.Ceiling.{ceiling}
use Rattle.tb_sums.specs.Corners.{energy_of}
use Rattle.tb_sums.proofs.Spreads.{energy_at_most, energy_rounded_up}
use Rattle.tb_sums.proofs.cell.axis_energy.Goals as goal

value : (c : goal.After-quotient_up) → pos c.quotient_up.result ≡ ceiling (energy_of c.args.lambda c.args.a.width c.args.b.width c.args.c.width c.args.spread)
value c = let a = c.args in
    energy_rounded_up a.lambda a.a.width a.b.width a.c.width a.spread c.quotient_up.result a.a.fits.above_zero
    (c.quotient_up.ensures
    ∙ ap (λ (n : ℕ). div_ceil (n * c.from-5.result) a.a.energy.divisor) (c.from-4.ensures
    ∙ ap (λ (n : ℕ). n * (c.from.result * c.from-2.result)) c.from-3.ensures
    ∙ ap (λ (n : ℕ). a.lambda * (n * c.from-2.result)) c.from.ensures
    ∙ ap (λ (n : ℕ). a.lambda * (a.b.width * n)) c.from-2.ensures)
    ∙ ap (λ (n : ℕ). div_ceil (a.lambda * (a.b.width * a.c.width) * n) a.a.energy.divisor) c.from-5.ensures
    ∙ ap (div_ceil (a.lambda * (a.b.width * a.c.width) * a.spread)) a.a.divisor)

pub returns-clause-value : goal.returns-clause-value
returns-clause-value c = value c

pub returns-clause-most : goal.returns-clause-most
returns-clause-most c = let a = c.args in
    energy_at_most a.lambda a.a.width a.b.width a.c.width a.spread c.quotient_up.result
    c.requires.conductivity a.a.fits a.b.fits a.c.fits c.requires.spread (value c)
