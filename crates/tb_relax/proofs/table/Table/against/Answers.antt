use Rattle.std.proofs.Common.{arith, ap, sym, ◌∙◌, subst, Bool, ◌≤◌, ◌^◌, unsigned_abs}
use Rattle.std.proofs.lemmas.Int.{ints}
use lib.IntN.{ℤ, neg_ℤ}
use Rattle.tb_weighted.specs.FlowMoves.{counted}
use Rattle.tb_relax.specs.Tables.{rate_through, slope_through}
use Rattle.tb_relax.proofs.table.Table.against.Goals as goal

pub returns-clause-here_size : goal.returns-clause-here_size
returns-clause-here_size c = subst (λ (z : ℤ). unsigned_abs z ≤ 10 ^ 12) (sym c.reversed.ensures.here) c.with.ensures.here_size

pub returns-clause-rate : goal.returns-clause-rate
returns-clause-rate c = c.reversed.ensures.rate ∙ c.with.ensures.rate ∙ ap (λ (b : Bool). counted b (rate_through c.args.self.now c.args.at.axis c.args.at.i c.args.at.j c.args.at.k)) (sym c.reversed.ensures.counts)

pub returns-clause-slope : goal.returns-clause-slope
returns-clause-slope c = c.reversed.ensures.slope ∙ ap neg_ℤ (c.with.ensures.slope ∙ ap (λ (b : Bool). counted b (slope_through c.args.self.now c.args.flows.now c.args.at.axis c.args.at.i c.args.at.j c.args.at.k)) (sym c.reversed.ensures.counts))

pub returns-clause-low : goal.returns-clause-low
returns-clause-low c = λ h.
    let l = c.reversed.ensures.low in
    let k = c.with.ensures.high (sym c.reversed.ensures.counts ∙ h) in
    let e = c.reversed.ensures.here in
    omega (arith, ints)

pub returns-clause-high : goal.returns-clause-high
returns-clause-high c = λ h.
    let l = c.reversed.ensures.high in
    let k = c.with.ensures.low (sym c.reversed.ensures.counts ∙ h) in
    let e = c.reversed.ensures.here in
    omega (arith, ints)
