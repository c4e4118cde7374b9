use Rattle.std.proofs.Common.{◌≡◌, ◌^◌, arith, pos, ◌+ℤ◌, ◌≤ℤ◌}
use Rattle.std.proofs.lemmas.Int.{ints, to_z-of_z}
use Rattle.std.specs.Int.{w128}
use Rattle.tb_numbers.proofs.QuotientLaws.{rounded_not_negative}
use Rattle.tb_numbers.proofs.Sums.{term_added, term_fits}
use Rattle.tb_numbers.specs.Quotients.{rounded}
use Rattle.tb_numbers.proofs.sum.Sum.add_term.Goals as goal

pub invariant_of-self : goal.invariant_of-self
invariant_of-self g c =
    let is : c.div-term.result ≡ rounded g.R.Rounding.side c.args.n c.args.d = simp (to_z-of_z w128 c.args.n c.ranges.n, to_z-of_z w128 c.args.d c.ranges.d) at c.div-term.ensures.value in
    let least : pos 0 ≤ℤ c.div-term.result = rw is (rounded_not_negative g.R.Rounding.side c.args.n c.args.d c.requires.divisor c.requires.dividend) in
    let low : pos 0 ≤ℤ c.self.inside.total = c.self.invariant.0 in
    let high : c.self.inside.total ≤ℤ pos (2 ^ 120) = c.self.invariant.1 in
    let fits = term_fits c.self.inside.total c.div-term.result (record { sfits = c.div-term.type_inv }) low high c.if-term-self.false in
    (omega (arith, ints), omega (arith, ints))

pub returns-clause-added : goal.returns-clause-added
returns-clause-added g c =
    let is : c.div-term.result ≡ rounded g.R.Rounding.side c.args.n c.args.d = simp (to_z-of_z w128 c.args.n c.ranges.n, to_z-of_z w128 c.args.d c.ranges.d) at c.div-term.ensures.value in
    let least : pos 0 ≤ℤ c.div-term.result = rw is (rounded_not_negative g.R.Rounding.side c.args.n c.args.d c.requires.divisor c.requires.dividend) in
    let low : pos 0 ≤ℤ c.self.inside.total = c.self.invariant.0 in
    let high : c.self.inside.total ≤ℤ pos (2 ^ 120) = c.self.invariant.1 in
    let fits = term_fits c.self.inside.total c.div-term.result (record { sfits = c.div-term.type_inv }) low high c.if-term-self.false in
    rw (← is, ← c.self.view_is) (term_added c.self.inside.total c.div-term.result (record { sfits = c.div-term.type_inv }) low high least fits)

pub returns-clause-past_limit : goal.returns-clause-past_limit
returns-clause-past_limit g c =
    let is : c.div-term.result ≡ rounded g.R.Rounding.side c.args.n c.args.d = simp (to_z-of_z w128 c.args.n c.ranges.n, to_z-of_z w128 c.args.d c.ranges.d) at c.div-term.ensures.value in
    let fits = term_fits c.self.inside.total c.div-term.result (record { sfits = c.div-term.type_inv }) c.self.invariant.0 c.self.invariant.1 c.if-term-self.false in
    let most : (c.args.self.now +ℤ rounded g.R.Rounding.side c.args.n c.args.d) ≤ℤ pos (2 ^ 120) = rw (← is, ← c.self.view_is) fits in
    (λ e. cc e, λ past. absurd (omega (arith, ints, past, most)))
