use Rattle.std.proofs.Common.{◌≡◌, ℕ, ◌<◌, arith, subst, sym, ◌∙◌}
use Rattle.std.proofs.lemmas.Bool.{true≢false}
use Rattle.tb_places.specs.Places.{face_count}
use Rattle.tb_grid.specs.Grid.{counts_of}
use Rattle.tb_flux.specs.Walks.{IsTightBelow}
use Rattle.tb_flux.proofs.Firsts.{leak_is_first, no_leak}
use Rattle.tb_flux.proofs.flux.Flux.outer_among.Goals as goal

pub returns-then-is_passed : goal.returns-then-is_passed
returns-then-is_passed c =
    let below : c.loop-number.number < face_count (counts_of c.args.grid.now) = omega (arith, c.requires.within) in
    leak_is_first c.args.body.now c.args.grid.now c.args.self.now c.loop-number.number below c.loop-number.invariant (c.is_passed.ensures.0 c.if-is_passed.true)

pub loop-number-preserved : goal.loop-number-preserved
loop-number-preserved c =
    let below : c.loop-number.number < face_count (counts_of c.args.grid.now) = omega (arith, c.requires.within) in
    no_leak c.args.body.now c.args.grid.now c.args.self.now c.loop-number.number below c.loop-number.invariant
    (λ passed. true≢false (sym (c.is_passed.ensures.1 passed) ∙ c.if-is_passed.false))

pub returns : goal.returns
returns c =
    let end : c.loop-number.number ≡ c.args.to = omega (arith, c.requires.up) in
    subst (λ (f : ℕ). IsTightBelow c.args.body.now c.args.grid.now c.args.self.now f) end c.loop-number.invariant
