use Rattle.std.proofs.Common.{◌+◌, arith}
use Rattle.tb_flux.proofs.Hulls.{pass_over}
use Rattle.tb_flux.proofs.flux.Flux.outer_at_ends.Goals as goal

pub overflow_add-from : goal.overflow_add-from
overflow_add-from c = let few = c.requires.few in omega (arith, few)

pub outer_among-requires-2-clause-before : goal.outer_among-requires-2-clause-before
outer_among-requires-2-clause-before c =
    pass_over c.args.body.now c.args.grid.now c.args.self.now (c.args.from + c.args.few) _ c.base-base.ensures.accepted c.requires.carries
    c.in_default.ensures (λ f low high. c.requires.inner f low (omega (arith, high)))
