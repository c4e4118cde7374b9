use Rattle.std.proofs.Common.{length, sym, true≢false, refl, arith}
use Rattle.tb_detail.proofs.Distinct.{AreNewBelow, distinct_from_new, known_not_distinct}
use Rattle.tb_detail.proofs.names.are_distinct.Goals as goal

pub returns-then-is_taken : goal.returns-then-is_taken
returns-then-is_taken g c = (
  λ e. absurd (true≢false (sym e)),
  λ distinct. absurd (known_not_distinct g.T.Named.name_of c.args.things.now c.loop-place.place c.index-things-place.result
      c.loop-place-test.true c.index-things-place.is (sym c.if-is_taken.ensures) distinct),
)

pub returns : goal.returns
returns g c = (λ e. distinct_from_new g.T.Named.name_of c.args.things.now new, λ distinct. refl)
  where
    new : AreNewBelow g.T.Named.name_of c.args.things.now (length c.args.things.now)
    new j d within = c.loop-place.invariant j d (let ended = c.loop-place-test.false in omega arith)
