use Rattle.std.proofs.Common.{◌≡◌, ap, ◌∙◌, rules, subst, ℕ, ◌+◌, ◌*◌, ◌^◌, to_z, of_z}
use Rattle.std.specs.Int.{w128}
use Rattle.tb_model.specs.Refinement.{scene_of}
use Rattle.tb_conduct.specs.Coupling.{IsSoundPair}
use Rattle.tb_conduct.specs.Pairs.{AreWithin, highest, interval_of, lowest}
use Rattle.tb_conduct.proofs.Halves.{pair_sound, pair_within}
use Rattle.tb_conduct.proofs.pairs.pair.Goals as goal

pub twice-requires-2-clause-first : goal.twice-requires-2-clause-first
twice-requires-2-clause-first c =
    let stored : to_z w128 (of_z w128 c.interval_of-first.result.hi) ≡ c.interval_of-first.result.hi = search rules in
    rw stored (c.interval_of-first.ensures.size (2 ^ 121) c.requires.sizes).high

pub twice-requires-2-clause-second : goal.twice-requires-2-clause-second
twice-requires-2-clause-second c =
    let stored : to_z w128 (of_z w128 c.interval_of-second.result.hi) ≡ c.interval_of-second.result.hi = search rules in
    rw stored (c.interval_of-second.ensures.size (2 ^ 121) c.requires.sizes).high

pub twice-requires-2-clause-both : goal.twice-requires-2-clause-both
twice-requires-2-clause-both c =
    let stored : to_z w128 (of_z w128 c.interval_of-both.result.lo) ≡ c.interval_of-both.result.lo = search rules in
    rw stored (c.interval_of-both.ensures.size (2 ^ 121) c.requires.sizes).low

pub returns-clause-lo : goal.returns-clause-lo
returns-clause-lo c = search rules

pub returns-clause-hi : goal.returns-clause-hi
returns-clause-hi c = search rules

pub returns-clause-sound : goal.returns-clause-sound
returns-clause-sound c d limits n sound =
    let all : IsSoundPair (scene_of d) c.args.i c.args.j (lowest c.args.environments c.args.intervals.now c.args.i c.args.j) (highest c.args.environments c.args.intervals.now c.args.i c.args.j)
    = subst (λ (t : ℕ). IsSoundPair (scene_of d) c.args.i c.args.j (lowest t c.args.intervals.now c.args.i c.args.j) (highest t c.args.intervals.now c.args.i c.args.j)) n
    (pair_sound d c.args.intervals.now c.args.i c.args.j limits (rw n c.requires.environments.0) (rw n c.requires.environments.1) sound c.requires.ordered.0 (rw n c.requires.ordered.1)) in
    rw (returns-clause-lo c, returns-clause-hi c) all

pub returns-clause-size : goal.returns-clause-size
returns-clause-size c = λ most sizes.
    let of = interval_of c.args.environments c.args.intervals.now in
    let first : c.interval_of-first.result ≡ of (2 ^ c.args.i) = c.interval_of-first.ensures.value ∙ ap of c.alone.ensures.value in
    let second : c.interval_of-second.result ≡ of (2 ^ c.args.j) = c.interval_of-second.ensures.value ∙ ap of c.alone-2.ensures.value in
    let both : c.interval_of-both.result ≡ of (2 ^ c.args.i + 2 ^ c.args.j) = c.interval_of-both.ensures.value ∙ ap of c.together.ensures.value in
    let within = pair_within most (of (2 ^ c.args.i)) (of (2 ^ c.args.j)) (of (2 ^ c.args.i + 2 ^ c.args.j))
    (subst (AreWithin (2 * most)) first (c.interval_of-first.ensures.size (2 * most) sizes))
    (subst (AreWithin (2 * most)) second (c.interval_of-second.ensures.size (2 * most) sizes))
    (subst (AreWithin (2 * most)) both (c.interval_of-both.ensures.size (2 * most) sizes)) in
    record { low = rw (returns-clause-lo c) within.low; high = rw (returns-clause-hi c) within.high }
