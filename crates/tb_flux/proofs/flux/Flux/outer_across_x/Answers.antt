use Rattle.std.proofs.Common.{◌≡◌, ◌∙◌, ℕ, ◌<◌, ap, refl, subst, arith}
use Rattle.tb_places.specs.declared.AxisName.TheVariants.{X, Y}
use Rattle.tb_places.specs.Places.{Counts, face_number, place_at}
use Rattle.tb_grid.specs.Grid.{counts_of}
use Rattle.tb_grid.specs.Views.{along_axes}
use Rattle.tb_flux.specs.Walks.{IsTightBelow}
use Rattle.tb_flux.proofs.Hulls.{few_faces, inner_x, x_span, x_within}
use Rattle.tb_flux.proofs.flux.Flux.outer_across_x.Goals as goal

pub overflow_add-from : goal.overflow_add-from
overflow_add-from c =
    let n = counts_of c.args.grid.now in
    let same : along_axes c.counts-counts.result ≡ n =
    rw (c.counts-counts.ensures.on_x, c.counts-counts.ensures.on_y, c.counts-counts.ensures.on_z) refl in
    let row : c.loop-j.j < n Y = omega (arith, c.loop-j-test.true, c.counts-counts.ensures.on_y) in
    let at : c.face_number-from.result.0 ≡ face_number n X (place_at 0 c.loop-j.j c.args.k) =
    c.face_number-from.ensures.number ∙ ap (λ (t : Counts). face_number t X (place_at 0 c.loop-j.j c.args.k)) same in
    let end = x_span n c.loop-j.j c.args.k _ _ at c.counts-counts.ensures.on_x in
    let within = x_within n c.loop-j.j c.args.k row c.requires.layer in let few = few_faces c.args.grid.now c.counts-counts.ensures.grid in
    omega (arith, end, within, few)

pub outer_at_ends-requires-clause-within : goal.outer_at_ends-requires-clause-within
outer_at_ends-requires-clause-within c =
    let n = counts_of c.args.grid.now in
    let same : along_axes c.counts-counts.result ≡ n =
    rw (c.counts-counts.ensures.on_x, c.counts-counts.ensures.on_y, c.counts-counts.ensures.on_z) refl in
    let row : c.loop-j.j < n Y = omega (arith, c.loop-j-test.true, c.counts-counts.ensures.on_y) in
    let at : c.face_number-from.result.0 ≡ face_number n X (place_at 0 c.loop-j.j c.args.k) =
    c.face_number-from.ensures.number ∙ ap (λ (t : Counts). face_number t X (place_at 0 c.loop-j.j c.args.k)) same in
    let end = x_span n c.loop-j.j c.args.k _ _ at c.counts-counts.ensures.on_x in
    let within = x_within n c.loop-j.j c.args.k row c.requires.layer in omega (arith, end, within)

pub outer_at_ends-requires-clause-inner : goal.outer_at_ends-requires-clause-inner
outer_at_ends-requires-clause-inner c =
    let n = counts_of c.args.grid.now in
    let same : along_axes c.counts-counts.result ≡ n =
    rw (c.counts-counts.ensures.on_x, c.counts-counts.ensures.on_y, c.counts-counts.ensures.on_z) refl in
    let row : c.loop-j.j < n Y = omega (arith, c.loop-j-test.true, c.counts-counts.ensures.on_y) in
    let at : c.face_number-from.result.0 ≡ face_number n X (place_at 0 c.loop-j.j c.args.k) =
    c.face_number-from.ensures.number ∙ ap (λ (t : Counts). face_number t X (place_at 0 c.loop-j.j c.args.k)) same in
    let end = x_span n c.loop-j.j c.args.k _ _ at c.counts-counts.ensures.on_x in
    λ f low high. inner_x n c.loop-j.j c.args.k _ _ f at c.counts-counts.ensures.on_x row c.requires.layer low high

pub loop-j-preserved : goal.loop-j-preserved
loop-j-preserved c =
    let n = counts_of c.args.grid.now in
    let same : along_axes c.counts-counts.result ≡ n =
    rw (c.counts-counts.ensures.on_x, c.counts-counts.ensures.on_y, c.counts-counts.ensures.on_z) refl in
    let row : c.loop-j.j < n Y = omega (arith, c.loop-j-test.true, c.counts-counts.ensures.on_y) in
    let at : c.face_number-from.result.0 ≡ face_number n X (place_at 0 c.loop-j.j c.args.k) =
    c.face_number-from.ensures.number ∙ ap (λ (t : Counts). face_number t X (place_at 0 c.loop-j.j c.args.k)) same in
    let end = x_span n c.loop-j.j c.args.k _ _ at c.counts-counts.ensures.on_x in
    subst (λ (f : ℕ). IsTightBelow c.args.body.now c.args.grid.now c.args.self.now f) end c.in_default.ensures
