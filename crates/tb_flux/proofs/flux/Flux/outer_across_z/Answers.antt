use Rattle.std.proofs.Common.{◌≡◌, ◌∙◌, ℕ, ◌<◌, ap, refl, subst, arith}
use Rattle.tb_places.specs.declared.AxisName.TheVariants.{Z}
use Rattle.tb_places.specs.Places.{Counts, face_number, place_at}
use Rattle.tb_grid.specs.Grid.{counts_of}
use Rattle.tb_grid.specs.Views.{along_axes}
use Rattle.tb_flux.specs.Walks.{FindsOuter}
use Rattle.tb_flux.proofs.Hulls.{few_faces, inner_z, pass_over, z_span, z_within}
use Rattle.tb_flux.proofs.flux.Flux.outer_across_z.Goals as goal

pub returns-then-k-counts : goal.returns-then-k-counts
returns-then-k-counts c =
    let n = counts_of c.args.grid.now in let k = c.args.k in
    let layer : k < n Z = omega (arith, c.if-k-counts.true, c.counts-counts.ensures.on_z) in
    pass_over c.args.body.now c.args.grid.now c.args.self.now _ _ c.base-base.ensures.accepted c.requires.carries c.requires.before
    (λ f low high. inner_z n k (face_number n Z (place_at 0 0 k)) f refl c.if-k-gt0.true layer low high)

pub overflow_add-from : goal.overflow_add-from
overflow_add-from c =
    let n = counts_of c.args.grid.now in
    let same : along_axes c.counts-counts.result ≡ n =
    rw (c.counts-counts.ensures.on_x, c.counts-counts.ensures.on_y, c.counts-counts.ensures.on_z) refl in
    let at : c.face_number-from.result.0 ≡ face_number n Z (place_at 0 0 c.args.k) =
    c.face_number-from.ensures.number ∙ ap (λ (t : Counts). face_number t Z (place_at 0 0 c.args.k)) same in
    let end = z_span n c.args.k _ _ _ at c.counts-counts.ensures.on_x c.counts-counts.ensures.on_y in
    let within = z_within n c.args.k c.requires.line in let few = few_faces c.args.grid.now c.counts-counts.ensures.grid in
    omega (arith, end, within, few)

pub outer_among-requires-clause-within : goal.outer_among-requires-clause-within
outer_among-requires-clause-within c =
    let n = counts_of c.args.grid.now in
    let same : along_axes c.counts-counts.result ≡ n =
    rw (c.counts-counts.ensures.on_x, c.counts-counts.ensures.on_y, c.counts-counts.ensures.on_z) refl in
    let at : c.face_number-from.result.0 ≡ face_number n Z (place_at 0 0 c.args.k) =
    c.face_number-from.ensures.number ∙ ap (λ (t : Counts). face_number t Z (place_at 0 0 c.args.k)) same in
    let end = z_span n c.args.k _ _ _ at c.counts-counts.ensures.on_x c.counts-counts.ensures.on_y in
    let within = z_within n c.args.k c.requires.line in omega (arith, end, within)

pub returns : goal.returns
returns c =
    let n = counts_of c.args.grid.now in
    let same : along_axes c.counts-counts.result ≡ n =
    rw (c.counts-counts.ensures.on_x, c.counts-counts.ensures.on_y, c.counts-counts.ensures.on_z) refl in
    let at : c.face_number-from.result.0 ≡ face_number n Z (place_at 0 0 c.args.k) =
    c.face_number-from.ensures.number ∙ ap (λ (t : Counts). face_number t Z (place_at 0 0 c.args.k)) same in
    let end = z_span n c.args.k _ _ _ at c.counts-counts.ensures.on_x c.counts-counts.ensures.on_y in
    subst (λ (f : ℕ). FindsOuter c.args.body.now c.args.grid.now c.args.self.now f c.outer_among.result) end c.outer_among.ensures
