use Rattle.std.proofs.Common.{◌≡◌, ◌∙◌, ℕ, ap, refl, subst, arith}
use Rattle.tb_places.specs.declared.AxisName.TheVariants.{Y}
use Rattle.tb_places.specs.Places.{Counts, face_number, place_at}
use Rattle.tb_grid.specs.Grid.{counts_of}
use Rattle.tb_grid.specs.Views.{along_axes}
use Rattle.tb_flux.specs.Walks.{FindsOuter}
use Rattle.tb_flux.proofs.Hulls.{few_faces, inner_y, y_span, y_within}
use Rattle.tb_flux.proofs.flux.Flux.outer_across_y.Goals as goal

pub overflow_add-from : goal.overflow_add-from
overflow_add-from c =
    let n = counts_of c.args.grid.now in
    let same : along_axes c.counts-counts.result ≡ n =
    rw (c.counts-counts.ensures.on_x, c.counts-counts.ensures.on_y, c.counts-counts.ensures.on_z) refl in
    let at : c.face_number-from.result.0 ≡ face_number n Y (place_at 0 0 c.args.k) =
    c.face_number-from.ensures.number ∙ ap (λ (t : Counts). face_number t Y (place_at 0 0 c.args.k)) same in
    let end = y_span n c.args.k _ _ _ at c.counts-counts.ensures.on_x c.counts-counts.ensures.on_y in
    let within = y_within n c.args.k c.requires.layer in let few = few_faces c.args.grid.now c.counts-counts.ensures.grid in
    omega (arith, end, within, few)

pub outer_at_ends-requires-clause-within : goal.outer_at_ends-requires-clause-within
outer_at_ends-requires-clause-within c =
    let n = counts_of c.args.grid.now in
    let same : along_axes c.counts-counts.result ≡ n =
    rw (c.counts-counts.ensures.on_x, c.counts-counts.ensures.on_y, c.counts-counts.ensures.on_z) refl in
    let at : c.face_number-from.result.0 ≡ face_number n Y (place_at 0 0 c.args.k) =
    c.face_number-from.ensures.number ∙ ap (λ (t : Counts). face_number t Y (place_at 0 0 c.args.k)) same in
    let end = y_span n c.args.k _ _ _ at c.counts-counts.ensures.on_x c.counts-counts.ensures.on_y in
    let within = y_within n c.args.k c.requires.layer in omega (arith, end, within)

pub outer_at_ends-requires-clause-inner : goal.outer_at_ends-requires-clause-inner
outer_at_ends-requires-clause-inner c =
    let n = counts_of c.args.grid.now in
    let same : along_axes c.counts-counts.result ≡ n =
    rw (c.counts-counts.ensures.on_x, c.counts-counts.ensures.on_y, c.counts-counts.ensures.on_z) refl in
    let at : c.face_number-from.result.0 ≡ face_number n Y (place_at 0 0 c.args.k) =
    c.face_number-from.ensures.number ∙ ap (λ (t : Counts). face_number t Y (place_at 0 0 c.args.k)) same in
    let end = y_span n c.args.k _ _ _ at c.counts-counts.ensures.on_x c.counts-counts.ensures.on_y in
    λ f low high. inner_y n c.args.k _ _ _ f at c.counts-counts.ensures.on_x c.counts-counts.ensures.on_y c.requires.layer low high

pub returns : goal.returns
returns c =
    let n = counts_of c.args.grid.now in
    let same : along_axes c.counts-counts.result ≡ n =
    rw (c.counts-counts.ensures.on_x, c.counts-counts.ensures.on_y, c.counts-counts.ensures.on_z) refl in
    let at : c.face_number-from.result.0 ≡ face_number n Y (place_at 0 0 c.args.k) =
    c.face_number-from.ensures.number ∙ ap (λ (t : Counts). face_number t Y (place_at 0 0 c.args.k)) same in
    let end = y_span n c.args.k _ _ _ at c.counts-counts.ensures.on_x c.counts-counts.ensures.on_y in
    subst (λ (f : ℕ). FindsOuter c.args.body.now c.args.grid.now c.args.self.now f c.outer_at_ends.result) end c.outer_at_ends.ensures
