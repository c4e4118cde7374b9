use Rattle.std.proofs.Common.{◌≡◌, ◌∙◌, ℕ, ◌+◌, ◌<◌, ap, arith, refl, rules, subst, sym, of_z, to_z}
use Rattle.std.proofs.lemmas.Bool.{true≢false}
use Rattle.tb_places.specs.declared.AxisName.TheVariants.{X}
use Rattle.tb_places.specs.Places.{Counts, IsCell, cell_count, cell_number, place_at}
use Rattle.tb_places.proofs.Cells.{cell_number_below}
use Rattle.tb_places.proofs.Runs.{cell_rows}
use Rattle.tb_grid.specs.Grid.{counts_of}
use Rattle.tb_grid.specs.Views.{along_axes}
use Rattle.tb_flux.specs.Fluxes.{flux_on}
use Rattle.tb_flux.specs.Walks.{IsKeptBelow}
use Rattle.tb_flux.proofs.CellRows.{cell_at, leaves}
use Rattle.tb_flux.proofs.Firsts.{loss_is_first, no_loss}
use Rattle.tb_flux.proofs.flux.Flux.unbalanced_in_row.Goals as goal
use mir.Syntax.{w128}

pub is_loss-requires-clause-cell : goal.is_loss-requires-clause-cell
is_loss-requires-clause-cell c =
    let d = c.args.body.now in let g = c.args.grid.now in let values = c.args.self.now in let n = counts_of g in
    let i = c.loop-i.i in let j = c.args.j in let k = c.args.k in
    let same : along_axes c.counts-counts.result ≡ n =
    rw (c.counts-counts.ensures.on_x, c.counts-counts.ensures.on_y, c.counts-counts.ensures.on_z) refl in
    let number : c.cell_number-number.result.0 ≡ cell_number (along_axes c.counts-counts.result) (place_at 0 j k) = c.cell_number-number.ensures.number in
    let numbered : c.cell_number-number.result.0 ≡ cell_number n (place_at 0 j k) = number ∙ ap (λ (t : Counts). cell_number t (place_at 0 j k)) same in
    let at : c.cell_number-number.result.0 + i ≡ cell_number n (place_at i j k) = cell_at n _ i j k numbered in
    let cell : IsCell n (place_at i j k) = (omega (arith, c.loop-i-test.true, c.counts-counts.ensures.on_x), c.requires.row, c.requires.layer) in
    let within : c.cell_number-number.result.0 + i < cell_count n = subst (λ (t : ℕ). t < cell_count n) (sym at) (cell_number_below n (place_at i j k) cell) in
    within

pub returns-then-is_loss : goal.returns-then-is_loss
returns-then-is_loss c =
    let d = c.args.body.now in let g = c.args.grid.now in let values = c.args.self.now in let n = counts_of g in
    let i = c.loop-i.i in let j = c.args.j in let k = c.args.k in
    let same : along_axes c.counts-counts.result ≡ n =
    rw (c.counts-counts.ensures.on_x, c.counts-counts.ensures.on_y, c.counts-counts.ensures.on_z) refl in
    let number : c.cell_number-number.result.0 ≡ cell_number (along_axes c.counts-counts.result) (place_at 0 j k) = c.cell_number-number.ensures.number in
    let numbered : c.cell_number-number.result.0 ≡ cell_number n (place_at 0 j k) = number ∙ ap (λ (t : Counts). cell_number t (place_at 0 j k)) same in
    let at : c.cell_number-number.result.0 + i ≡ cell_number n (place_at i j k) = cell_at n _ i j k numbered in
    let cell : IsCell n (place_at i j k) = (omega (arith, c.loop-i-test.true, c.counts-counts.ensures.on_x), c.requires.row, c.requires.layer) in
    let within : c.cell_number-number.result.0 + i < cell_count n = subst (λ (t : ℕ). t < cell_count n) (sym at) (cell_number_below n (place_at i j k) cell) in
    let before : IsKeptBelow d g values (c.cell_number-number.result.0 + i) = subst (λ (t : ℕ). IsKeptBelow d g values t) (sym at) c.loop-i.invariant in
    let whole : to_z w128 (of_z w128 c.leaving-sum.result) ≡ c.leaving-sum.result = search rules in
    let is = leaves (along_axes c.counts-counts.result) n _ values c.cell_row-row.result c.cell_number-number.result.0 i j k (to_z w128 (of_z w128 c.leaving-sum.result))
    same c.values.ensures c.cell_row-row.ensures.flows number (subst (λ (t : Counts). IsCell t (place_at i j k)) (sym same) cell) (whole ∙ c.leaving-sum.ensures) in
    loss_is_first d g (flux_on g values) _ _ within before is (c.is_loss.ensures.0 c.if-is_loss.true)

pub loop-i-preserved : goal.loop-i-preserved
loop-i-preserved c =
    let d = c.args.body.now in let g = c.args.grid.now in let values = c.args.self.now in let n = counts_of g in
    let i = c.loop-i.i in let j = c.args.j in let k = c.args.k in
    let same : along_axes c.counts-counts.result ≡ n =
    rw (c.counts-counts.ensures.on_x, c.counts-counts.ensures.on_y, c.counts-counts.ensures.on_z) refl in
    let number : c.cell_number-number.result.0 ≡ cell_number (along_axes c.counts-counts.result) (place_at 0 j k) = c.cell_number-number.ensures.number in
    let numbered : c.cell_number-number.result.0 ≡ cell_number n (place_at 0 j k) = number ∙ ap (λ (t : Counts). cell_number t (place_at 0 j k)) same in
    let at : c.cell_number-number.result.0 + i ≡ cell_number n (place_at i j k) = cell_at n _ i j k numbered in
    let cell : IsCell n (place_at i j k) = (omega (arith, c.loop-i-test.true, c.counts-counts.ensures.on_x), c.requires.row, c.requires.layer) in
    let within : c.cell_number-number.result.0 + i < cell_count n = subst (λ (t : ℕ). t < cell_count n) (sym at) (cell_number_below n (place_at i j k) cell) in
    let before : IsKeptBelow d g values (c.cell_number-number.result.0 + i) = subst (λ (t : ℕ). IsKeptBelow d g values t) (sym at) c.loop-i.invariant in
    let whole : to_z w128 (of_z w128 c.leaving-sum.result) ≡ c.leaving-sum.result = search rules in
    let is = leaves (along_axes c.counts-counts.result) n _ values c.cell_row-row.result c.cell_number-number.result.0 i j k (to_z w128 (of_z w128 c.leaving-sum.result))
    same c.values.ensures c.cell_row-row.ensures.flows number (subst (λ (t : Counts). IsCell t (place_at i j k)) (sym same) cell) (whole ∙ c.leaving-sum.ensures) in
    let after : IsKeptBelow d g values (c.cell_number-number.result.0 + i + 1) =
    no_loss d g (flux_on g values) _ _ before is (λ loss. true≢false (sym (c.is_loss.ensures.1 loss) ∙ c.if-is_loss.false)) in
    let next : c.cell_number-number.result.0 + i + 1 ≡ cell_number n (place_at (i + 1) j k) = omega (arith, at) in
    subst (λ (t : ℕ). IsKeptBelow d g values t) next after

pub returns : goal.returns
returns c =
    let d = c.args.body.now in let g = c.args.grid.now in let values = c.args.self.now in let n = counts_of g in
    let j = c.args.j in let k = c.args.k in
    let end : c.loop-i.i ≡ n X = omega arith in
    subst (λ (t : ℕ). IsKeptBelow d g values t) (ap (λ (i : ℕ). cell_number n (place_at i j k)) end ∙ cell_rows n j k) c.loop-i.invariant
