use Rattle.std.proofs.Common.{◌≡◌, ◌∙◌, ℕ, ◌-◌, ◌*◌, ◌<◌, ◌≤◌, ◌^◌, ap, arith, refl, subst, sym, pos}
use Rattle.tb_places.specs.declared.AxisName.TheVariants.{X}
use Rattle.tb_grid.specs.Grid.{counts_of}
use Rattle.tb_geometry.specs.Base.{base_axes}
use Rattle.tb_rows.specs.Rows.{IsAround, mesh_under}
use Rattle.tb_rows.specs.Sums.{cells_from, cells_up}
use Rattle.tb_sums.specs.BodyFields.{IsRowOf, terms_under}
use Rattle.tb_rows.proofs.Grids.{few_cells, first_line, last_line}
use Rattle.tb_sums.proofs.Runs.{one_more}
use Rattle.tb_rows.proofs.Sums.{cells_next, cells_start}
use Rattle.tb_sums.proofs.energy.BodyField.row.Goals as goal

pub base_line-from-requires-clause-within : goal.base_line-from-requires-clause-within
base_line-from-requires-clause-within c = let least = (c.base_intervals-intervals.ensures.grid.axes X).least in omega (arith, least)

pub loop-b-init : goal.loop-b-init
loop-b-init c =
    let f = c.args.self.now in let h = c.requires.fits.rows in
    let zero : c.base_line-from.result ≡ 0 =
    first_line f.rows.body.now (base_axes f.rows.body.now.boxes) f.rows.grid.now refl c.base_intervals-intervals.ensures.grid h.grid h.carries c.base_line-from.result c.base_line-from.ensures in
    record { at = c.base_line-from.ensures; value = cells_start (mesh_under f.rows) (terms_under f) c.args.j c.args.k c.base_line-from.result zero; most = omega arith }

pub run-total-requires-clause-row : goal.run-total-requires-clause-row
run-total-requires-clause-row c =
    let f = c.args.self.now in let a = c.around-around.result in let is = c.around-around.ensures in let row = c.row_at-row.result in
    subst (λ (n : ℕ). IsRowOf f n a.k row) (sym is.row) (subst (λ (n : ℕ). IsRowOf f c.args.j n row) (sym is.layer) c.row_at-row.ensures)

pub run-total-requires-clause-around : goal.run-total-requires-clause-around
run-total-requires-clause-around c =
    let f = c.args.self.now in let a = c.around-around.result in let is = c.around-around.ensures in
    subst (λ (n : ℕ). IsAround f.rows n a.k a) (sym is.row) (subst (λ (n : ℕ). IsAround f.rows c.args.j n a) (sym is.layer) is)

pub run-total-requires-clause-base : goal.run-total-requires-clause-base
run-total-requires-clause-base c = let count = c.base_intervals-intervals.ensures.count in omega (arith, count)

pub run-total-requires-clause-from : goal.run-total-requires-clause-from
run-total-requires-clause-from c = c.loop-b.invariant.at

pub run-total-requires-clause-to : goal.run-total-requires-clause-to
run-total-requires-clause-to c = c.base_line-to.ensures

pub loop-b-preserved : goal.loop-b-preserved
loop-b-preserved c =
    let f = c.args.self.now in let a = c.around-around.result in let is = c.around-around.ensures in let l = c.loop-b in
    let to = c.base_line-to.result in
    let up : l.from < to = c.run-total.ensures.up in
    let most : c.run-total.result ≤ (to - l.from) * 10 ^ 26 = c.run-total.ensures.most in
    let before : l.total ≤ l.from * 10 ^ 26 = l.invariant.most in
    let value : pos c.run-total.result ≡ cells_from (mesh_under f.rows) (terms_under f) c.args.j c.args.k l.from (to - l.from) =
    c.run-total.ensures.value ∙ ap (λ (n : ℕ). cells_from (mesh_under f.rows) (terms_under f) n a.k l.from (to - l.from)) is.row ∙ ap (λ (n : ℕ). cells_from (mesh_under f.rows) (terms_under f) c.args.j n l.from (to - l.from)) is.layer in
    record {
      at = c.base_line-to.ensures;
      value = one_more l.total c.run-total.result _ _ _ l.invariant.value value (cells_next (mesh_under f.rows) (terms_under f) c.args.j c.args.k l.from to (omega arith));
      most = omega arith;
    }

pub returns-clause-value : goal.returns-clause-value
returns-clause-value c =
    let f = c.args.self.now in let h = c.requires.fits.rows in let l = c.loop-b in
    let count = c.base_intervals-intervals.ensures.count in
    let end : l.from ≡ counts_of f.rows.grid.now X =
    last_line f.rows.body.now (base_axes f.rows.body.now.boxes) f.rows.grid.now refl c.base_intervals-intervals.ensures.grid h.grid h.carries l.b l.from (omega (arith, count)) l.invariant.at in
    l.invariant.value ∙ ap (cells_up (mesh_under f.rows) (terms_under f) c.args.j c.args.k) end

pub returns-clause-most : goal.returns-clause-most
returns-clause-most c =
    let f = c.args.self.now in let h = c.requires.fits.rows in let l = c.loop-b in
    let count = c.base_intervals-intervals.ensures.count in
    let end : l.from ≡ counts_of f.rows.grid.now X =
    last_line f.rows.body.now (base_axes f.rows.body.now.boxes) f.rows.grid.now refl c.base_intervals-intervals.ensures.grid h.grid h.carries l.b l.from (omega (arith, count)) l.invariant.at in
    let few = few_cells f.rows.grid.now X h.grid in
    let before : l.total ≤ l.from * 10 ^ 26 = l.invariant.most in
    omega (arith, end, few, before)
