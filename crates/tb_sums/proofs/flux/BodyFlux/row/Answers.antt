use Rattle.std.proofs.Common.{◌≡◌, ◌∙◌, ℕ, ◌+◌, ◌-◌, ◌*◌, ◌<◌, ◌≤◌, ◌^◌, ap, arith, refl, subst, sym, pos, to_z}
use Rattle.tb_places.specs.declared.AxisName.TheVariants.{X}
use Rattle.tb_grid.specs.Grid.{counts_of}
use Rattle.tb_geometry.specs.Base.{base_axes}
use Rattle.tb_rows.specs.Rows.{IsAround, mesh_under}
use Rattle.tb_rows.specs.Sums.{cells_from, cells_up}
use Rattle.tb_rows.proofs.Grids.{few_cells, first_line, last_line, line_within}
use Rattle.tb_rows.proofs.Sums.{cells_next, cells_start}
use Rattle.tb_sums.specs.BodyFluxes.{IsRowOfFlows, entering_under, loss_under}
use Rattle.tb_sums.proofs.Runs.{one_more}
use Rattle.tb_sums.proofs.Stored.{IsNextTotal, next_total}
use Rattle.tb_sums.proofs.flux.BodyFlux.row.Goals as goal
use mir.Syntax.{w128}

pub base_line-from-requires-clause-within : goal.base_line-from-requires-clause-within
base_line-from-requires-clause-within c = let least = (c.base_intervals-intervals.ensures.grid.axes X).least in omega (arith, least)

pub loop-b-init : goal.loop-b-init
loop-b-init c =
    let f = c.args.self.now in let h = c.requires.fits.rows in
    let zero : c.base_line-from.result ≡ 0 =
    first_line f.rows.body.now (base_axes f.rows.body.now.boxes) f.rows.grid.now refl c.base_intervals-intervals.ensures.grid h.grid h.carries c.base_line-from.result c.base_line-from.ensures in
    record {
      at = c.base_line-from.ensures;
      loss = cells_start (mesh_under f.rows) (loss_under f) c.args.j c.args.k c.base_line-from.result zero;
      most = omega arith;
      entering = cells_start (mesh_under f.rows) (entering_under f) c.args.j c.args.k c.base_line-from.result zero;
      size = omega arith;
    }

pub run-cells-requires-clause-row : goal.run-cells-requires-clause-row
run-cells-requires-clause-row c =
    let f = c.args.self.now in let a = c.around-around.result in let is = c.around-around.ensures in let row = c.row_at-row.result in
    subst (λ (n : ℕ). IsRowOfFlows f n a.k row) (sym is.row) (subst (λ (n : ℕ). IsRowOfFlows f c.args.j n row) (sym is.layer) c.row_at-row.ensures)

pub run-cells-requires-clause-around : goal.run-cells-requires-clause-around
run-cells-requires-clause-around c =
    let f = c.args.self.now in let a = c.around-around.result in let is = c.around-around.ensures in
    subst (λ (n : ℕ). IsAround f.rows n a.k a) (sym is.row) (subst (λ (n : ℕ). IsAround f.rows c.args.j n a) (sym is.layer) is)

pub run-cells-requires-clause-base : goal.run-cells-requires-clause-base
run-cells-requires-clause-base c = let count = c.base_intervals-intervals.ensures.count in omega (arith, count)

pub run-cells-requires-clause-from : goal.run-cells-requires-clause-from
run-cells-requires-clause-from c = c.loop-b.invariant.at

pub run-cells-requires-clause-to : goal.run-cells-requires-clause-to
run-cells-requires-clause-to c = c.base_line-to.ensures

pub loop-b-preserved : goal.loop-b-preserved
loop-b-preserved c =
    let f = c.args.self.now in let a = c.around-around.result in let is = c.around-around.ensures in let l = c.loop-b in let r = c.run-cells in
    let to = c.base_line-to.result in
    let up : l.from < to = r.ensures.up in
    let most : r.result.loss ≤ (to - l.from) * (15 * 10 ^ 34 + 6 * 10 ^ 30) = r.ensures.most in
    let before : l.loss ≤ l.from * (15 * 10 ^ 34 + 6 * 10 ^ 30) = l.invariant.most in
    let few = few_cells f.rows.grid.now X c.requires.fits.rows.grid in
    let within : to ≤ counts_of f.rows.grid.now X = line_within f.rows.grid.now to c.base_line-to.ensures.within in
    let loss : pos r.result.loss ≡ cells_from (mesh_under f.rows) (loss_under f) c.args.j c.args.k l.from (to - l.from) =
    r.ensures.loss ∙ ap (λ (n : ℕ). cells_from (mesh_under f.rows) (loss_under f) n a.k l.from (to - l.from)) is.row
    ∙ ap (λ (n : ℕ). cells_from (mesh_under f.rows) (loss_under f) c.args.j n l.from (to - l.from)) is.layer in
    let entering : r.result.entering ≡ cells_from (mesh_under f.rows) (entering_under f) c.args.j c.args.k l.from (to - l.from) =
    r.ensures.entering ∙ ap (λ (n : ℕ). cells_from (mesh_under f.rows) (entering_under f) n a.k l.from (to - l.from)) is.row
    ∙ ap (λ (n : ℕ). cells_from (mesh_under f.rows) (entering_under f) c.args.j n l.from (to - l.from)) is.layer in
    let t = to_z w128 l.entering-bits in
    let next : IsNextTotal t r.result.entering (l.from * (6 * 10 ^ 12)) ((to - l.from) * (6 * 10 ^ 12)) =
    next_total t r.result.entering _ _ l.invariant.size r.ensures.size (omega (arith, few, up, within)) in
    record {
      at = c.base_line-to.ensures;
      loss = one_more l.loss r.result.loss _ _ _ l.invariant.loss loss (cells_next (mesh_under f.rows) (loss_under f) c.args.j c.args.k l.from to (omega arith));
      most = omega arith;
      entering = next.value _ _ _ l.invariant.entering entering (cells_next (mesh_under f.rows) (entering_under f) c.args.j c.args.k l.from to (omega arith));
      size = omega (arith, next.size, up);
    }

pub returns-clause-loss : goal.returns-clause-loss
returns-clause-loss c =
    let f = c.args.self.now in let h = c.requires.fits.rows in let l = c.loop-b in
    let count = c.base_intervals-intervals.ensures.count in
    let end : l.from ≡ counts_of f.rows.grid.now X =
    last_line f.rows.body.now (base_axes f.rows.body.now.boxes) f.rows.grid.now refl c.base_intervals-intervals.ensures.grid h.grid h.carries l.b l.from (omega (arith, count)) l.invariant.at in
    l.invariant.loss ∙ ap (cells_up (mesh_under f.rows) (loss_under f) c.args.j c.args.k) end

pub returns-clause-most : goal.returns-clause-most
returns-clause-most c =
    let f = c.args.self.now in let h = c.requires.fits.rows in let l = c.loop-b in
    let count = c.base_intervals-intervals.ensures.count in
    let end : l.from ≡ counts_of f.rows.grid.now X =
    last_line f.rows.body.now (base_axes f.rows.body.now.boxes) f.rows.grid.now refl c.base_intervals-intervals.ensures.grid h.grid h.carries l.b l.from (omega (arith, count)) l.invariant.at in
    let few = few_cells f.rows.grid.now X h.grid in
    let before : l.loss ≤ l.from * (15 * 10 ^ 34 + 6 * 10 ^ 30) = l.invariant.most in
    omega (arith, end, few, before)

pub returns-clause-entering : goal.returns-clause-entering
returns-clause-entering c =
    let f = c.args.self.now in let h = c.requires.fits.rows in let l = c.loop-b in
    let count = c.base_intervals-intervals.ensures.count in
    let end : l.from ≡ counts_of f.rows.grid.now X =
    last_line f.rows.body.now (base_axes f.rows.body.now.boxes) f.rows.grid.now refl c.base_intervals-intervals.ensures.grid h.grid h.carries l.b l.from (omega (arith, count)) l.invariant.at in
    l.invariant.entering ∙ ap (cells_up (mesh_under f.rows) (entering_under f) c.args.j c.args.k) end

pub returns-clause-size : goal.returns-clause-size
returns-clause-size c =
    let f = c.args.self.now in let h = c.requires.fits.rows in let l = c.loop-b in
    let count = c.base_intervals-intervals.ensures.count in
    let end : l.from ≡ counts_of f.rows.grid.now X =
    last_line f.rows.body.now (base_axes f.rows.body.now.boxes) f.rows.grid.now refl c.base_intervals-intervals.ensures.grid h.grid h.carries l.b l.from (omega (arith, count)) l.invariant.at in
    let few = few_cells f.rows.grid.now X h.grid in
    omega (arith, end, few, l.invariant.size)
