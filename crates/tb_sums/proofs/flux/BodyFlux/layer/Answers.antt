use Rattle.std.proofs.Common.{◌≡◌, ◌∙◌, ◌*◌, ◌^◌, ◌<◌, ap, arith, rules, to_z}
use Rattle.tb_places.specs.declared.AxisName.TheVariants.{Y}
use Rattle.tb_grid.specs.Grid.{counts_of}
use Rattle.tb_rows.specs.Rows.{mesh_under}
use Rattle.tb_rows.specs.Sums.{rows_up}
use Rattle.tb_rows.proofs.Grids.{few_cells}
use Rattle.tb_rows.proofs.Sums.{rows_start, rows_step}
use Rattle.tb_sums.specs.BodyFluxes.{entering_under, loss_under}
use Rattle.tb_sums.proofs.Limits.{past_after_row}
use Rattle.tb_sums.proofs.LossRises.{loss_rises}
use Rattle.tb_sums.proofs.Runs.{one_more}
use Rattle.tb_sums.proofs.Stored.{IsNextTotal, next_total}
use Rattle.tb_sums.proofs.flux.BodyFlux.layer.Goals as goal
use mir.Syntax.{w128}

pub loop-j-init : goal.loop-j-init
loop-j-init c =
    let f = c.args.self.now in
    record {
      loss = rows_start (mesh_under f.rows) (loss_under f) c.args.k;
      within = omega arith;
      entering = rows_start (mesh_under f.rows) (entering_under f) c.args.k;
      size = omega arith;
    }

pub loop-j-preserved : goal.loop-j-preserved
loop-j-preserved c =
    let f = c.args.self.now in let l = c.loop-j in let r = c.row-row.result in let h = c.row-row.ensures in
    let few = few_cells f.rows.grid.now Y c.requires.fits.rows.grid in
    let within : l.j < counts_of f.rows.grid.now Y = search rules in
    let t = to_z w128 l.entering-bits in
    let next : IsNextTotal t r.entering (l.j * (1023 * (6 * 10 ^ 12))) (1023 * (6 * 10 ^ 12)) = next_total t r.entering _ _ l.invariant.size h.size (omega (arith, few, within)) in
    record {
      loss = one_more l.loss r.loss _ _ _ l.invariant.loss h.loss (rows_step (mesh_under f.rows) (loss_under f) c.args.k l.j);
      within = c.if-loss-gt-MOST_LOSS.false;
      entering = next.value _ _ _ l.invariant.entering h.entering (rows_step (mesh_under f.rows) (entering_under f) c.args.k l.j);
      size = omega (arith, next.size);
    }

pub returns-then-loss-gt-MOST_LOSS-clause-past_limit : goal.returns-then-loss-gt-MOST_LOSS-clause-past_limit
returns-then-loss-gt-MOST_LOSS-clause-past_limit c =
    let f = c.args.self.now in let l = c.loop-j in
    let within : l.j < counts_of f.rows.grid.now Y = search rules in
    past_after_row (mesh_under f.rows) (loss_under f) (loss_rises f c.requires.fits) l.j c.args.k l.loss c.row-row.result.loss within c.requires.layer
    l.invariant.loss c.row-row.ensures.loss c.if-loss-gt-MOST_LOSS.true

pub returns-clause-entering : goal.returns-clause-entering
returns-clause-entering c =
    let f = c.args.self.now in let l = c.loop-j in
    let end : l.j ≡ counts_of f.rows.grid.now Y = search rules in
    l.invariant.entering ∙ ap (rows_up (mesh_under f.rows) (entering_under f) c.args.k) end
