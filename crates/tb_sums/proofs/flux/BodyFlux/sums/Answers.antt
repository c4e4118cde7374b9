use Rattle.std.proofs.Common.{◌≡◌, ◌∙◌, ◌*◌, ◌^◌, ◌<◌, ap, arith, pos, rules, to_z, ◌<ℤ◌}
use Rattle.tb_places.specs.declared.AxisName.TheVariants.{Z}
use Rattle.tb_grid.specs.Grid.{counts_of}
use Rattle.tb_model.specs.Energy.{rounded_up}
use Rattle.tb_rows.specs.Rows.{mesh_under}
use Rattle.tb_rows.specs.Sums.{layers_up}
use Rattle.tb_rows.proofs.Grids.{few_cells}
use Rattle.tb_rows.proofs.Sums.{layers_start, layers_step, whole_is}
use Rattle.tb_sums.specs.BodyFluxes.{entering_under, loss_under}
use Rattle.tb_sums.proofs.Limits.{on_err, past_after_layer, past_at_layer}
use Rattle.tb_sums.proofs.LossRises.{loss_rises}
use Rattle.tb_sums.proofs.Runs.{one_more}
use Rattle.tb_sums.proofs.Stored.{IsNextTotal, next_total}
use Rattle.tb_sums.proofs.flux.BodyFlux.sums.Goals as goal
use mir.Syntax.{w128}

pub loop-k-init : goal.loop-k-init
loop-k-init c =
    let f = c.args.self.now in
    record {
      loss = layers_start (mesh_under f.rows) (loss_under f);
      within = omega arith;
      entering = layers_start (mesh_under f.rows) (entering_under f);
      size = omega arith;
    }

pub loop-k-preserved : goal.loop-k-preserved
loop-k-preserved c =
    let f = c.args.self.now in let l = c.loop-k in let r = c.in_ok-layer.layer in let h = c.in_ok-layer.ensures in
    let few = few_cells f.rows.grid.now Z c.requires.fits.rows.grid in
    let within : l.k < counts_of f.rows.grid.now Z = search rules in
    let t = to_z w128 l.entering-bits in
    let next : IsNextTotal t r.entering (l.k * (1023 * (1023 * (6 * 10 ^ 12)))) (1023 * (1023 * (6 * 10 ^ 12))) = next_total t r.entering _ _ l.invariant.size h.size (omega (arith, few, within)) in
    record {
      loss = one_more l.loss r.loss _ _ _ l.invariant.loss h.loss (layers_step (mesh_under f.rows) (loss_under f) l.k);
      within = c.if-loss-gt-MOST_LOSS.false;
      entering = next.value _ _ _ l.invariant.entering h.entering (layers_step (mesh_under f.rows) (entering_under f) l.k);
      size = omega (arith, next.size);
    }

pub returns-then-loss-gt-MOST_LOSS-clause-past_limit : goal.returns-then-loss-gt-MOST_LOSS-clause-past_limit
returns-then-loss-gt-MOST_LOSS-clause-past_limit c =
    let f = c.args.self.now in let l = c.loop-k in
    let within : l.k < counts_of f.rows.grid.now Z = search rules in
    past_after_layer (mesh_under f.rows) (loss_under f) (loss_rises f c.requires.fits) l.k l.loss c.in_ok-layer.layer.loss within
    l.invariant.loss c.in_ok-layer.ensures.loss c.if-loss-gt-MOST_LOSS.true

pub returns-in_err-layer-clause-past_limit : goal.returns-in_err-layer-clause-past_limit
returns-in_err-layer-clause-past_limit c =
    let f = c.args.self.now in let l = c.loop-k in
    let within : l.k < counts_of f.rows.grid.now Z = search rules in
    on_err c.from_residual.result (pos (2 ^ 120) <ℤ rounded_up (mesh_under f.rows) (loss_under f))
    (past_at_layer (mesh_under f.rows) (loss_under f) (loss_rises f c.requires.fits) l.k l.loss within l.invariant.loss c.in_err-layer.ensures.past_limit)

pub returns-clause-loss : goal.returns-clause-loss
returns-clause-loss c =
    let f = c.args.self.now in let l = c.loop-k in
    let end : l.k ≡ counts_of f.rows.grid.now Z = search rules in
    l.invariant.loss ∙ ap (layers_up (mesh_under f.rows) (loss_under f)) end ∙ whole_is (mesh_under f.rows) (loss_under f)

pub returns-clause-entering : goal.returns-clause-entering
returns-clause-entering c =
    let f = c.args.self.now in let l = c.loop-k in
    let end : l.k ≡ counts_of f.rows.grid.now Z = search rules in
    l.invariant.entering ∙ ap (layers_up (mesh_under f.rows) (entering_under f)) end ∙ whole_is (mesh_under f.rows) (entering_under f)
