use Rattle.std.proofs.Common.{ap, ◌∙◌}
use Rattle.std.specs.Prelude.{◌*ℤ◌, neg_ℤ}
use Rattle.tb_places.specs.declared.Place.{Place}
use Rattle.tb_outlets.specs.Cycles.{out}
use Rattle.tb_outlets.specs.Sides.{axis_of, place_on}
use Rattle.tb_cycle_moves.specs.Reaches.{slope_at}
use Rattle.tb_cycle_moves.proofs.walk.entered.Goals as goal

pub returns-clause-slope : goal.returns-clause-slope
returns-clause-slope c =
    c.entry_reach.ensures.slope
    ∙ ap (λ (p : Place). neg_ℤ (out c.args.entry.side) *ℤ slope_at c.args.table.now c.args.flows.now (axis_of c.args.entry.side) (place_on c.args.entry.side p)) c.cell_place.ensures.place
