use Rattle.std.proofs.Common.{ap, sym, ◌∙◌}
use Rattle.std.specs.Prelude.{◌*ℤ◌}
use Rattle.tb_places.specs.declared.Place.{Place}
use Rattle.tb_outlets.specs.declared.side.Side.{Side}
use Rattle.tb_outlets.specs.Cycles.{out}
use Rattle.tb_outlets.specs.Sides.{axis_of, place_on}
use Rattle.tb_cycle_moves.specs.Reaches.{passing, slope_at}
use Rattle.std.proofs.Common.{true}
use Rattle.tb_cycle_moves.proofs.reach.side_reach.Goals as goal

pub returns-in-Low-clause-slope : goal.returns-in-Low-clause-slope
returns-in-Low-clause-slope c =
    c.face_reach.ensures.slope
    ∙ sym (ap (λ (s : Side). out s *ℤ slope_at c.args.table.now c.args.flows.now (axis_of s) (place_on s c.args.cell)) c.in-Low.is)

pub returns-in-High-clause-slope : goal.returns-in-High-clause-slope
returns-in-High-clause-slope c =
    c.face_reach-in-High.ensures.slope
    ∙ ap (λ (p : Place). passing true *ℤ slope_at c.args.table.now c.args.flows.now c.in-High.axis p) c.next-place.ensures
    ∙ sym (ap (λ (s : Side). out s *ℤ slope_at c.args.table.now c.args.flows.now (axis_of s) (place_on s c.args.cell)) c.in-High.is)
