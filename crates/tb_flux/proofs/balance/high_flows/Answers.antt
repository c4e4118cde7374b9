use Rattle.std.proofs.Common.{arith}
use Rattle.tb_grid.specs.Views.{along_axes}
use Rattle.tb_flux.proofs.CellRows.{high_row_within}
use Rattle.tb_flux.proofs.balance.high_flows.Goals as goal

pub flows_from-requires : goal.flows_from-requires
flows_from-requires c =
    let within = high_row_within (along_axes c.args.counts) c.args.axis c.args.first c.requires.cell c.requires.first in
    omega (arith, within, c.high_face.ensures.face, c.requires.fits)
