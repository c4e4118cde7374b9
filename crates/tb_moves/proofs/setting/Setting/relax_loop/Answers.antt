use Rattle.std.proofs.Common.{subst, sym}
use Rattle.tb_places.specs.Places.{Counts}
use Rattle.tb_weighted.specs.Moves.{IsInnerEdge}
use Rattle.tb_moves.specs.Settings.{case_in, mesh_in}
use Rattle.tb_moves.proofs.OnTables.{flux_here, flux_there, loop_moved}
use Rattle.tb_moves.proofs.setting.Setting.relax_loop.Goals as goal

pub relax_loop-requires-clause-flux : goal.relax_loop-requires-clause-flux
relax_loop-requires-clause-flux c = flux_there (mesh_in c.args.self.now) (case_in c.args.self.now) c.table.result c.table.ensures.counts c.table.ensures.of_mesh c.args.flows.now c.requires.flux

pub relax_loop-requires-clause-edge : goal.relax_loop-requires-clause-edge
relax_loop-requires-clause-edge c = subst (λ (n : Counts). IsInnerEdge n c.args.axis c.args.edge) (sym c.table.ensures.counts) c.requires.edge

pub returns-clause-moved : goal.returns-clause-moved
returns-clause-moved c = loop_moved (mesh_in c.args.self.now) (case_in c.args.self.now) c.table.result c.table.ensures.counts c.table.ensures.of_mesh c.args.axis c.args.edge c.args.flows.now c.relax_loop.new.flows c.relax_loop.ensures.moved

pub returns-clause-kept : goal.returns-clause-kept
returns-clause-kept c = flux_here (mesh_in c.args.self.now) (case_in c.args.self.now) c.table.result c.table.ensures.counts c.table.ensures.of_mesh c.relax_loop.new.flows c.relax_loop.ensures.kept
