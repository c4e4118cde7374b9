use Rattle.std.proofs.Common.{◌<◌, ◌↔◌, IsTrue, subst}
use Rattle.tb_places.specs.Inverse.{edge_place}
use Rattle.tb_places.specs.Places.{Counts, edge_count}
use Rattle.tb_weighted.specs.Moves.{IsInnerEdge}
use Rattle.tb_moves.proofs.setting.Setting.has_loop.Goals as goal

pub returns : goal.returns
returns c = subst (λ (n : Counts). IsTrue c.is_inner.result ↔ ((c.args.edge.1 < edge_count n c.args.edge.0) × IsInnerEdge n c.args.edge.0 (edge_place n c.args.edge.0 c.args.edge.1))) c.counts.ensures c.is_inner.ensures
