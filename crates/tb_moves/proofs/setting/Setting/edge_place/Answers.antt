use Rattle.std.proofs.Common.{◌<◌, ap, subst, sym, ◌∙◌}
use Rattle.tb_places.specs.Inverse.{edge_place}
use Rattle.tb_places.specs.Places.{Counts, edge_count}
use Rattle.tb_moves.proofs.setting.Setting.edge_place.Goals as goal

pub edge_place-requires : goal.edge_place-requires
edge_place-requires c = subst (λ (n : Counts). c.args.edge.1 < edge_count n c.args.edge.0) (sym c.counts.ensures) c.requires

pub returns : goal.returns
returns c = c.edge_place.ensures.place ∙ ap (λ (n : Counts). edge_place n c.args.edge.0 c.args.edge.1) c.counts.ensures
