use Rattle.std.proofs.Common.{◌≡◌, ◌∙◌, ap, rules}
use Rattle.tb_places.specs.Places.{Counts, node_count}
use Rattle.tb_moves.specs.Settings.{mesh_in}
use Rattle.tb_moves.proofs.setting.Setting.has_node.Goals as goal

pub returns : goal.returns
returns c =
    let count : c.nodes.result ≡ node_count (mesh_in c.args.self.now).cells = c.nodes.ensures ∙ ap (λ (n : Counts). node_count n) c.counts.ensures in
    rw (← count) (search rules)
