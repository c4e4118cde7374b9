use Rattle.std.proofs.Common.{refl}
use Rattle.tb_trees.proofs.Filled.{filled_solid}
use Rattle.tb_trees.proofs.flags.is_solid.Goals as goal

pub returns-in-Solid : goal.returns-in-Solid
returns-in-Solid c =
    let solid = filled_solid c.args.body.now.materials _ _ c.in-Solid.ensures in
    (λ _. record { material = solid.0; fills = solid.1 }, λ _. refl)
