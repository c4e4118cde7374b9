use Rattle.std.proofs.Common.{◌≡◌, ◌*◌, ◌≤◌, List, ℕ, length, ap, subst, ◌∙◌, arith}
use Rattle.tb_grid.specs.Axis.{AreLinesThrough}
use Rattle.tb_geometry.proofs.Coordinates.{base_unique, coordinate_count, two_coordinates}
use Rattle.tb_geometry.proofs.base.base_axis.Goals as goal

pub through-requires-clause-two : goal.through-requires-clause-two
through-requires-clause-two c =
    rw c.in_ok-coordinates.ensures (two_coordinates c.args.axis c.args.boxes.now c.requires.some c.requires.boxes)

pub through-requires-clause-few : goal.through-requires-clause-few
through-requires-clause-few c =
    let few : length c.args.boxes.now ≤ 512 = c.requires.boxes.few in
    let long : length c.in_ok-coordinates.field-0.items ≡ 2 * length c.args.boxes.now =
    ap length c.in_ok-coordinates.ensures ∙ coordinate_count c.args.axis c.args.boxes.now in
    omega arith

pub returns : goal.returns
returns c =
    base_unique c.args.axis c.args.boxes.now c.through.result
    (subst (λ (all : List ℕ). AreLinesThrough all c.through.result) c.in_ok-coordinates.ensures c.through.ensures)
