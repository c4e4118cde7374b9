use Rattle.std.proofs.Common.{arith, ◌∙◌}
use Rattle.tb_grid.specs.Views.{along_axes}
use Rattle.tb_outlets.proofs.Planting.{outlet_is}
use Rattle.tb_outlets.proofs.tree.Tree.outlet.Goals as goal

pub returns : goal.returns
returns c = λ m same tree. outlet_is (along_axes c.args.counts) m c.args.self.now.marks.items c.args.self.now.sides.items c.args.self.now.order.items
    c.args.cell.0 c.face_on.result.0 c.cell_place.result c.index-side.result.now same tree
    (λ none. c.if-distance-eq0.false (c.distance.ensures.value ∙ none)) (omega (arith, c.requires.cell, c.requires.sides))
    c.cell_place.ensures.place c.index-side.ensures c.face_on.ensures.face
