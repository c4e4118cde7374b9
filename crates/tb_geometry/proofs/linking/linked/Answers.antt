use Rattle.std.proofs.Common.{◌<◌, List, length, refl, subst, sym, ◌∙◌}
use Rattle.std.specs.List.{All}
use Rattle.tb_detail.specs.declared.SpaceBox.{SpaceBox}
use Rattle.tb_geometry.proofs.Solids.{first_is_isolated, holders_are_boxes, none_is_isolated}
use Rattle.tb_geometry.proofs.linking.linked.Goals as goal

pub solid_cells-requires : goal.solid_cells-requires
solid_cells-requires c =
    subst (λ (boxes : List SpaceBox). All (λ n. n < length boxes) c.args.holders.now) (sym c.items.ensures)
    (holders_are_boxes c.args.detail.now.boxes c.args.holders.now c.requires.holders)

pub returns-in-Some : goal.returns-in-Some
returns-in-Some c =
    let corner = c.low_corner-x.ensures in (
      c.low_corner-x.result.0,
      c.low_corner-x.result.1,
      c.low_corner-x.result.2,
      refl,
      first_is_isolated c.args.detail.now c.args.base.now c.items.result.now c.args.holders.now c.as_slice.result.now c.in-Some.cell.0 _ _ _
          c.requires.base c.requires.apart c.requires.holders c.items.ensures (c.as_slice.ensures.value ∙ c.in_ok-solid.ensures)
          (rw c.in-Some.is at c.in_ok-found.ensures.first) corner.x corner.y corner.z,
    )

pub returns : goal.returns
returns c =
    none_is_isolated c.args.detail.now c.args.base.now c.items.result.now c.args.holders.now c.as_slice.result.now
    c.requires.base c.requires.apart c.requires.holders c.items.ensures (c.as_slice.ensures.value ∙ c.in_ok-solid.ensures)
    (rw c.in-None.is at c.in_ok-found.ensures.first)
