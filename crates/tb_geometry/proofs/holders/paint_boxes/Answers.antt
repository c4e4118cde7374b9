use Rattle.std.proofs.Common.{◌≤◌, ℕ, List, length, get_or, subst, sym, arith}
use Rattle.std.specs.List.{Contains}
use Rattle.std.proofs.lemmas.List.Elements.{Contains-get_or}
use Rattle.tb_places.specs.Places.{Counts}
use Rattle.tb_model.specs.Refinement.{high, low}
use Rattle.tb_geometry.specs.Bodies.{no_box}
use Rattle.tb_geometry.specs.Painting.{FitsIn, HasCell, IsPainted}
use Rattle.tb_geometry.proofs.Coordinates.{high_line, low_line}
use Rattle.tb_geometry.proofs.Tables.{base_counts_of, base_lines_of, range_fits, range_of, table_of_none, table_of_one_more}
use Rattle.tb_geometry.proofs.holders.paint_boxes.Goals as goal

pub loop-n-init : goal.loop-n-init
loop-n-init c = table_of_none c.args.boxes.now c.args.table.now c.requires.whole c.requires.unpainted

pub cells_of-requires-clause-lows : goal.cells_of-requires-clause-lows
cells_of-requires-clause-lows c =
    λ a. subst (λ (lines : List ℕ). Contains lines (low a (get_or c.args.boxes.now c.loop-n.n no_box)))
    (sym (base_lines_of c.args.base.now c.args.boxes.now c.requires.base a))
    (low_line a c.args.boxes.now (get_or c.args.boxes.now c.loop-n.n no_box) (Contains-get_or c.args.boxes.now c.loop-n.n no_box c.loop-n-test.true))

pub cells_of-requires-clause-highs : goal.cells_of-requires-clause-highs
cells_of-requires-clause-highs c =
    λ a. subst (λ (lines : List ℕ). Contains lines (high a (get_or c.args.boxes.now c.loop-n.n no_box)))
    (sym (base_lines_of c.args.base.now c.args.boxes.now c.requires.base a))
    (high_line a c.args.boxes.now (get_or c.args.boxes.now c.loop-n.n no_box) (Contains-get_or c.args.boxes.now c.loop-n.n no_box c.loop-n-test.true))

pub paint-requires-clause-fits : goal.paint-requires-clause-fits
paint-requires-clause-fits c =
    let here = c.counts-counts.ensures in
    let counts = base_counts_of c.args.base.now c.args.boxes.now c.counts-counts.result.x c.counts-counts.result.y c.counts-counts.result.z c.requires.base here.on_x here.on_y here.on_z in
    let range = range_of c.args.base.now c.args.boxes.now (get_or c.args.boxes.now c.loop-n.n no_box) c.cells_of.result c.requires.base c.cells_of.ensures.from c.cells_of.ensures.to in
    subst (λ (n : Counts). FitsIn n c.cells_of.result) (sym counts)
    (range_fits c.args.boxes.now (get_or c.args.boxes.now c.loop-n.n no_box) c.cells_of.result
    (c.requires.boxes.proper c.loop-n.n no_box c.loop-n-test.true) range)

pub loop-n-preserved : goal.loop-n-preserved
loop-n-preserved c =
    let few : length c.args.boxes.now ≤ 512 = c.requires.boxes.few in
    let here = c.counts-counts.ensures in
    let counts = base_counts_of c.args.base.now c.args.boxes.now c.counts-counts.result.x c.counts-counts.result.y c.counts-counts.result.z c.requires.base here.on_x here.on_y here.on_z in
    let range = range_of c.args.base.now c.args.boxes.now (get_or c.args.boxes.now c.loop-n.n no_box) c.cells_of.result c.requires.base c.cells_of.ensures.from c.cells_of.ensures.to in
    table_of_one_more c.args.boxes.now c.loop-n.n no_box c.cells_of.result c.loop-n.table c.paint.new.table c.loop-n-test.true (omega arith)
    range c.loop-n.invariant
    (subst (λ (n : Counts). IsPainted n (HasCell c.cells_of.result) c.loop-n.n c.loop-n.table c.paint.new.table) counts c.paint.ensures)
