use Rattle.std.proofs.Common.{List, arith, sym, subst, ap, ◌∙◌}
use Rattle.std.specs.List.{Contains}
use Rattle.std.proofs.lemmas.List.Elements.{Contains-push}
use Rattle.tb_places.specs.Places.{cell_count}
use Rattle.tb_grid.specs.declared.ids.CellId.{CellId}
use Rattle.tb_grid.specs.Views.{along_axes}
use Rattle.tb_walk.specs.Spreading.{IsWalk, flag}
use Rattle.tb_walk.proofs.Ends.{all_reached}
use Rattle.tb_walk.proofs.Spreads.{flag_below, taken, walk_at, walk_from}
use Rattle.tb_walk.proofs.spreading.spread_all.Goals as goal

pub new-requires : goal.new-requires
new-requires c =
    let listed : Contains c.loop-cell.work.items c.in-Some.cell = subst (λ (w : List CellId). Contains w c.in-Some.cell) (sym c.in-Some.ensures.items) (Contains-push c.pop.new.self.items c.in-Some.cell) in
    let below = flag_below c.loop-cell.reached c.in-Some.cell.0 (c.loop-cell.invariant.listed c.in-Some.cell listed) in
    let same = c.loop-cell.invariant.same_length in
    omega arith

pub spread-requires-clause-here : goal.spread-requires-clause-here
spread-requires-clause-here c =
    let listed : Contains c.loop-cell.work.items c.in-Some.cell = subst (λ (w : List CellId). Contains w c.in-Some.cell) (sym c.in-Some.ensures.items) (Contains-push c.pop.new.self.items c.in-Some.cell) in
    ap (λ (x : CellId). flag c.loop-cell.reached x.0) c.new.ensures.cell ∙ c.loop-cell.invariant.listed c.in-Some.cell listed

pub spread-requires-clause-walk : goal.spread-requires-clause-walk
spread-requires-clause-walk c =
    let n = along_axes c.args.counts in
    walk_at c.args.counts c.new.result.counts c.in-Some.cell c.new.result.cell c.args.marked.now c.loop-cell.reached c.pop.new.self.items c.new.ensures.counts c.new.ensures.cell
    (taken n c.args.marked.now c.in-Some.cell c.loop-cell.reached c.pop.new.self.items
    (subst (λ (w : List CellId). IsWalk n c.args.marked.now (cell_count n) (cell_count n) c.loop-cell.reached w) c.in-Some.ensures.items c.loop-cell.invariant))

pub loop-cell-preserved : goal.loop-cell-preserved
loop-cell-preserved c = walk_from c.args.counts c.new.result.counts c.args.marked.now c.spread.new.reached c.spread.new.work.items c.new.ensures.counts c.in_ok-spread.ensures.walk

pub returns : goal.returns
returns c = all_reached (along_axes c.args.counts) c.args.marked.now c.loop-cell.reached c.loop-cell.work.items (let none = c.in_default.ensures.cases in omega (arith, none.0)) c.loop-cell.invariant
