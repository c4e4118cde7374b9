use Rattle.std.proofs.Common.{ap, subst, ◌∙◌, arith}
use Rattle.std.proofs.lemmas.Int.{ints}
use Rattle.std.specs.Prelude.{ℤ, ◌+ℤ◌}
use Rattle.tb_places.specs.declared.Place.{Place}
use Rattle.tb_outlets.specs.Balancing.{side_at}
use Rattle.tb_relax.specs.Tables.{table_counts}
use Rattle.tb_cycle_moves.specs.Reaches.{IsPassed}
use Rattle.tb_cycle_moves.proofs.walk.passed.Goals as goal

pub returns-clause-passed : goal.returns-clause-passed
returns-clause-passed c =
    let n = table_counts c.args.table.now in
    subst (λ (p : Place). IsPassed n c.args.table.now c.args.flows.now p c.args.at.side (side_at c.args.sides.now c.args.at.cell.0) c.args.so_far c.joined.result) c.cell_place-place.ensures.place
    (record {
      slope = c.joined.ensures.slope ∙ ap (λ (z : ℤ). c.args.so_far.pull.slope +ℤ z) c.cell_reach.ensures.slope;
      within = λ x. (
        λ in_range. (((c.joined.ensures.within x).0 in_range).0, (c.cell_reach.ensures.within x).0 ((c.joined.ensures.within x).0 in_range).1),
        λ both. (c.joined.ensures.within x).1 (both.0, (c.cell_reach.ensures.within x).1 both.1),
      );
      more = c.cell_reach.result.pull.rate;
      met = c.cell_reach.ensures.rate;
      rate = c.joined.ensures.rate;
    })

pub returns-clause-opens_up : goal.returns-clause-opens_up
returns-clause-opens_up c =
    let r = c.joined.ensures.rate in
    let x = c.requires.so_far.opens_up in
    let y = c.cell_reach.ensures.bounded.opens_up in
    omega (arith, ints)
