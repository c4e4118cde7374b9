use Rattle.std.proofs.Common.{◌≡◌, ap, subst, sym, ◌∙◌, rules, of_z, to_z}
use Rattle.std.specs.Prelude.{ℤ}
use mir.Syntax.{w64}
use Rattle.tb_places.specs.Places.{Counts, face_count}
use Rattle.tb_cycle_moves.specs.Turns.{IsLeastMultiple}
use Rattle.tb_cycle_moves.proofs.Multiples.{step_is_least}
use Rattle.tb_cycle_moves.proofs.moves.cycle_multiple.Goals as goal

pub returns : goal.returns
returns c =
    let step : to_z w64 (of_z w64 c.least.result) ≡ c.least.result = search rules in
    let reach = c.cycle_reach.ensures in
    record {
      least = λ m same leads f cycle entry is_cycle.
          subst (λ (x : ℤ). IsLeastMultiple m c.args.table.now c.args.flows.now cycle x) (sym step)
          (step_is_least m c.args.table.now same c.args.flows.now cycle (c.requires.flux.faces ∙ ap (λ (n : Counts). face_count n) same) is_cycle.count c.cycle_reach.result (reach.reach m same leads f cycle entry is_cycle)
          reach.under reach.over c.least.result c.least.ensures);
    }
