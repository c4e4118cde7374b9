use Rattle.std.proofs.Common.{◌≡◌, ◌-◌, ◌/◌, ◌++◌, ℕ, List, OnOk, append_assoc, arith, subst}
use Rattle.tb_grid.specs.CutPoints.{high_cuts}
use Rattle.tb_grid.proofs.CutSteps.{high_more}
use Rattle.tb_grid.proofs.level.+push_high_cuts.Goals as goal

pub returns : goal.returns
returns t c =
    let a = c.args in
    let more = high_more a.most a.q a.distance (omega arith) (omega arith) in
    let joined : c.push.new.self.items ++ high_cuts (a.most - 1) a.q (a.distance / 2) ≡ a.lines.now.items ++ high_cuts a.most a.q a.distance =
    rw (c.in_ok-push.ensures.items, more, append_assoc) in
    subst (λ (all : List ℕ). OnOk c.push_high_cuts.result (c.push_high_cuts.new.lines.items ≡ all)) joined c.push_high_cuts.ensures
