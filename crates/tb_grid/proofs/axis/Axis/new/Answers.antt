use Rattle.std.proofs.Common.{◌≡◌, ℕ, ap, subst, Err}
use Rattle.tb_grid.specs.Axis.{IsFirstNotRising}
use Rattle.tb_grid.specs.declared.axis.LinesFault.TheVariants.{NotRising}
use Rattle.tb_grid.proofs.Rising.{first_is_one}
use Rattle.tb_grid.proofs.axis.Axis.new.Goals as goal

pub returns-in-Some-clause-not_rising : goal.returns-in-Some-clause-not_rising
returns-in-Some-clause-not_rising c =
    let lines = c.args.lines.items in
    let found = rw c.as_slice.ensures.value at c.in-Some.ensures in
    λ n. (
      λ same. let is : c.in-Some.n ≡ n = cc in subst (λ (m : ℕ). IsFirstNotRising lines m) is found,
      λ other. ap (λ (m : ℕ). Err (NotRising m)) (first_is_one lines c.in-Some.n n found other),
    )
