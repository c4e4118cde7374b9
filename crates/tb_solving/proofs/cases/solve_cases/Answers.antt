use Rattle.std.proofs.Common.{ap, ◌∙◌}
use Rattle.tb_geometry.specs.Cases.{case_masks}
use Rattle.tb_checker.specs.Contents.{AreCertified}
use Rattle.tb_solving.specs.Certified.{AreRightCases}
use Rattle.tb_solving.proofs.Right.{all_right, for_ok}
use Rattle.tb_solving.proofs.cases.solve_cases.Goals as goal

pub returns-clause-certified : goal.returns-clause-certified
returns-clause-certified c =
    for_ok c.solve_sets.result (λ proofs. AreRightCases c.args.body.now c.args.grid.now c.args.target c.masks_of.result.now proofs.items)
    (λ proofs. AreCertified (record { detail = c.args.body.now; cases = proofs.items })) c.solve_sets.ensures
    (λ proofs h. all_right c.args.body.now c.args.grid.now c.args.target c.masks_of.result.now proofs.items (c.masks_of.ensures.masks ∙ ap case_masks c.environments-count.ensures) c.look_at.ensures.limits c.look_at.ensures.accepted h)
