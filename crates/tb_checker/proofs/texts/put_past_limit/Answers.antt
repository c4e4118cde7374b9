use Rattle.std.proofs.Common.{◌≡◌, ◌∙◌}
use Rattle.std.specs.Prelude.{decimal}
use Rattle.tb_checker.proofs.texts.put_past_limit.Goals as goal

pub returns : goal.returns
returns g c =
    let case : c.as_bytes-case.result.now ≡ decimal c.args.case = c.as_bytes-case.ensures.value ∙ c.format.ensures.text in
    rw case at c.put_pieces.ensures
