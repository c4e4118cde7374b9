use Rattle.std.proofs.Common.{◌≡◌, ◌∙◌, append_assoc}
use Rattle.std.specs.Prelude.{decimal}
use Rattle.tb_checker.proofs.texts.put_outer.Goals as goal

pub returns : goal.returns
returns g c =
    let case : c.as_bytes-case.result.now ≡ decimal c.args.case = c.as_bytes-case.ensures.value ∙ c.format.ensures.text in
    let face : c.as_bytes-face.result.now ≡ decimal c.args.face.0 = c.as_bytes-face.ensures.value ∙ c.format-2.ensures.text in
    simp append_assoc (rw (case, face) at c.put_pieces.ensures)
