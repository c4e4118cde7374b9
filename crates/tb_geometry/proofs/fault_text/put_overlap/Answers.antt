use Rattle.std.proofs.Common.{◌≡◌, ◌∙◌, append_assoc}
use Rattle.std.specs.Prelude.{decimal}
use Rattle.tb_geometry.proofs.fault_text.put_overlap.Goals as goal

pub returns : goal.returns
returns g c =
    let first : c.as_bytes-first.result.now ≡ decimal c.args.first = c.as_bytes-first.ensures.value ∙ c.format.ensures.text in
    let second : c.as_bytes-second.result.now ≡ decimal c.args.second = c.as_bytes-second.ensures.value ∙ c.format-2.ensures.text in
    simp append_assoc (rw (first, second) at c.put_pieces.ensures)
