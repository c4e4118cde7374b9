use Rattle.std.proofs.Common.{◌≡◌, ◌∙◌, append_assoc}
use Rattle.std.specs.Prelude.{decimal}
use Rattle.thermal_cli.proofs.solve.put_lines.Goals as goal

pub returns : goal.returns
returns g c =
    let count : c.as_bytes-count.result.now ≡ decimal c.args.count = c.as_bytes-count.ensures.value ∙ c.format.ensures.text in
    simp append_assoc (rw (c.letter.ensures, count) at c.put_pieces.ensures)
