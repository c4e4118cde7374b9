use Rattle.std.proofs.Common.{◌≡◌, ◌∙◌, ap, append_assoc}
use Rattle.std.specs.Prelude.{decimal}
use Rattle.tb_numbers.specs.Texts.{decimal_text}
use Rattle.tb_case_records.proofs.fault_text.put_line_missing.Goals as goal

pub returns : goal.returns
returns g c =
    let case : c.as_bytes-case.result.now ≡ decimal c.args.case = c.as_bytes-case.ensures.value ∙ c.format.ensures.text in
    let line : c.as_bytes.result.now ≡ decimal_text 1 c.args.line = c.as_bytes.ensures.bytes ∙ c.decimal-line.ensures.text ∙ ap (decimal_text 1) c.from.ensures in
    simp append_assoc (rw (case, c.letter.ensures, line) at c.put_pieces.ensures)
