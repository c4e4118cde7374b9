use Rattle.std.proofs.Common.{◌≡◌, ◌∙◌, ap, append_assoc, rules, to_z, of_z}
use mir.Syntax.{w128}
use Rattle.std.specs.Prelude.{decimal}
use Rattle.tb_numbers.specs.Texts.{fixed_text}
use Rattle.tb_checker.proofs.texts.put_unbalanced.Goals as goal

pub returns : goal.returns
returns g c =
    let s : to_z w128 (of_z w128 c.args.sum) ≡ c.args.sum = search rules in
    let case : c.as_bytes-case.result.now ≡ decimal c.args.case = c.as_bytes-case.ensures.value ∙ c.format.ensures.text in
    let cell : c.as_bytes-cell.result.now ≡ decimal c.args.cell.0 = c.as_bytes-cell.ensures.value ∙ c.format-2.ensures.text in
    let sum : c.as_bytes.result.now ≡ fixed_text 0 c.args.sum = c.as_bytes.ensures.bytes ∙ c.fixed-sum.ensures ∙ ap (fixed_text 0) s in
    simp append_assoc (rw (case, cell, sum) at c.put_pieces.ensures)
