use Rattle.std.proofs.Common.{◌≡◌, ◌∙◌, ap, append_assoc, rules, to_z, of_z}
use mir.Syntax.{w128}
use Rattle.std.specs.Prelude.{decimal}
use Rattle.tb_numbers.specs.Texts.{fixed_text}
use Rattle.thermal_cli.proofs.demo.put_line.Goals as goal

pub returns : goal.returns
returns g c =
    let storeys : c.as_bytes-storeys.result.now ≡ decimal c.args.answer.storeys = c.as_bytes-storeys.ensures.value ∙ c.format.ensures.text in
    let cells : c.as_bytes-cells.result.now ≡ decimal c.args.answer.cells = c.as_bytes-cells.ensures.value ∙ c.format-2.ensures.text in
    let l : to_z w128 (of_z w128 c.args.answer.interval.lo) ≡ c.args.answer.interval.lo = search rules in
    let h : to_z w128 (of_z w128 c.args.answer.interval.hi) ≡ c.args.answer.interval.hi = search rules in
    let lo : c.as_bytes.result.now ≡ fixed_text 0 c.args.answer.interval.lo = c.as_bytes.ensures.bytes ∙ c.fixed-lo.ensures ∙ ap (fixed_text 0) l in
    let hi : c.as_bytes-2.result.now ≡ fixed_text 0 c.args.answer.interval.hi = c.as_bytes-2.ensures.bytes ∙ c.fixed-hi.ensures ∙ ap (fixed_text 0) h in
    simp append_assoc (rw (storeys, cells, lo, hi, c.verdict_word.ensures) at c.put_pieces.ensures)
