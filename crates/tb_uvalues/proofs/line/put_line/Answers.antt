use Rattle.std.proofs.Common.{◌≡◌, ◌∙◌, ap, append_assoc, pos, ◌^◌, rules, to_z, of_z}
use Rattle.std.proofs.lemmas.Int.{to_z-of_z}
use mir.Syntax.{w128}
use Rattle.tb_numbers.specs.Quotients.{ceiling, floor}
use Rattle.tb_numbers.specs.Texts.{fixed_text}
use Rattle.tb_uvalues.proofs.line.put_line.Goals as goal

pub returns : goal.returns
returns g c =
    let l : to_z w128 (of_z w128 c.args.value.u.lo) ≡ c.args.value.u.lo = search rules in
    let h : to_z w128 (of_z w128 c.args.value.u.hi) ≡ c.args.value.u.hi = search rules in
    let e : to_z w128 (of_z w128 c.args.value.error) ≡ c.args.value.error = search rules in
    let down = to_z-of_z w128 c.div.result (record { sfits = c.div.type_inv }) in
    let up = to_z-of_z w128 c.div-2.result (record { sfits = c.div-2.type_inv }) in
    let lo : c.as_bytes.result.now ≡ fixed_text 6 (floor c.args.value.u.lo (pos (10 ^ 9)))
    = c.as_bytes.ensures.bytes ∙ c.fixed-lo.ensures ∙ ap (fixed_text 6) (down ∙ c.div.ensures.value ∙ ap (λ z. floor z (pos (10 ^ 9))) l) in
    let hi : c.as_bytes-2.result.now ≡ fixed_text 6 (ceiling c.args.value.u.hi (pos (10 ^ 9)))
    = c.as_bytes-2.ensures.bytes ∙ c.fixed-hi.ensures ∙ ap (fixed_text 6) (up ∙ c.div-2.ensures.value ∙ ap (λ z. ceiling z (pos (10 ^ 9))) h) in
    let error : c.as_bytes-3.result.now ≡ fixed_text 4 c.args.value.error = c.as_bytes-3.ensures.bytes ∙ c.fixed-error.ensures ∙ ap (fixed_text 4) e in
    simp append_assoc (rw (c.bytes.ensures, lo, hi, error) at c.put_pieces.ensures)
