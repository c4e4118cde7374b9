use Rattle.std.proofs.Common.{◌≡◌, ◌∙◌, ap, append-nil, append_assoc, pos, ◌^◌, rules, to_z, of_z}
use Rattle.std.proofs.lemmas.Int.{to_z-of_z}
use mir.Syntax.{w128}
use Rattle.tb_numbers.specs.Quotients.{ceiling, floor}
use Rattle.tb_numbers.specs.Texts.{fixed_text}
use Rattle.tb_report.proofs.ends.put_ends.Goals as goal

pub returns : goal.returns
returns g c =
    let l : to_z w128 (of_z w128 c.args.value.lo) ≡ c.args.value.lo = search rules in
    let h : to_z w128 (of_z w128 c.args.value.hi) ≡ c.args.value.hi = search rules in
    let down = to_z-of_z w128 c.div.result (record { sfits = c.div.type_inv }) in
    let up = to_z-of_z w128 c.div-2.result (record { sfits = c.div-2.type_inv }) in
    let lo : c.as_bytes.result.now ≡ fixed_text 6 (floor c.args.value.lo (pos (10 ^ 9)))
    = c.as_bytes.ensures.bytes ∙ c.fixed-lo.ensures ∙ ap (fixed_text 6) (down ∙ c.div.ensures.value ∙ ap (λ z. floor z (pos (10 ^ 9))) l) in
    let hi : c.as_bytes-2.result.now ≡ fixed_text 6 (ceiling c.args.value.hi (pos (10 ^ 9)))
    = c.as_bytes-2.ensures.bytes ∙ c.fixed-hi.ensures ∙ ap (fixed_text 6) (up ∙ c.div-2.ensures.value ∙ ap (λ z. ceiling z (pos (10 ^ 9))) h) in
    simp append_assoc (simp append-nil at (rw (lo, hi) at c.put_pieces.ensures))
