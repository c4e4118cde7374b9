use Rattle.std.proofs.Common.{◌≡◌, ◌∙◌, ap, append_assoc, rules, to_z, of_z}
use mir.Syntax.{w128}
use Rattle.tb_numbers.specs.Texts.{fixed_text}
use Rattle.tb_outside.proofs.Gathered.{gathers_both}
use Rattle.tb_checker.proofs.texts.put_accepted.Goals as goal

pub returns : goal.returns
returns g c =
    let l : to_z w128 (of_z w128 c.args.proof.now.interval.lo) ≡ c.args.proof.now.interval.lo = search rules in
    let h : to_z w128 (of_z w128 c.args.proof.now.interval.hi) ≡ c.args.proof.now.interval.hi = search rules in
    let lo : c.as_bytes.result.now ≡ fixed_text 0 c.args.proof.now.interval.lo = c.as_bytes.ensures.bytes ∙ c.fixed-lo.ensures ∙ ap (fixed_text 0) l in
    let hi : c.as_bytes-2.result.now ≡ fixed_text 0 c.args.proof.now.interval.hi = c.as_bytes-2.ensures.bytes ∙ c.fixed-hi.ensures ∙ ap (fixed_text 0) h in
    gathers_both c.put.ensures.gathers (gathers_both c.put_set_name.ensures (simp append_assoc (rw (lo, hi) at c.put_pieces.ensures)))
