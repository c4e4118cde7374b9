use Rattle.std.proofs.Common.{◌≡◌, ◌∙◌, ◌++◌, ap, append_assoc, codes, refl, rules, to_z, of_z, List, ℕ}
use mir.Syntax.{w128}
use Rattle.std.specs.Prelude.{decimal}
use Rattle.tb_numbers.specs.Texts.{fixed_text}
use Rattle.tb_outside.proofs.Gathered.{gathers_same}
use Rattle.tb_checker.proofs.texts.put_differs.Goals as goal

pieces : (a n b l s h c l2 h2 e : List ℕ) → a ++ (n ++ (b ++ (l ++ (s ++ (h ++ (c ++ (l2 ++ (s ++ (h2 ++ e))))))))) ≡ a ++ n ++ b ++ (l ++ s ++ h) ++ c ++ (l2 ++ s ++ h2) ++ e
pieces a n b l s h c l2 h2 e = simp append_assoc refl

pub returns : goal.returns
returns g c =
    let case : c.as_bytes-case.result.now ≡ decimal c.args.case = c.as_bytes-case.ensures.value ∙ c.format.ensures.text in
    let l : to_z w128 (of_z w128 c.args.claimed.lo) ≡ c.args.claimed.lo = search rules in
    let h : to_z w128 (of_z w128 c.args.claimed.hi) ≡ c.args.claimed.hi = search rules in
    let m : to_z w128 (of_z w128 c.args.found.lo) ≡ c.args.found.lo = search rules in
    let i : to_z w128 (of_z w128 c.args.found.hi) ≡ c.args.found.hi = search rules in
    let lo : c.as_bytes.result.now ≡ fixed_text 0 c.args.claimed.lo = c.as_bytes.ensures.bytes ∙ c.fixed-claimed_lo.ensures ∙ ap (fixed_text 0) l in
    let hi : c.as_bytes-2.result.now ≡ fixed_text 0 c.args.claimed.hi = c.as_bytes-2.ensures.bytes ∙ c.fixed-claimed_hi.ensures ∙ ap (fixed_text 0) h in
    let lo2 : c.as_bytes-3.result.now ≡ fixed_text 0 c.args.found.lo = c.as_bytes-3.ensures.bytes ∙ c.fixed-found_lo.ensures ∙ ap (fixed_text 0) m in
    let hi2 : c.as_bytes-4.result.now ≡ fixed_text 0 c.args.found.hi = c.as_bytes-4.ensures.bytes ∙ c.fixed-found_hi.ensures ∙ ap (fixed_text 0) i in
    gathers_same
    (pieces (codes "refused,IntervalDiffers,case ") (decimal c.args.case) (codes " claimed ") (fixed_text 0 c.args.claimed.lo) (codes " ") (fixed_text 0 c.args.claimed.hi)
    (codes " found ") (fixed_text 0 c.args.found.lo) (fixed_text 0 c.args.found.hi) (codes "\n"))
    (rw (case, lo, hi, lo2, hi2) at c.put_pieces.ensures)
