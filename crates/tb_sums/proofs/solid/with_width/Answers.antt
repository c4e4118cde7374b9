use Rattle.std.proofs.Common.{◌≡◌, ◌∙◌, ℕ, ◌*◌, ap, arith}
use Rattle.tb_sums.proofs.solid.with_width.Goals as goal

grouped : (l w : ℕ) → (3 * l) * w ≡ 3 * (l * w)
grouped l w = omega arith

pub returns : goal.returns
returns c =
    let a = c.args in
    c.times.ensures ∙ ap (λ (n : ℕ). n * a.width.divisor.divisor) c.requires.triple ∙ ap (λ (n : ℕ). (3 * a.lambda) * n) a.width.same ∙ grouped a.lambda a.width.width
