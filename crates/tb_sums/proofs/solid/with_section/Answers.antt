use Rattle.std.proofs.Common.{◌≡◌, ◌∙◌, ℕ, ◌*◌, ap, arith}
use Rattle.tb_sums.proofs.solid.with_section.Goals as goal

grouped : (l b c : ℕ) → (3 * (l * b)) * c ≡ 3 * (l * (b * c))
grouped l b c = omega arith

pub returns : goal.returns
returns c =
    let a = c.args in
    c.times.ensures ∙ ap (λ (n : ℕ). n * a.c.divisor.divisor) c.requires.triple ∙ ap (λ (n : ℕ). (3 * (a.lambda * a.b)) * n) a.c.same ∙ grouped a.lambda a.b a.c.width
