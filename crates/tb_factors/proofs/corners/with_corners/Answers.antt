use Rattle.std.proofs.Common.{◌≡◌, ◌∙◌, rules, ap, ◌++◌, [], ◌∷◌, to_z, of_z, w64}
use Rattle.tb_factors.specs.Factors.{extremes}
use Rattle.tb_factors.proofs.Widening.{four_more}
use Rattle.tb_factors.proofs.corners.with_corners.Goals as goal

pub returns : goal.returns
returns c = λ before e.
    let stored : to_z w64 (of_z w64 c.corner_value.result) ≡ c.corner_value.result = search rules in
    let stored2 : to_z w64 (of_z w64 c.corner_value-2.result) ≡ c.corner_value-2.result = search rules in
    let stored3 : to_z w64 (of_z w64 c.corner_value-3.result) ≡ c.corner_value-3.result = search rules in
    let stored4 : to_z w64 (of_z w64 c.corner_value-4.result) ≡ c.corner_value-4.result = search rules in
    let first = c.widened-first.ensures before e in
    let second = c.widened-second.ensures _ first in
    let third = c.widened-third.ensures _ second in
    let all = c.widened.ensures _ third in
    all ∙ ap extremes (four_more before _ _ _ _)
    ∙ (λ t. extremes (before ++ (stored ∙ c.corner_value.ensures) t ∷ (stored2 ∙ c.corner_value-2.ensures) t ∷ (stored3 ∙ c.corner_value-3.ensures) t ∷ (stored4 ∙ c.corner_value-4.ensures) t ∷ []))
